use Rattle.std.proofs.Common.{◌≡◌, take, map}
use Rattle.channel_pieces.specs.Keeping.{kept_on_nodes}
use Rattle.channel_pieces.specs.Fields.{homed}
use Rattle.channel_pieces.proofs.keeping.kept_on_nodes.Given as goal

abbrev pub invariant-pieces : goal.invariant-pieces
invariant-pieces l = l.kept.items ≡ kept_on_nodes l.floor.0 (map (homed l.places.segments) (take l.piece-index l.pieces))
