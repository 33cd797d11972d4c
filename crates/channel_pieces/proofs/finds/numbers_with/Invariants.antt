use Rattle.std.proofs.Common.{◌≡◌, take, map}
use Rattle.channel_pieces.specs.Pieces.{numbers_at}
use Rattle.channel_pieces.specs.Fields.{homed}
use Rattle.channel_pieces.proofs.finds.numbers_with.Given as goal

abbrev pub invariant-pieces : goal.invariant-pieces
invariant-pieces l = l.numbers.items ≡ numbers_at l.home (map (homed l.places.segments) (take l.piece-index l.pieces))
