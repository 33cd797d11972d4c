use Rattle.std.proofs.Common.{◌≡◌, ◌++◌, take, drop, map}
use Rattle.channel_pieces.specs.Fields.{committed}
use Rattle.channel_pieces.proofs.sealed_pieces.commit_all.Given as goal

abbrev pub invariant-pieces : goal.invariant-pieces
invariant-pieces l = l.pieces.items ≡ map committed (take l.i l.initial.pieces.items) ++ drop l.i l.initial.pieces.items
