use Rattle.std.proofs.Common.{◌≡◌, drop}
use Rattle.shard_core.specs.Shelves.{shelves_in_pieces}
use Rattle.shard_core.specs.Steps.{after_all}
use Rattle.shard_core.specs.Kept.{IsShapedAs, Pends}
use Rattle.shard_core.proofs.lagging.apply_some.Given as goal

abbrev pub invariant-pending : goal.invariant-pending
invariant-pending l =
    (l.done ≡ l.next-index)
    × Pends l.journal.channel l.journal.state.notes (drop l.next-index l.pending) (shelves_in_pieces l.pieces)
    × (after_all l.journal.state.notes (shelves_in_pieces l.pieces) (drop l.next-index l.pending) ≡ after_all l.journal.state.notes (shelves_in_pieces l.fn.pieces) l.pending)
    × IsShapedAs l.fn.pieces l.pieces
