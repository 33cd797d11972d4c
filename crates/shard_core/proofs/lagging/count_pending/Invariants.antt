use Rattle.std.proofs.Common.{◌≡◌, drop}
use Rattle.shard_core.specs.Steps.{counted_all, Fit}
use Rattle.shard_core.proofs.lagging.count_pending.Given as goal

abbrev pub invariant-pending : goal.invariant-pending
invariant-pending l = record {
  fits : Fit l.counts (drop l.next-index l.pending);
  rest : counted_all l.counts (drop l.next-index l.pending) ≡ counted_all l.fn.pieces l.pending;
}
