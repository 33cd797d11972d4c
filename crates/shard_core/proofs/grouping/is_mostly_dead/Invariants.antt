use Rattle.std.proofs.Common.{◌≡◌, ◌*◌, ◌^◌, ◌≤◌, take}
use Rattle.std.specs.List.{sum_by}
use Rattle.channel_pieces.specs.declared.keeping.KeptRows.{KeptRows}
use Rattle.shard_core.proofs.grouping.is_mostly_dead.Given as goal

abbrev pub invariant-segments : goal.invariant-segments
invariant-segments l = record {
  rows : l.rows ≡ sum_by (λ (s : KeptRows). s.rows) (take l.segment-index l.segments);
  kept : l.kept ≡ sum_by (λ (s : KeptRows). s.kept) (take l.segment-index l.segments);
  rows_fit : l.rows ≤ l.segment-index * 2 ^ 64;
  kept_fit : l.kept ≤ l.segment-index * 2 ^ 64;
}
