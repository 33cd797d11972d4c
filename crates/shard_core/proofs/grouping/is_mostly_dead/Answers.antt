use Rattle.std.proofs.Common.{◌≡◌, ◌+◌, take, get_or, arith}
use Rattle.std.specs.List.{sum_by}
use Rattle.std.proofs.lemmas.List.Sums.{sum_by_more}
use Rattle.channel_pieces.specs.declared.keeping.KeptRows.{KeptRows}
use Rattle.shard_core.proofs.grouping.is_mostly_dead.Goals as goal

abbrev none : KeptRows
none = record { number = 0; rows = 0; kept = 0 }

pub segments-preserved : goal.segments-preserved
segments-preserved c =
    let rows : sum_by (λ (s : KeptRows). s.rows) (take (c.segments.segment-index + 1) c.args.segments.now) ≡ sum_by (λ (s : KeptRows). s.rows) (take c.segments.segment-index c.args.segments.now) + (get_or c.args.segments.now c.segments.segment-index none).rows =
    sum_by_more (λ (s : KeptRows). s.rows) c.args.segments.now c.segments.segment-index none c.segments-test.true in
    let kept : sum_by (λ (s : KeptRows). s.kept) (take (c.segments.segment-index + 1) c.args.segments.now) ≡ sum_by (λ (s : KeptRows). s.kept) (take c.segments.segment-index c.args.segments.now) + (get_or c.args.segments.now c.segments.segment-index none).kept =
    sum_by_more (λ (s : KeptRows). s.kept) c.args.segments.now c.segments.segment-index none c.segments-test.true in
    record {
      rows = omega arith;
      kept = omega arith;
      rows_fit = omega arith;
      kept_fit = omega arith;
    }
