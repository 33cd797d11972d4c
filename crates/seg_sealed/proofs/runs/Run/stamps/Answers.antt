use Rattle.std.proofs.Common.{◌≡◌, map, slice_range, ap, ◌∙◌}
use Rattle.seg_sealed.specs.Segments.{stamp_of}
use Rattle.seg_sealed.specs.Runs.{RowRun, run_rows}
use Rattle.seg_sealed.proofs.RunLaws.{range-map}
use Rattle.seg_sealed.proofs.runs.Run.stamps.Goals as goal

pub returns : goal.returns
returns c =
    ap (λ l. slice_range l c.self.inside.from c.self.inside.to) c.stamps.ensures ∙ range-map stamp_of c.self.inside.sealed.now.rows c.self.inside.from c.self.inside.to
    ∙ ap (λ (r : RowRun). map stamp_of (run_rows r)) c.self.view_is
