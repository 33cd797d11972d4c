use Rattle.std.proofs.Common.{◌≡◌, map, slice_range, ap, ◌∙◌}
use Rattle.seg_sealed.specs.Segments.{position_of}
use Rattle.seg_sealed.specs.Runs.{RowRun, run_rows}
use Rattle.seg_sealed.proofs.RunLaws.{range-map}
use Rattle.seg_sealed.proofs.runs.Run.positions.Goals as goal

pub returns : goal.returns
returns c =
    ap (λ l. slice_range l c.self.inside.from c.self.inside.to) c.positions.ensures ∙ range-map position_of c.self.inside.sealed.now.rows c.self.inside.from c.self.inside.to
    ∙ ap (λ (r : RowRun). map position_of (run_rows r)) c.self.view_is
