use Rattle.std.proofs.Common.{◌≡◌, ◌≤◌, ℕ, List, length, map, slice_get, slice_range, Some, refl, sym, ap, subst, ◌∙◌}
use Rattle.log_model.specs.Places.{Placed}
use Rattle.row_types.specs.declared.rows.Kind.TheVariants as kind
use Rattle.seg_sealed.specs.Segments.{SealedSegment, field_at, int_of}
use Rattle.seg_sealed.specs.Runs.{RowRun, run_rows}
use Rattle.seg_sealed.proofs.RunLaws.{ints_all, range_within, range-map}
use Rattle.seg_sealed.proofs.runs.Run.ints.Goals as goal

pub part-requires-clause-within : goal.part-requires-clause-within
part-requires-clause-within c =
    let s : SealedSegment = c.self.inside.sealed.now in
    let has : slice_get s.kinds c.args.at ≡ Some kind.Int = ap (λ (r : RowRun). slice_get r.segment.kinds c.args.at) c.self.view_is ∙ c.requires in
    range_within (λ (x : Placed). int_of (field_at c.args.at x.row.fields)) (record { segment = s; begin = c.self.inside.from; end = c.self.inside.to }) c.ints_at-ints.result.now c.self.invariant
    (ints_all s c.columns.result.now c.args.at c.ints_at-ints.result.now c.columns.ensures has c.ints_at-ints.ensures)

pub returns : goal.returns
returns c =
    let s : SealedSegment = c.self.inside.sealed.now in
    let has : slice_get s.kinds c.args.at ≡ Some kind.Int = ap (λ (r : RowRun). slice_get r.segment.kinds c.args.at) c.self.view_is ∙ c.requires in
    c.part.ensures ∙ ap (λ l. slice_range l c.self.inside.from c.self.inside.to) (ints_all s c.columns.result.now c.args.at c.ints_at-ints.result.now c.columns.ensures has c.ints_at-ints.ensures)
    ∙ range-map (λ (x : Placed). int_of (field_at c.args.at x.row.fields)) s.rows c.self.inside.from c.self.inside.to
    ∙ ap (λ (r : RowRun). map (λ (x : Placed). int_of (field_at c.args.at x.row.fields)) (run_rows r)) c.self.view_is
