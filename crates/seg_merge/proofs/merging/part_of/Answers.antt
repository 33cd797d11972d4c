use Rattle.std.proofs.Common.{◌≡◌, ℕ, ◌≤◌, List, length, map, refl, sym, ap, ap₂, subst, ◌∙◌}
use Rattle.std.specs.List.{AllByRecursion}
use Rattle.std.specs.Arc.{arc_value}
use Rattle.std.proofs.lemmas.List.{length-map}
use Rattle.log_model.specs.Places.{Placed}
use Rattle.seg_sealed.specs.Segments.{SealedSegment}
use Rattle.seg_sealed.specs.Marks.{Marked, death_of}
use Rattle.seg_sealed.specs.Runs.{RowRun, IsRunLike, rows_of_runs}
use Rattle.seg_sealed.specs.Parts.{SegmentPart, AreDeathsOf, shown_from, shown_rows}
use Rattle.seg_merge.specs.declared.kept.Kept.{Kept}
use Rattle.seg_merge.specs.KeptRows.{placed_in, shown_in, marks_of_kept}
use Rattle.seg_merge.proofs.MarkRows.{shown_again, marks_deaths}
use Rattle.seg_merge.proofs.StretchLaws.{runs_like}
use Rattle.seg_merge.proofs.merging.part_of.Goals as goal

pub of_runs-requires-clause-alike : goal.of_runs-requires-clause-alike
of_runs-requires-clause-alike c =
    let like : SegmentPart = c.args.like.now in
    subst (λ (s : SealedSegment). AllByRecursion (IsRunLike s) c.as_slice.result.now) (sym c.sealed.ensures.sealed)
    (subst (λ (runs : List RowRun). AllByRecursion (IsRunLike like.sealed) runs) (sym c.as_slice.ensures.value) (runs_like like c.args.parts.now c.in_ok-runs.runs.items c.requires.alike c.in_ok-runs.ensures.segments))

pub new-requires-3 : goal.new-requires-3
new-requires-3 c =
    let kept : List Kept = c.args.kept.now in
    let sealed : SealedSegment = arc_value c.in_ok-shared_sealed.shared_sealed in
    let rows : sealed.rows ≡ map (placed_in c.args.parts.now) kept =
    ap (λ (s : SealedSegment). s.rows) (c.in_ok-shared_sealed.ensures.ok ∙ c.in_ok-sealed.ensures) ∙ ap rows_of_runs c.as_slice.ensures.value ∙ c.in_ok-runs.ensures.rows in
    let many : length sealed.rows ≡ length kept = ap length rows ∙ length-map kept (placed_in c.args.parts.now) in
    let deaths : (arc_value c.in_ok-shared_marks.shared_marks).deaths ≡ map death_of (marks_of_kept 0 kept) = ap (λ (m : Marked). m.deaths) c.in_ok-shared_marks.ensures.ok ∙ c.in_ok-marks.ensures.deaths in
    subst (AreDeathsOf (length sealed.rows)) (sym deaths) (marks_deaths (length sealed.rows) kept many)

pub returns-clause-rows : goal.returns-clause-rows
returns-clause-rows c =
    let kept : List Kept = c.args.kept.now in
    let sealed : SealedSegment = arc_value c.in_ok-shared_sealed.shared_sealed in
    let rows : sealed.rows ≡ map (placed_in c.args.parts.now) kept =
    ap (λ (s : SealedSegment). s.rows) (c.in_ok-shared_sealed.ensures.ok ∙ c.in_ok-sealed.ensures) ∙ ap rows_of_runs c.as_slice.ensures.value ∙ c.in_ok-runs.ensures.rows in
    let deaths : (arc_value c.in_ok-shared_marks.shared_marks).deaths ≡ map death_of (marks_of_kept 0 kept) = ap (λ (m : Marked). m.deaths) c.in_ok-shared_marks.ensures.ok ∙ c.in_ok-marks.ensures.deaths in
    ap shown_rows c.new-3.ensures ∙ ap₂ (λ (ds : List (ℕ × ℕ)) (rs : List Placed). shown_from ds 0 rs) deaths rows ∙ shown_again c.args.parts.now kept
