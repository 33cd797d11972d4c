use Rattle.std.proofs.Common.{◌≡◌, ℕ, suc, ◌<◌, ◌≤◌, ◌^◌, List, [], ◌∷◌, ◌++◌, length, slice_range, refl, sym, ap, ap₂, subst, ◌∙◌, arith}
use Rattle.std.specs.List.{AllByRecursion}
use Rattle.log_model.specs.Places.{Placed}
use Rattle.seg_sealed.specs.Segments.{SealedSegment, IsSealed}
use Rattle.seg_sealed.specs.Runs.{RowRun, IsRunLike, rows_of_runs, with_rows}
use Rattle.seg_sealed.proofs.tests.in_runs.Goals as goal

run_of : SealedSegment → ℕ → ℕ → RowRun
run_of s begin end = record { segment = s; begin = begin; end = end }

halves : (rows : List Placed) → length rows ≡ 2 → slice_range rows 0 1 ++ (slice_range rows 1 2 ++ []) ≡ rows
halves [] e = absurd (omega arith)
halves (x ∷ []) e = absurd (omega arith)
halves (x ∷ y ∷ []) e = refl
halves (x ∷ y ∷ z ∷ rows) e = absurd (omega arith)

as_two : (s : SealedSegment) (runs : List RowRun) → runs ≡ run_of s 0 1 ∷ run_of s 1 2 ∷ [] → length s.rows ≡ 2 → rows_of_runs runs ≡ s.rows
unfolding run_of
as_two s runs e two = ap rows_of_runs e ∙ halves s.rows two

again : (number : ℕ) (s : SealedSegment) (rows : List Placed) → IsSealed s → number ≡ s.number → rows ≡ s.rows → IsSealed (with_rows number s rows)
again number s rows is e same =
    subst (λ rs. IsSealed (with_rows number s rs)) (sym same)
    (record { number = (let a = is.number in omega arith); dim = is.dim; width = is.width; some = is.some; few = is.few; rise = is.rise; rows = is.rows; lists = tt })

like_two : (s : SealedSegment) (runs : List RowRun) → runs ≡ run_of s 0 1 ∷ run_of s 1 2 ∷ [] → AllByRecursion (IsRunLike s) runs
unfolding run_of
like_two s runs e = subst (AllByRecursion (IsRunLike s)) (sym e) (record { dim = refl; kinds = refl }, (record { dim = refl; kinds = refl }, tt))

made : (s : SealedSegment) (begin end : ℕ) (run : RowRun) → run.segment ≡ s → run.begin ≡ begin → run.end ≡ end → run ≡ run_of s begin end
unfolding run_of
made s begin end run a b d = ap (λ t. record { segment = t; begin = run.begin; end = run.end }) a ∙ ap₂ (λ m n. record { segment = s; begin = m; end = n }) b d

pub of_runs-requires : goal.of_runs-requires
of_runs-requires c =
    let s : SealedSegment = c.args.sealed.now in
    let two : c.as_slice.result.now ≡ run_of s 0 1 ∷ run_of s 1 2 ∷ [] =
    c.as_slice.ensures.value ∙ c.in_ok-runs.ensures.items ∙ ap₂ (λ a b. a ∷ b ∷ []) (made s 0 1 c.new.result c.new.ensures.segment c.new.ensures.begin c.new.ensures.end) (made s 1 2 c.new-2.result c.new-2.ensures.segment c.new-2.ensures.begin c.new-2.ensures.end) in
    record {
      sealed = again c.number-number.result s (rows_of_runs c.as_slice.result.now) c.number-number.ensures.sealed c.number-number.ensures.number (as_two s c.as_slice.result.now two c.requires);
      alike = like_two s c.as_slice.result.now two;
    }
