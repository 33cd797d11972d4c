use Rattle.std.proofs.Common.{◌≡◌, ℕ, ◌+◌, List, length, map, take, slice_get, Some, refl, sym, ap, subst, ◌∙◌, arith}
use Rattle.std.proofs.lemmas.Option.{slice_get_read}
use Rattle.std.proofs.Math.Seq.{take-length}
use Rattle.log_model.specs.Places.{IsColumn, width_of, vector_of}
use Rattle.seg_sealed.specs.Runs.{RowRun, run_rows, rows_of_runs}
use Rattle.seg_sealed.proofs.ColumnSteps.{all_at}
use Rattle.seg_sealed.proofs.RunLaws.{words_more}
use Rattle.seg_sealed.proofs.runs.words_in.Goals as goal

pub runs-preserved : goal.runs-preserved
runs-preserved c =
    let runs : List RowRun = c.args.runs.now in
    let i : ℕ = c.runs.run-index in
    let run : RowRun = c.run-item.result in
    let there : slice_get runs i ≡ Some run = slice_get_read runs (length runs) i run refl c.runs-test.true c.run-item.is in
    let dim : run.segment.dim ≡ c.args.dim = all_at (λ (r : RowRun). r.segment.dim ≡ c.args.dim) runs i run there c.requires.alike in
    let here : IsColumn (width_of c.args.dim) (map vector_of (run_rows run)) c.words.result.now = subst (λ d. IsColumn (width_of d) (map vector_of (run_rows run)) c.words.result.now) dim c.words.ensures in
    subst (λ ws. IsColumn (width_of c.args.dim) (map vector_of (rows_of_runs (take (i + 1) runs))) ws) (sym c.in_ok-extend_from_slice.ensures.items)
    (words_more (width_of c.args.dim) runs i run c.runs.words.items c.words.result.now there c.runs.invariant here)

pub returns : goal.returns
returns c =
    let end : c.runs.run-index ≡ length c.args.runs.now = let a = c.runs-test.false in let b = c.runs.auto.run-index-end in omega arith in
    subst (λ rs. IsColumn (width_of c.args.dim) (map vector_of (rows_of_runs rs)) c.runs.words.items) (ap (λ n. take n c.args.runs.now) end ∙ take-length c.args.runs.now) c.runs.invariant
