use Rattle.std.proofs.Common.{◌≡◌, ◌≤◌, ℕ, ◌+◌, List, length, take, slice_get, Some, refl, sym, ap, ◌∙◌, length-append, arith}
use Rattle.std.proofs.lemmas.Option.{slice_get_read}
use Rattle.std.proofs.Math.Seq.{take-length}
use Rattle.seg_sealed.specs.Runs.{RowRun, run_rows, rows_of_runs}
use Rattle.seg_sealed.proofs.RunLaws.{next_rows, some_rows}
use Rattle.seg_sealed.proofs.runs.rows_in.Goals as goal

next_count : (runs : List RowRun) (i : ℕ) (run : RowRun) (count here : ℕ) → slice_get runs i ≡ Some run → count ≡ length (rows_of_runs (take i runs)) → here ≡ length (run_rows run) → count + here ≡ length (rows_of_runs (take (i + 1) runs))
next_count runs i run count here there is e =
    let a = ap length (next_rows runs i run there) in
    let b = length-append (rows_of_runs (take i runs)) (run_rows run) in
    omega arith

pub overflow_add-count : goal.overflow_add-count
overflow_add-count c =
    let runs : List RowRun = c.args.runs.now in
    let i : ℕ = c.runs.run-index in
    let run : RowRun = c.run-item.result in
    let there : slice_get runs i ≡ Some run = slice_get_read runs (length runs) i run refl c.runs-test.true c.run-item.is in
    let a : c.runs.count + c.len-count.result ≡ length (rows_of_runs (take (i + 1) runs)) = next_count runs i run c.runs.count c.len-count.result there c.runs.invariant c.len-count.ensures in
    let b = some_rows runs (i + 1) in
    let d = c.requires in
    omega arith

pub runs-preserved : goal.runs-preserved
runs-preserved c =
    let runs : List RowRun = c.args.runs.now in
    let i : ℕ = c.runs.run-index in
    let run : RowRun = c.run-item.result in
    let there : slice_get runs i ≡ Some run = slice_get_read runs (length runs) i run refl c.runs-test.true c.run-item.is in
    next_count runs i run c.runs.count c.len-count.result there c.runs.invariant c.len-count.ensures

pub returns : goal.returns
returns c =
    let end : c.runs.run-index ≡ length c.args.runs.now = let a = c.runs-test.false in let b = c.runs.auto.run-index-end in omega arith in
    c.runs.invariant ∙ ap (λ rs. length (rows_of_runs rs)) (ap (λ n. take n c.args.runs.now) end ∙ take-length c.args.runs.now)
