use Rattle.std.proofs.Common.{◌≡◌, ℕ, List, length, slice_get, Some, refl, ◌∙◌, arith}
use Rattle.std.proofs.lemmas.Option.{slice_get_read}
use Rattle.seg_sealed.specs.Segments.{key_of}
use Rattle.seg_sealed.specs.Runs.{RowRun}
use Rattle.seg_sealed.proofs.RunLaws.{runs_more, runs_whole}
use Rattle.seg_sealed.proofs.runs.keys_in.Goals as goal

pub runs-preserved : goal.runs-preserved
runs-preserved c =
    let runs : List RowRun = c.args.runs.now in
    let i : ℕ = c.runs.run-index in
    let run : RowRun = c.run-item.result in
    let there : slice_get runs i ≡ Some run = slice_get_read runs (length runs) i run refl c.runs-test.true c.run-item.is in
    c.in_ok-extend_from_slice.ensures.items ∙ runs_more key_of runs i run c.runs.keys.items c.keys.result.now there c.runs.invariant c.keys.ensures

pub returns : goal.returns
returns c = runs_whole key_of c.args.runs.now c.runs.run-index c.runs.keys.items (let a = c.runs-test.false in let b = c.runs.auto.run-index-end in omega arith) c.runs.invariant
