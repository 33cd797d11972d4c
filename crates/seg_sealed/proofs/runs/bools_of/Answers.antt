use Rattle.std.proofs.Common.{◌≡◌, ℕ, List, length, slice_get, Some, refl, sym, ◌∙◌, arith}
use Rattle.std.proofs.lemmas.Option.{slice_get_read}
use Rattle.row_types.specs.declared.rows.Kind.TheVariants as kind
use Rattle.log_model.specs.Places.{Placed}
use Rattle.seg_sealed.specs.Segments.{fields_of, field_at, bool_of}
use Rattle.seg_sealed.specs.Runs.{RowRun, rows_of_runs}
use Rattle.seg_sealed.proofs.ColumnSteps.{in_one, all_at}
use Rattle.seg_sealed.proofs.RunLaws.{runs_more, runs_whole}
use Rattle.seg_sealed.proofs.runs.bools_of.Goals as goal

pub bools-requires : goal.bools-requires
bools-requires c =
    let runs : List RowRun = c.args.runs.now in
    let i : ℕ = c.runs.run-index in
    let run : RowRun = c.run-item.result in
    let there : slice_get runs i ≡ Some run = slice_get_read runs (length runs) i run refl c.runs-test.true c.run-item.is in
    all_at (λ (r : RowRun). slice_get r.segment.kinds c.args.at ≡ Some kind.Bool) runs i run there c.requires

pub runs-preserved : goal.runs-preserved
runs-preserved c =
    let runs : List RowRun = c.args.runs.now in
    let i : ℕ = c.runs.run-index in
    let run : RowRun = c.run-item.result in
    let there : slice_get runs i ≡ Some run = slice_get_read runs (length runs) i run refl c.runs-test.true c.run-item.is in
    c.in_ok-extend_from_slice.ensures.items ∙ runs_more (λ (x : Placed). bool_of (field_at c.args.at x.row.fields)) runs i run c.runs.bools.items c.bools.result.now there c.runs.invariant c.bools.ensures

pub returns : goal.returns
returns c =
    runs_whole (λ (x : Placed). bool_of (field_at c.args.at x.row.fields)) c.args.runs.now c.runs.run-index c.runs.bools.items (let a = c.runs-test.false in let b = c.runs.auto.run-index-end in omega arith) c.runs.invariant
    ∙ sym (in_one bool_of (field_at c.args.at) fields_of (rows_of_runs c.args.runs.now))
