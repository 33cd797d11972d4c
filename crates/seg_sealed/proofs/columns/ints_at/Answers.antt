use Rattle.std.proofs.Common.{◌≡◌, [], ◌∷◌, ◌++◌, length, sym, ap, ◌∙◌, arith, rules, w64, FitsSigned}
use Rattle.std.proofs.lemmas.Int.{to_z-of_z}
use Rattle.row_types.specs.declared.rows.Row.{Row}
use Rattle.log_model.specs.Places.{Placed}
use Rattle.seg_sealed.specs.Segments.{field_at, fields_of, int_of}
use Rattle.seg_sealed.proofs.ColumnSteps.{more, whole, in_one}
use Rattle.seg_sealed.proofs.columns.ints_at.Goals as goal

pub rows-preserved : goal.rows-preserved
rows-preserved g c =
    let fits : FitsSigned w64 c.int_in-number.result = search rules in
    let same = to_z-of_z w64 c.int_in-number.result fits ∙ c.int_in-number.ensures ∙ ap (λ (r : Row). int_of (field_at c.args.at r.fields)) (c.get.ensures ∙ ap (λ (x : Placed). x.row) c.behind-from.view_is) in
    c.in_ok-push.ensures.items ∙ ap (λ v. c.rows.ints.items ++ v ∷ []) same
    ∙ more (λ (x : Placed). int_of (field_at c.args.at x.row.fields)) (g.T.TailRows.rows c.args.from.now) c.rows.i c.row.result.now c.rows.ints.items c.row.ensures c.rows.invariant

pub returns : goal.returns
returns g c =
    let end : c.rows.i ≡ length (g.T.TailRows.rows c.args.from.now) = let a = c.len-count.ensures in let b = c.rows-test.false in let d = c.rows.auto.i-end in omega arith in
    whole (λ (x : Placed). int_of (field_at c.args.at x.row.fields)) (g.T.TailRows.rows c.args.from.now) c.rows.i c.rows.ints.items end c.rows.invariant
    ∙ sym (in_one int_of (field_at c.args.at) fields_of (g.T.TailRows.rows c.args.from.now))
