use Rattle.std.proofs.Common.{◌≡◌, [], ◌∷◌, ◌++◌, length, ap, ◌∙◌, arith}
use Rattle.seg_sealed.specs.Segments.{position_of}
use Rattle.seg_sealed.proofs.ColumnSteps.{more, whole}
use Rattle.seg_sealed.proofs.columns.positions_of.Goals as goal

pub rows-preserved : goal.rows-preserved
rows-preserved g c =
    c.in_ok-push.ensures.items ∙ ap (λ x. c.rows.positions.items ++ position_of x ∷ []) c.behind-from.view_is
    ∙ more position_of (g.T.TailRows.rows c.args.from.now) c.rows.i c.row.result.now c.rows.positions.items c.row.ensures c.rows.invariant

pub returns : goal.returns
returns g c =
    let end : c.rows.i ≡ length (g.T.TailRows.rows c.args.from.now) = let a = c.len-count.ensures in let b = c.rows-test.false in let d = c.rows.auto.i-end in omega arith in
    whole position_of (g.T.TailRows.rows c.args.from.now) c.rows.i c.rows.positions.items end c.rows.invariant
