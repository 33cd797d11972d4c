use Rattle.std.proofs.Common.{ℕ, List, length, ap, ◌∙◌, arith}
use Rattle.binlog_format.proofs.ListReading.{rows_more_of, rows_below}
use Rattle.binlog_format.proofs.lists.rows_in.Goals as goal

pub overflow_add-rows : goal.overflow_add-rows
overflow_add-rows c =
    let e = ap (λ (xs : List ℕ). length xs) (c.as_slice.ensures ∙ c.item-item.is) in
    let b = rows_below c.args.lists.now c.loop-item.item-index c.item-item.result c.loop-item-test.true in
    record { fits = omega (arith, e, b, c.loop-item.invariant, c.requires) }

pub loop-item-preserved : goal.loop-item-preserved
loop-item-preserved c =
    let e = ap (λ (xs : List ℕ). length xs) (c.as_slice.ensures ∙ c.item-item.is) in
    let m = rows_more_of c.args.lists.now c.loop-item.item-index c.item-item.result c.loop-item-test.true in
    omega (arith, e, m, c.loop-item.invariant)
