use Rattle.std.proofs.Common.{Err}
use Rattle.std.proofs.lemmas.Result.{err_from_is_err_and}
use Rattle.data_index_node.proofs.flushing.store.Goals as goal
use Rattle.data_index_node.proofs.Storing.{first_stops, second_ends, second_stops, third_ends}

pub returns-in_err-put-clause-stored : goal.returns-in_err-put-clause-stored
returns-in_err-put-clause-stored g c =
    let p = err_from_is_err_and c.from_residual-in_err-put.result c.from_residual-in_err-put.ensures.1 in
    rw (p.1, p.2) (first_stops c.args.part.now _ _ _ _ c.in_ok-inserts.ensures.object c.in_err-put.ensures.stored)

pub returns-in_err-put-2-clause-stored : goal.returns-in_err-put-2-clause-stored
returns-in_err-put-2-clause-stored g c =
    let p = err_from_is_err_and c.from_residual-in_err-put-2.result c.from_residual-in_err-put-2.ensures.1 in
    rw (p.1, p.2)
    (second_ends c.args.part.now _ _ (g.K.Keeper.kept c.put.new.keeper) _ (Err c.in_err-put-2.field-0.0) c.in_ok-inserts.ensures.object c.in_ok-put.ensures.stored
    (second_stops c.args.part.now _ _ _ _ c.in_ok-deletes.ensures.object c.in_err-put-2.ensures.stored))

pub returns-clause-stored : goal.returns-clause-stored
returns-clause-stored g c =
    second_ends c.args.part.now _ _ (g.K.Keeper.kept c.put.new.keeper) _ c.store_lists.result c.in_ok-inserts.ensures.object c.in_ok-put.ensures.stored
    (third_ends c.args.part.now _ _ (g.K.Keeper.kept c.put-2.new.keeper) _ c.store_lists.result c.in_ok-deletes.ensures.object c.in_ok-put-2.ensures.stored c.store_lists.ensures.stored)
