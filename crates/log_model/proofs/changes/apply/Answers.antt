use Rattle.std.proofs.Common.{sym, ◌∙◌}
use Rattle.log_model.proofs.Applies.{insert_new, insert_old, upsert_set, delete_cleared}
use Rattle.log_model.proofs.changes.apply.Goals as goal

pub returns-in_ok-set-in-Insert-clause-ok : goal.returns-in_ok-set-in-Insert-clause-ok
returns-in_ok-set-in-Insert-clause-ok c = λ m same. insert_new m _ _ _ c.in-Insert.row c.in-Insert.is same (sym c.contains_key.ensures ∙ c.if-not-contains_key.true) c.in_ok-set-in-Insert.ensures.ok

pub returns-else-not-contains_key-clause-ok : goal.returns-else-not-contains_key-clause-ok
returns-else-not-contains_key-clause-ok c = λ m same. insert_old m _ _ c.in-Insert.row c.in-Insert.is same (sym c.contains_key.ensures ∙ c.if-not-contains_key.false)

pub returns-in_ok-set-in-Upsert-clause-ok : goal.returns-in_ok-set-in-Upsert-clause-ok
returns-in_ok-set-in-Upsert-clause-ok c = λ m same. upsert_set m _ _ _ c.in-Upsert.row c.in-Upsert.is same c.in_ok-set-in-Upsert.ensures.ok

pub returns-in-Delete-clause-ok : goal.returns-in-Delete-clause-ok
returns-in-Delete-clause-ok c = λ m same. delete_cleared m _ _ _ c.in-Delete.key c.in-Delete.is same c.remove.ensures.ordered c.remove.ensures.updates.0
