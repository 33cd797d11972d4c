use Rattle.std.proofs.Common.{ap, ◌∙◌, rules, SFits, w64}
use Rattle.std.specs.Ordering.{int_cmp}
use Rattle.std.specs.BTreeMap.{insert_entry}
use Rattle.std.proofs.lemmas.Int.{to_z-of_z}
use Rattle.log_model.proofs.changes.set.Goals as goal

pub returns-clause-ok : goal.returns-clause-ok
returns-clause-ok c =
    let fits : SFits w64 c.args.row.now.key.0 = search rules in
    let e = simp to_z-of_z at c.in_ok-insert.ensures.entries in
    e ∙ ap (insert_entry int_cmp c.args.rows.now.entries c.args.row.now.key.0) c.in_ok-copy.ensures
