use Rattle.std.proofs.Common.{◌≡◌, sym, Some}
use Rattle.serde_json.specs.View.{view}
use Rattle.request_lines.specs.Members.{given_at}
use Rattle.request_lines.proofs.ColumnValues.{found_values}
use Rattle.request_lines.proofs.fields.fields_at.Goals as goal

pub returns-in-Some-clause-values : goal.returns-in-Some-clause-values
returns-in-Some-clause-values c =
    let found : given_at (Some (view c.args.value.now)) ≡ Some c.in-Some.given.items = sym (rw c.in-Some.is at c.in_ok-given.ensures) in
    found_values c.args.schema.now.columns (Some (view c.args.value.now)) c.in-Some.given.items c.in_columns.result found c.in_columns.ensures
