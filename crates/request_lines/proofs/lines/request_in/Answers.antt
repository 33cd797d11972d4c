use Rattle.std.proofs.Common.{sym, Some}
use Rattle.serde_json.specs.View.{view}
use Rattle.request_lines.specs.declared.refusals.LineError.TheVariants.{Refused}
use Rattle.request_lines.proofs.Tables.{request_read, form_refused, caller_refused, members_refused, passed_on}
use Rattle.request_lines.proofs.lines.request_in.Goals as goal

pub returns-in_err-operation-clause-err : goal.returns-in_err-operation-clause-err
returns-in_err-operation-clause-err c =
    passed_on c.args.collection.now (Some (view c.args.value.now)) c.from_residual.result (Refused c.in_err-operation.field-0.0) c.from_residual.ensures.1
    (form_refused c.args.collection.now (Some (view c.args.value.now)) c.in_err-operation.field-0.0 (sym (c.in_err-operation.ensures c.args.collection.now)))

pub returns-in_err-caller-clause-err : goal.returns-in_err-caller-clause-err
returns-in_err-caller-clause-err c =
    passed_on c.args.collection.now (Some (view c.args.value.now)) c.from_residual-in_err-caller.result (Refused c.in_err-caller.field-0.0) c.from_residual-in_err-caller.ensures.1
    (caller_refused c.args.collection.now (Some (view c.args.value.now)) c.in_ok-operation.operation c.in_err-caller.field-0.0
    (sym (c.in_ok-operation.ensures c.args.collection.now)) (sym (c.in_err-caller.ensures.same c.args.collection.now)))

pub returns-in_err-what-clause-err : goal.returns-in_err-what-clause-err
returns-in_err-what-clause-err c =
    passed_on c.args.collection.now (Some (view c.args.value.now)) c.from_residual-in_err-what.result c.in_err-what.field-0.0 c.from_residual-in_err-what.ensures.1
    (members_refused c.args.collection.now (Some (view c.args.value.now)) c.in_ok-operation.operation c.in_ok-caller.caller c.in_err-what.field-0.0
    (sym (c.in_ok-operation.ensures c.args.collection.now)) (sym (c.in_ok-caller.ensures.same c.args.collection.now)) c.in_err-what.ensures.err)

pub returns-clause-ok : goal.returns-clause-ok
returns-clause-ok c =
    request_read c.args.collection.now (Some (view c.args.value.now)) c.in_ok-operation.operation c.in_ok-caller.caller c.in_ok-what.what
    (sym (c.in_ok-operation.ensures c.args.collection.now)) (sym (c.in_ok-caller.ensures.same c.args.collection.now)) c.in_ok-what.ensures.ok
