use Rattle.std.proofs.Common.{◌≡◌, subst, sym, Some, Ok}
use Rattle.std.specs.Prelude.{IfOk, IfErr}
use Rattle.serde_json.specs.View.{view}
use Rattle.request_lines.specs.declared.operations.Operation.{Operation}
use Rattle.request_lines.specs.Parts.{ask_read}
use Rattle.request_lines.specs.Requests.{Refuses}
use Rattle.request_lines.proofs.operations.ask_in.Goals as goal

pub returns-in-Get-clause-ok : goal.returns-in-Get-clause-ok
returns-in-Get-clause-ok c =
    subst (λ (op : Operation). IfOk c.get_in.result (λ ask. ask_read c.args.collection.now op (Some (view c.args.value.now)) ≡ Ok ask)) (sym c.in-Get.is)
    (c.get_in.ensures.ok c.args.collection.now)

pub returns-in-Get-clause-err : goal.returns-in-Get-clause-err
returns-in-Get-clause-err c =
    subst (λ (op : Operation). IfErr c.get_in.result (Refuses (ask_read c.args.collection.now op (Some (view c.args.value.now))))) (sym c.in-Get.is)
    (c.get_in.ensures.err c.args.collection.now)

pub returns-in-Get-clause-fits : goal.returns-in-Get-clause-fits
returns-in-Get-clause-fits c = c.get_in.ensures.fits c.args.collection.now
