use Rattle.manu_serve.proofs.Outputs.{done_writes, on_ok_at}
use Rattle.manu_serve.proofs.serving.run.Goals as goal

pub returns-clause-done : goal.returns-clause-done
returns-clause-done g c is = done_writes _ _ _ _ (on_ok_at _ _ (c.status_of.ensures.done.0 is) c.serve-ended.ensures.done)
