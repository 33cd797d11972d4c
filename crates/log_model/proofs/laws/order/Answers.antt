use Rattle.log_model.proofs.LogOrder.{log-write, log-cut}
use Rattle.log_model.proofs.laws.order.Goals as goal

pub returns-clause-goes_on : goal.returns-clause-goes_on
returns-clause-goes_on c = log-write

pub returns-clause-first : goal.returns-clause-first
returns-clause-first c = λ log ts is. let cut = log-cut log ts is in (cut.0, (cut.1.first, cut.1.rest))
