use Rattle.log_model.proofs.LogLaws.{live-more, scan-more, was_live-more}
use Rattle.log_model.proofs.laws.stability.Goals as goal

pub returns-clause-rows : goal.returns-clause-rows
returns-clause-rows c = live-more

pub returns-clause-hits : goal.returns-clause-hits
returns-clause-hits c = scan-more

pub returns-clause-replies : goal.returns-clause-replies
returns-clause-replies c = was_live-more
