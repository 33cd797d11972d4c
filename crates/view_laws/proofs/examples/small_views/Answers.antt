use Rattle.view_laws.proofs.Worked.{empty_view, empty_log, before_put, at_put, both, nearest_one, at_death}
use Rattle.view_laws.proofs.examples.small_views.Goals as goal

pub returns-clause-empty_view : goal.returns-clause-empty_view
returns-clause-empty_view c = empty_view

pub returns-clause-empty_log : goal.returns-clause-empty_log
returns-clause-empty_log c = empty_log

pub returns-clause-before_put : goal.returns-clause-before_put
returns-clause-before_put c = before_put

pub returns-clause-at_put : goal.returns-clause-at_put
returns-clause-at_put c = at_put

pub returns-clause-both : goal.returns-clause-both
returns-clause-both c = both

pub returns-clause-nearest_one : goal.returns-clause-nearest_one
returns-clause-nearest_one c = nearest_one

pub returns-clause-at_death : goal.returns-clause-at_death
returns-clause-at_death c = at_death
