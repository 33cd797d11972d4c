use Rattle.phase_laws.proofs.Begun.{new_run}
use Rattle.phase_laws.proofs.Going.{goes_on}
use Rattle.phase_laws.proofs.laws.runs_go_on.Goals as goal

pub returns-clause-begin : goal.returns-clause-begin
returns-clause-begin g c = λ collection least clock one. new_run collection clock one least

pub returns-clause-more : goal.returns-clause-more
returns-clause-more g c = goes_on _
