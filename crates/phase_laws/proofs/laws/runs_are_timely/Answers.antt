use Rattle.phase_laws.proofs.Going.{whole_timely}
use Rattle.phase_laws.proofs.laws.runs_are_timely.Goals as goal

pub returns-clause-stopped : goal.returns-clause-stopped
returns-clause-stopped g c = λ collection least phases rest h. h.timely

pub returns-clause-whole : goal.returns-clause-whole
returns-clause-whole g c = whole_timely _
