use Rattle.phase_laws.proofs.Going.{is_stopped, is_whole}
use Rattle.phase_laws.proofs.laws.runs_are_legal.Goals as goal

pub returns-clause-stopped : goal.returns-clause-stopped
returns-clause-stopped g c = is_stopped

pub returns-clause-whole : goal.returns-clause-whole
returns-clause-whole g c = is_whole _
