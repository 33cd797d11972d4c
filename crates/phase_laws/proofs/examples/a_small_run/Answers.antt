use Rattle.phase_laws.proofs.Worked.{small_phase, small_end, small_run}
use Rattle.phase_laws.proofs.examples.a_small_run.Goals as goal

pub returns-clause-phase : goal.returns-clause-phase
returns-clause-phase c = λ id collection vector. small_phase id vector collection

pub returns-clause-end : goal.returns-clause-end
returns-clause-end c = λ collection vector. small_end vector collection

pub returns-clause-legal : goal.returns-clause-legal
returns-clause-legal c = λ id collection vector. small_run id vector collection
