use Rattle.legal_output.proofs.PhaseRuns.{stopped_legal, whole_legal}
use Rattle.legal_output.proofs.laws.phases_are_legal.Goals as goal

pub returns : goal.returns
returns c = record { stopped = stopped_legal; whole = whole_legal }
