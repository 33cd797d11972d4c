use Rattle.std.proofs.Common.{◌≤◌, arith}
use Rattle.legal_output.specs.Printed.{all_drawn}
use Rattle.phase_order.proofs.Lines.{phase_done, differ_once}
use Rattle.phase_order.proofs.Kept.{phase_journals}
use Rattle.phase_order.proofs.Callers.{callers_called}
use Rattle.phase_laws.proofs.Facts.{phase_timely, phase_within}
use Rattle.phase_laws.proofs.laws.a_phase_tells.Goals as goal

pub returns-clause-journals : goal.returns-clause-journals
returns-clause-journals g c = phase_journals _

pub returns-clause-differ : goal.returns-clause-differ
returns-clause-differ g c = λ collection least old new block rest ph. differ_once (all_drawn block) (phase_done _ collection least old new block rest ph).once

pub returns-clause-within : goal.returns-clause-within
returns-clause-within g c = phase_within _

pub returns-clause-timely : goal.returns-clause-timely
returns-clause-timely g c = phase_timely _

pub returns-clause-callers : goal.returns-clause-callers
returns-clause-callers g c = λ collection least old new block range rest ph.
    callers_called _ collection least old new block rest (phase_journals _ collection least old new block rest ph) ph (let r : 1 ≤ collection.channels = range.channels.0 in omega arith)
