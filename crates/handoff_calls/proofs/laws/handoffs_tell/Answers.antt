use Rattle.handoff_calls.proofs.Counting.{left_is_faults}
use Rattle.handoff_calls.proofs.Telling.{stored_first, handed_over}
use Rattle.handoff_calls.proofs.laws.handoffs_tell.Goals as goal

pub returns : goal.returns
returns c = record { left = left_is_faults; stored_first = stored_first; handed_over = handed_over }
