use Rattle.journal_model.proofs.Worked.{in_batch, key_twice, other_line, other_seat, look_between, tick_at_batch, tick_above, no_zero}
use Rattle.journal_model.proofs.examples.worked_batches.Goals as goal

pub returns-clause-in_batch : goal.returns-clause-in_batch
returns-clause-in_batch c = in_batch

pub returns-clause-key_twice : goal.returns-clause-key_twice
returns-clause-key_twice c = key_twice

pub returns-clause-other_line : goal.returns-clause-other_line
returns-clause-other_line c = other_line

pub returns-clause-other_seat : goal.returns-clause-other_seat
returns-clause-other_seat c = other_seat

pub returns-clause-look_between : goal.returns-clause-look_between
returns-clause-look_between c = look_between

pub returns-clause-tick_at_batch : goal.returns-clause-tick_at_batch
returns-clause-tick_at_batch c = tick_at_batch

pub returns-clause-tick_above : goal.returns-clause-tick_above
returns-clause-tick_above c = tick_above

pub returns-clause-no_zero : goal.returns-clause-no_zero
returns-clause-no_zero c = no_zero
