use Rattle.legal_output.proofs.Broken.{legal, form, refusals, numbers, writes, content, row, levels, guaranteed, known, order, after_meet, pending, pending_below, sealed, tail, waiting, meets, end_tail, end_waiting, end_merged}
use Rattle.legal_output.proofs.examples.clauses_are_needed.Goals as goal

pub returns : goal.returns
returns c = record {
  legal = legal;
  form = form;
  refusals = refusals;
  numbers = numbers;
  writes = writes;
  content = content;
  row = row;
  levels = levels;
  guaranteed = guaranteed;
  known = known;
  order = order;
  after_meet = after_meet;
  pending = pending;
  pending_below = pending_below;
  sealed = sealed;
  tail = tail;
  waiting = waiting;
  meets = meets;
  end_tail = end_tail;
  end_waiting = end_waiting;
  end_merged = end_merged;
}
