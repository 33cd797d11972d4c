use Rattle.std.proofs.Common.{◌≡◌, ◌+◌, ◌++◌, length, drop}
use Rattle.phase_lines.specs.Steps.{items_at, left_of, text_of_slots, HaveAnswers}
use Rattle.phase_lines.proofs.texts.append_slots.Given as goal

abbrev pub invariant-loop-slot : goal.invariant-loop-slot
invariant-loop-slot l = record {
  number : l.number ≡ l.first + l.slot-index;
  many : length l.told.items ≡ 16;
  have : HaveAnswers (drop l.slot-index l.slots) (left_of l.answers l.told.items);
  text : l.text.items ++ text_of_slots l.number (drop l.slot-index l.slots) (left_of l.answers l.told.items) ≡ l.initial.text.items ++ text_of_slots l.first l.slots (items_at l.answers);
}
