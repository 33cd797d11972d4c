use Rattle.std.proofs.Common.{◌≡◌, ◌+◌, ◌≤◌, length, take, vec_len, vec_capacity}
use Rattle.turn_table.specs.Rule.{first_words}
use Rattle.turn_table.proofs.ends.words_of.Given as goal

abbrev pub invariant-loop-value : goal.invariant-loop-value
invariant-loop-value g l = record {
  items : l.words.items ≡ first_words g.V.Journalled.journal l.first (take l.value-index l.values);
  len : vec_len l.words ≡ l.value-index + 2;
  room : length l.values + 2 ≤ vec_capacity l.words;
}
