use Rattle.std.proofs.Common.{◌≡◌, ◌+◌, length, vec_capacity}
use Rattle.std.specs.List.{AllByRecursion}
use Rattle.channel_journal.specs.Kept.{IsBlank}
use Rattle.channel_journal.proofs.notes.add_chunks.Given as goal

abbrev pub invariant-chunks : goal.invariant-chunks
invariant-chunks l = record {
  blanks : AllByRecursion IsBlank l.blank.items;
  more : length l.blank.items ≡ length l.fn.blank.items + l.counter;
  capacity : vec_capacity l.blank ≡ vec_capacity l.fn.blank;
}
