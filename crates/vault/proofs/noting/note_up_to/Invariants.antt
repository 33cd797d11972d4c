use Rattle.std.proofs.Common.{◌≡◌, ◌+◌, ◌++◌, drop, vec_len, vec_capacity}
use Rattle.vault.specs.Notes.{notes_up_to}
use Rattle.vault.proofs.noting.note_up_to.Given as goal

abbrev pub invariant-loop-object : goal.invariant-loop-object
invariant-loop-object l = record {
  same : l.journal.items ++ notes_up_to l.calls.by l.calls.line l.calls.call l.last l.outcome (drop l.object-index l.objects) ≡ l.fn.journal.items ++ notes_up_to l.calls.by l.calls.line l.calls.call l.last l.outcome l.objects;
  len : vec_len l.journal ≡ vec_len l.fn.journal + l.object-index;
  capacity : vec_capacity l.journal ≡ vec_capacity l.fn.journal;
}
