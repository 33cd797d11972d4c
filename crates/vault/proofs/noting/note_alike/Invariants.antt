use Rattle.std.proofs.Common.{◌≡◌, ◌+◌, ◌++◌, drop, vec_len, vec_capacity}
use Rattle.vault.specs.Notes.{alike_notes}
use Rattle.vault.proofs.noting.note_alike.Given as goal

abbrev pub invariant-loop-object : goal.invariant-loop-object
invariant-loop-object l = record {
  same : l.journal.items ++ alike_notes l.calls.by l.calls.line l.calls.call l.outcome (drop l.object-index l.objects) ≡ l.fn.journal.items ++ alike_notes l.calls.by l.calls.line l.calls.call l.outcome l.objects;
  len : vec_len l.journal ≡ vec_len l.fn.journal + l.object-index;
  capacity : vec_capacity l.journal ≡ vec_capacity l.fn.journal;
}
