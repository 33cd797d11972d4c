-- The reply to a write is that of the log at the end.
use Rattle.std.proofs.Common.{◌≡◌, ℕ, Bool, false, List, [], ◌∷◌, ◌++◌, inl, refl, sym, ap, subst, ◌∙◌}
use Rattle.std.specs.Prelude.{IfSome}
use Rattle.std.specs.List.{AllZip}
use Rattle.std.specs.FinMap as fin
use Rattle.hybrid_time.specs.declared.times.Timestamp.{Timestamp}
use Rattle.log_model.specs.declared.logs.Write.{Write}
use Rattle.log_model.specs.declared.logs.Write.TheVariants as writes
use Rattle.log_model.specs.Logs.{key_of, was_live}
use Rattle.coarse_lists.specs.declared.collections.Collection.{Collection}
use Rattle.answer_lines.specs.declared.answers.Answer.{Answer}
use Rattle.answer_lines.specs.declared.answers.Answer.TheVariants as answers
use Rattle.answer_lines.specs.declared.answers.WriteReply.{WriteReply}
use Rattle.request_lines.specs.declared.requests.Ask.{Ask}
use Rattle.request_lines.specs.declared.requests.Ask.TheVariants as asks
use Rattle.legal_output.specs.Lines.{channel_of, changes_in, written_of}
use Rattle.legal_output.specs.Legal.{told_of, reply}
use Rattle.turn_table.specs.Knowledge.{at_slot}
use Rattle.seat_walks.specs.Walks.{Turned, Step, Took}
use Rattle.journal_model.specs.declared.notes.Note.{Note}
use Rattle.journal_model.specs.Notes.{note_of, entries_of, entry_at, log_of, live_in}
use Rattle.journal_model.specs.Journals.{IsJournal}
use Rattle.journal_model.specs.Layouts.{Channel}
use Rattle.journal_model.specs.Answers.{Reply, Written, answer_at}
use Rattle.journal_model.specs.Lists.{IsIn}
use Rattle.journal_model.proofs.AnswerLaws.{answer_is}
use Rattle.call_model.specs.Turns.{kind_of}
use Rattle.call_model.specs.Calls.{channel_at, WritesOnce, IsCall}
use Rattle.phase_order.proofs.Lines.{Settled}
use Rattle.phase_logs.proofs.Standing.{Stood, stood}

pub kind_entries : (ts : Timestamp) (write : Write) → entries_of (kind_of ts write) ≡ entry_at ts write ∷ []
kind_entries ts (writes.Insert row) = refl
kind_entries ts (writes.Upsert row) = refl
kind_entries ts (writes.Delete key) = refl

kind_answer : (channel : Channel) (before : List Note) (ts : Timestamp) (write : Write) → answer_at channel before (kind_of ts write) ≡ Written (fin.contains_key (live_in before) (key_of write))
kind_answer channel before ts (writes.Insert row) = refl
kind_answer channel before ts (writes.Upsert row) = refl
kind_answer channel before ts (writes.Delete key) = refl

was_in : Reply → Bool
was_in (Written there) = there
was_in reply = false

same_written : (a b : Bool) → Written a ≡ Written b → a ≡ b
unfolding was_in
same_written a b e = ap was_in e

-- the turn of a write
pub write_turn : (collection : Collection) (by line : ℕ) (write : Write) (said : WriteReply) (steps : List (Step Note)) (c : WritesOnce collection by line write said steps) → IsIn (Took c.turn) steps
write_turn collection by line write said steps c = subst (IsIn (Took c.turn)) (sym c.only) (inl refl)

pub write_stood : (collection : Collection) (old new : List (List Note)) (by line : ℕ) (write : Write) (said : WriteReply) (steps : List (Step Note)) → ((t : Turned Note) → IsIn (Took t) steps → Settled old new t)
    → (c : WritesOnce collection by line write said steps)
    → Stood (at_slot old (channel_of collection.channels (key_of write))) (at_slot new (channel_of collection.channels (key_of write))) c.turn.before (note_of by line (kind_of said.ts write))
write_stood collection old new by line write said steps settled c =
    stood old new c.turn (channel_of collection.channels (key_of write)) (note_of by line (kind_of said.ts write)) (settled c.turn (write_turn collection by line write said steps c)) c.home c.writes.noted

write_replied : (collection : Collection) (old new : List (List Note)) → ((k : ℕ) → IsJournal (at_slot new k)) → (by line : ℕ) (write : Write) (said : WriteReply) (steps : List (Step Note))
    → ((t : Turned Note) → IsIn (Took t) steps → Settled old new t) → WritesOnce collection by line write said steps
    → said.what ≡ reply (log_of (at_slot new (channel_of collection.channels (key_of write)))) said.ts.0 write
write_replied collection old new journals by line write said steps settled c =
    let k : ℕ = channel_of collection.channels (key_of write) in
    let note : Note = note_of by line (kind_of said.ts write) in
    let before : List Note = c.turn.before in
    let s : Stood (at_slot old k) (at_slot new k) before note = write_stood collection old new by line write said steps settled c in
    let at : answer_at (channel_at collection k) before note.kind ≡ Written (was_live (log_of (before ++ note ∷ s.rest)) said.ts.0 write) =
    answer_is (channel_at collection k) before s.rest note (entry_at said.ts write) (subst IsJournal s.is (journals k)) (kind_entries said.ts write) in
    let live : fin.contains_key (live_in before) (key_of write) ≡ was_live (log_of (before ++ note ∷ s.rest)) said.ts.0 write =
    same_written (fin.contains_key (live_in before) (key_of write)) (was_live (log_of (before ++ note ∷ s.rest)) said.ts.0 write) (sym (kind_answer (channel_at collection k) before said.ts write) ∙ at) in
    c.writes.told ∙ ap (told_of write) live ∙ ap (λ (l : List Note). told_of write (was_live (log_of l) said.ts.0 write)) (sym s.is)

abbrev pub IsReplied : Collection → List (List Note) → Ask → Answer → Type 0
IsReplied collection new ask answer =
    IfSome (written_of answer) (λ written. AllZip (λ change what. what ≡ reply (log_of (at_slot new (channel_of collection.channels (key_of change)))) written.ts change) (changes_in ask) written.replies)

pub replied : (collection : Collection) (old new : List (List Note)) → ((k : ℕ) → IsJournal (at_slot new k)) → (by line mine : ℕ) (ask : Ask) (answer : Answer) (steps : List (Step Note))
    → ((t : Turned Note) → IsIn (Took t) steps → Settled old new t) → IsCall collection by line mine ask answer steps → IsReplied collection new ask answer
replied collection old new journals by line mine (asks.Write write) (answers.Wrote said) steps settled c = (write_replied collection old new journals by line write said steps settled c, tt)
replied collection old new journals by line mine asks.Tick (answers.Ticked stamps) steps settled c = tt
replied collection old new journals by line mine asks.Seal (answers.Sealed seals) steps settled c = tt
replied collection old new journals by line mine (asks.Search query level wait) (answers.Hits now guarantee ts hits) steps settled c = tt
replied collection old new journals by line mine (asks.Search query level wait) (answers.Pending now guarantee channel tick) steps settled c = tt
replied collection old new journals by line mine (asks.Get key level wait) (answers.Found now guarantee ts row) steps settled c = tt
replied collection old new journals by line mine (asks.Get key level wait) (answers.Pending now guarantee channel tick) steps settled c = tt
replied collection old new journals by line mine ask answer steps settled c = absurd c
