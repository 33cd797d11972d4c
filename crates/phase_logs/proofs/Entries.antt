-- What the logs grew by: the entries of the lines.
use Rattle.std.proofs.Common.{◌≡◌, ◌≢◌, ℕ, ℤ, ◌<◌, ◌≤◌, Bool, true, false, cond, Option, Some, None, List, [], ◌∷◌, ◌++◌, map, inl, inr, ⊎_elim, refl, sym, ap, subst, ◌∙◌, arith}
use Rattle.std.specs.List.{AllByRecursion as Each, flat_map}
use Rattle.std.specs.Ordering.{int_cmp, eq_by_cmp}
use Rattle.std.proofs.lemmas.Bool.Decides.{Decides-int_eq}
use Rattle.turn_facts.specs.Counts.{count}
use Rattle.turn_facts.proofs.Counts.{count-nil}
use Rattle.turn_table.specs.Knowledge.{at_slot}
use Rattle.seat_walks.specs.Walks.{Step}
use Rattle.log_model.specs.declared.logs.Write.{Write}
use Rattle.log_model.specs.declared.logs.Entry.{Entry}
use Rattle.log_model.specs.Logs.{key_of, IsBefore, IsLog}
use Rattle.coarse_lists.specs.declared.collections.Collection.{Collection}
use Rattle.answer_lines.specs.declared.answers.WriteReply.{WriteReply}
use Rattle.answer_lines.specs.declared.answers.Answer.{Answer}
use Rattle.answer_lines.specs.declared.answers.Answer.TheVariants as answers
use Rattle.request_lines.specs.declared.requests.Ask.{Ask}
use Rattle.request_lines.specs.declared.requests.Ask.TheVariants as asks
use Rattle.legal_output.specs.Lines.{Written as LegalWritten, Asked, Bad, Given, Finish, Line, channel_of, changes_in, changes_of, written_of, drawn}
use Rattle.legal_output.specs.Printed.{entries_if, entries_of, all_drawn as all_told}
use Rattle.legal_output.specs.Phases.{of_key}
use Rattle.legal_output.specs.Members.{Rises, GrewByEntries}
use Rattle.journal_model.specs.declared.notes.Kind.{Kind}
use Rattle.journal_model.specs.declared.notes.Kind.TheVariants.{Put, Remove, Seal}
use Rattle.journal_model.specs.declared.notes.Note.{Note}
use Rattle.journal_model.specs.Notes.{note_of, entries_of as kind_entries_of, entry_at, log_of}
use Rattle.journal_model.specs.Lists.{IsIn}
use Rattle.journal_model.proofs.ListLaws.{in_left, in_right, in_cases, all_in, all_from, out_filter}
use Rattle.journal_model.proofs.FollowLaws.{journal_log}
use Rattle.journal_model.proofs.NoteLaws.{log_of-append}
use Rattle.call_model.specs.Turns.{kind_of}
use Rattle.call_model.specs.Calls.{WritesOnce, IsCall}
use Rattle.phase_model.specs.Rests.{Rest, AreJournals}
use Rattle.phase_model.specs.Phases.{IsQuiet, IsRefused}
use Rattle.phase_order.proofs.Lines.{LineDone, NoteOf, PhaseDone, differ_once}
use Rattle.phase_order.proofs.Slots.{all_journals}
use Rattle.phase_logs.proofs.Lists.{From, out_flat, in_flat, flat_few, filter_few}
use Rattle.phase_logs.proofs.Standing.{Stood, stood_in}
use Rattle.phase_logs.proofs.Replies.{kind_entries, write_stood}
use Rattle.phase_logs.proofs.Origins.{Origin, Quiet, Written, Sealed, origin}

-- ---- entries of a log

log_behind : (xs ys : List Entry) → IsLog (xs ++ ys) → IsLog ys
log_behind [] ys l = l
log_behind (x ∷ xs) ys l = log_behind xs ys l.1

later_of_key : (key : ℤ) (entry other : Entry) → eq_by_cmp int_cmp key (key_of entry.write) ≡ true → eq_by_cmp int_cmp key (key_of other.write) ≡ true → IsBefore entry other → entry.ts.0 < other.ts.0
later_of_key key entry other here there before =
    ⊎_elim (λ (l : entry.ts.0 < other.ts.0). l)
    (λ (r : (entry.ts.0 ≡ other.ts.0) × (key_of entry.write ≢ key_of other.write)).
    absurd (r.1 (sym ((Decides-int_eq key (key_of entry.write)).0 here) ∙ (Decides-int_eq key (key_of other.write)).0 there)))
    before

rises_first : (key : ℤ) (entry : Entry) (log : List Entry) (b : Bool) → eq_by_cmp int_cmp key (key_of entry.write) ≡ b → Each (IsBefore entry) log → Rises (λ e. e.ts.0) (of_key key log)
    → Rises (λ e. e.ts.0) (cond b (entry ∷ of_key key log) (of_key key log))
rises_first key entry log true is before rest = (
  all_from (λ other. entry.ts.0 < other.ts.0) (of_key key log) (λ other h.
      let o = out_filter (λ e. eq_by_cmp int_cmp key (key_of e.write)) other log h in later_of_key key entry other is o.1 (all_in (IsBefore entry) log other before o.0)),
  rest,
)
rises_first key entry log false is before rest = rest

rises_of_key : (key : ℤ) (log : List Entry) → IsLog log → Rises (λ e. e.ts.0) (of_key key log)
rises_of_key key [] l = tt
rises_of_key key (entry ∷ log) l = rises_first key entry log (eq_by_cmp int_cmp key (key_of entry.write)) refl l.0 (rises_of_key key log l.1)

pub record OfNote (notes : List Note) (entry : Entry) : Type 0 where
  pub note : Note
  pub among : IsIn note notes
  pub here : IsIn entry (kind_entries_of note.kind)

of_note_later : (first : Note) (notes : List Note) (entry : Entry) → OfNote notes entry → OfNote (first ∷ notes) entry
of_note_later first notes entry o = record { note = o.note; among = inr o.among; here = o.here }

of_note : (notes : List Note) (entry : Entry) → IsIn entry (log_of notes) → OfNote notes entry
of_note [] entry h = absurd h
of_note (note ∷ notes) entry h = ⊎_elim (λ (l : IsIn entry (kind_entries_of note.kind)). record { note = note; among = inl refl; here = l })
    (λ (r : IsIn entry (log_of notes)). of_note_later note notes entry (of_note notes entry r)) (in_cases entry (kind_entries_of note.kind) (log_of notes) h)

in_log : (notes : List Note) (note : Note) (entry : Entry) → IsIn note notes → IsIn entry (kind_entries_of note.kind) → IsIn entry (log_of notes)
in_log [] note entry h g = absurd h
in_log (first ∷ notes) note entry (inl p) g = in_left entry (kind_entries_of first.kind) (log_of notes) (subst (λ (n : Note). IsIn entry (kind_entries_of n.kind)) p g)
in_log (first ∷ notes) note entry (inr h) g = in_right entry (kind_entries_of first.kind) (log_of notes) (in_log notes note entry h g)

quiet_none : (kind : Kind) → IsQuiet kind → kind_entries_of kind ≡ []
quiet_none (Put ts how row) q = absurd q
quiet_none (Remove ts key) q = absurd q
quiet_none (Seal ts) q = absurd q
quiet_none kind q = refl

-- ---- entries of a line

-- the entry of a line is that of its write
pub record LineEntry (ask : Ask) (answer : Answer) (entry : Entry) : Type 0 where
  pub write : Write
  pub said : WriteReply
  pub asked : ask ≡ asks.Write write
  pub told : answer ≡ answers.Wrote said
  pub is : entry ≡ entry_at said.ts write

line_entry : (ask : Ask) (answer : Answer) (entry : Entry) → IsIn entry (entries_if (changes_in ask) (written_of answer)) → LineEntry ask answer entry
line_entry (asks.Write write) (answers.Wrote said) entry (inl p) = record { write = write; said = said; asked = refl; told = refl; is = p }
line_entry (asks.Write write) (answers.Wrote said) entry (inr h) = absurd h
line_entry (asks.Write write) answer entry h = absurd h
line_entry (asks.Search query level wait) (answers.Wrote said) entry h = absurd h
line_entry (asks.Get key level wait) (answers.Wrote said) entry h = absurd h
line_entry asks.Tick (answers.Wrote said) entry h = absurd h
line_entry asks.Seal (answers.Wrote said) entry h = absurd h
line_entry asks.Meet (answers.Wrote said) entry h = absurd h
line_entry ask answer entry h = absurd h

refused_entry : (asked : Asked) (answer : Answer) (entry : Entry) → IsRefused asked answer → IsIn entry (entries_if (changes_of asked) (written_of answer)) → ⊥
refused_entry (Bad reason) answer entry is h = subst (λ (a : Answer). IsIn entry (entries_if [] (written_of a))) is h
refused_entry (Given request) answer entry is h = is
refused_entry Finish answer entry is h = is

written_entry : (line : Line) (ask : Ask) (write : Write) (said : WriteReply) → changes_of line.asked ≡ changes_in ask → ask ≡ asks.Write write → line.answer ≡ answers.Wrote said → IsIn (entry_at said.ts write) (entries_of line)
written_entry line ask write said asked is told =
    subst (λ (a : Answer). IsIn (entry_at said.ts write) (entries_if (changes_of line.asked) (written_of a))) (sym told)
    (subst (λ (changes : List Write). IsIn (entry_at said.ts write) (entries_if changes (written_of (answers.Wrote said)))) (sym (asked ∙ ap changes_in is)) (inl refl))

-- at most the number of the write
entry_few : (n : ℕ) (ask : Ask) (answer : Answer) → count n (map (λ (e : Entry). e.ts.0) (entries_if (changes_in ask) (written_of answer))) ≤ count n (drawn answer)
entry_few n (asks.Write write) (answers.Wrote said) = omega arith
entry_few n (asks.Search query level wait) (answers.Wrote said) = let z : count n [] ≡ 0 = count-nil n in omega arith
entry_few n (asks.Get key level wait) (answers.Wrote said) = let z : count n [] ≡ 0 = count-nil n in omega arith
entry_few n asks.Tick (answers.Wrote said) = let z : count n [] ≡ 0 = count-nil n in omega arith
entry_few n asks.Seal (answers.Wrote said) = let z : count n [] ≡ 0 = count-nil n in omega arith
entry_few n asks.Meet (answers.Wrote said) = let z : count n [] ≡ 0 = count-nil n in omega arith
entry_few n ask answer = let z : count n [] ≡ 0 = count-nil n in omega arith

none_if : (o : Option LegalWritten) → entries_if [] o ≡ []
none_if None = refl
none_if (Some written) = refl

none_few : (n : ℕ) (answer : Answer) → count n (map (λ (e : Entry). e.ts.0) (entries_if [] (written_of answer))) ≤ count n (drawn answer)
none_few n answer = let e : count n (map (λ (e : Entry). e.ts.0) (entries_if [] (written_of answer))) ≡ count n [] = ap (λ (l : List Entry). count n (map (λ (e : Entry). e.ts.0) l)) (none_if (written_of answer)) in let z : count n [] ≡ 0 = count-nil n in omega arith

entries_few : (n : ℕ) (asked : Asked) (answer : Answer) → count n (map (λ (e : Entry). e.ts.0) (entries_if (changes_of asked) (written_of answer))) ≤ count n (drawn answer)
entries_few n (Given request) answer = entry_few n request.what answer
entries_few n (Bad reason) answer = none_few n answer
entries_few n Finish answer = none_few n answer

-- ---- what the logs grew by

pub call_writes : (collection : Collection) (by line mine : ℕ) (ask : Ask) (answer : Answer) (steps : List (Step Note)) (write : Write) (said : WriteReply) → IsCall collection by line mine ask answer steps
    → ask ≡ asks.Write write → answer ≡ answers.Wrote said → WritesOnce collection by line write said steps
call_writes collection by line mine ask answer steps write said c is told =
    subst (λ (a : Answer). IsCall collection by line mine (asks.Write write) a steps) told (subst (λ (q : Ask). IsCall collection by line mine q answer steps) is c)

module _ (collection : Collection) (least : ℕ) (old new : Rest) (block : List Line) (done : PhaseDone collection least old new block) (next : AreJournals collection new) where
  abbrev pub more_of : ℕ → List Entry
  more_of k = log_of (done.grown k).rest

  pub log_grown : (k : ℕ) → log_of (at_slot new.journals k) ≡ log_of (at_slot old.journals k) ++ more_of k
  log_grown k = ap log_of (done.grown k).is ∙ log_of-append (at_slot old.journals k) (done.grown k).rest

  no_entry : (note : Note) (entry : Entry) → IsQuiet note.kind → IsIn entry (kind_entries_of note.kind) → ⊥
  no_entry note entry quiet h = subst (IsIn entry) (quiet_none note.kind quiet) h

  entry_of_origin : (k : ℕ) (note : Note) (entry : Entry) (n : NoteOf collection least old new block k note) → Origin collection n.done.by n.line.number k n.done.request.what n.line.answer note
      → IsIn entry (kind_entries_of note.kind) → IsIn entry (flat_map entries_of block)
  entry_of_origin k note entry n (Quiet quiet) h = absurd (no_entry note entry quiet h)
  entry_of_origin k note entry n (Written w) h =
      let at : IsIn entry (entry_at w.said.ts w.write ∷ []) = subst (IsIn entry) (ap (λ (x : Note). kind_entries_of x.kind) w.is ∙ kind_entries w.said.ts w.write) h in
      let same : entry ≡ entry_at w.said.ts w.write = ⊎_elim (λ (p : entry ≡ entry_at w.said.ts w.write). p) (λ (z : ⊥). absurd z) at in
      in_flat entries_of block n.line entry n.among
      (subst (λ (e : Entry). IsIn e (entries_of n.line)) (sym same) (written_entry n.line n.done.request.what w.write w.said (ap changes_of n.done.asked) w.asked w.told))
  entry_of_origin k note entry n (Sealed s) h = absurd (subst (λ (x : Note). IsIn entry (kind_entries_of x.kind)) s.is h)

  entry_noted : (k : ℕ) (entry : Entry) → IsIn entry (more_of k) → IsIn entry (flat_map entries_of block)
  entry_noted k entry h =
      let o : OfNote (done.grown k).rest entry = of_note (done.grown k).rest entry h in
      ⊎_elim (λ (quiet : IsQuiet o.note.kind). absurd (no_entry o.note entry quiet o.here))
      (λ (n : NoteOf collection least old new block k o.note).
      entry_of_origin k o.note entry n (origin collection n.done.by n.line.number n.done.mine k n.done.request.what n.line.answer n.done.steps o.note n.done.call n.noted) o.here)
      (done.notes k o.note o.among)

  written_there : (line : Line) (d : LineDone collection least old new line) (write : Write) (said : WriteReply) → d.request.what ≡ asks.Write write → line.answer ≡ answers.Wrote said
      → IsIn (entry_at said.ts write) (more_of (channel_of collection.channels (key_of write)))
  written_there line d write said is told =
      let k : ℕ = channel_of collection.channels (key_of write) in
      let c : WritesOnce collection d.by line.number write said d.steps = call_writes collection d.by line.number d.mine d.request.what line.answer d.steps write said d.call is told in
      let note : Note = note_of d.by line.number (kind_of said.ts write) in
      let s : Stood (at_slot old.journals k) (at_slot new.journals k) c.turn.before note = write_stood collection old.journals new.journals d.by line.number write said d.steps d.settled c in
      in_log (done.grown k).rest note (entry_at said.ts write) (stood_in (at_slot old.journals k) (at_slot new.journals k) c.turn.before note (done.grown k) s)
      (subst (IsIn (entry_at said.ts write)) (sym (kind_entries said.ts write)) (inl refl))

  entry_written : (entry : Entry) → IsIn entry (flat_map entries_of block) → IsIn entry (more_of (channel_of collection.channels (key_of entry.write)))
  entry_written entry h =
      let f : From entries_of block entry = out_flat entries_of block entry h in
      ⊎_elim (λ (refused : IsRefused f.item.asked f.item.answer). absurd (refused_entry f.item.asked f.item.answer entry refused f.here))
      (λ (d : LineDone collection least old new f.item).
      let e : LineEntry d.request.what f.item.answer entry = line_entry d.request.what f.item.answer entry (subst (λ (changes : List Write). IsIn entry (entries_if changes (written_of f.item.answer))) (ap changes_of d.asked) f.here) in
      subst (λ (x : Entry). IsIn x (more_of (channel_of collection.channels (key_of x.write)))) (sym e.is) (written_there f.item d e.write e.said e.asked e.told))
      (done.lines f.item f.among)

  pub grew_by_entries : GrewByEntries collection.channels more_of (flat_map entries_of block)
  grew_by_entries = record {
    rises = λ key. let k : ℕ = channel_of collection.channels key in
        rises_of_key key (more_of k) (log_behind (log_of (at_slot old.journals k)) (more_of k) (subst IsLog (log_grown k) (journal_log (at_slot new.journals k) (all_journals collection new next k))));
    differ = λ key. differ_once (map (λ (e : Entry). e.ts.0) (of_key key (flat_map entries_of block))) (λ n.
        let a : count n (map (λ (e : Entry). e.ts.0) (of_key key (flat_map entries_of block))) ≤ count n (map (λ (e : Entry). e.ts.0) (flat_map entries_of block)) =
        filter_few (λ (e : Entry). e.ts.0) n (λ (e : Entry). eq_by_cmp int_cmp key (key_of e.write)) (flat_map entries_of block) in
        let b : count n (map (λ (e : Entry). e.ts.0) (flat_map entries_of block)) ≤ count n (all_told block) =
        flat_few entries_of (λ (line : Line). drawn line.answer) (λ (e : Entry). e.ts.0) n (λ line. entries_few n line.asked line.answer) block in
        let c : count n (all_told block) ≤ 1 = done.once n in omega arith);
    noted = λ k. all_from (λ entry. IsIn entry (flat_map entries_of block)) (more_of k) (entry_noted k);
    written = all_from (λ entry. IsIn entry (more_of (channel_of collection.channels (key_of entry.write)))) (flat_map entries_of block) entry_written;
  }
