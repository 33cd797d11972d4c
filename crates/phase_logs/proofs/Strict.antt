-- The timestamps of what a journal grew by in a phase rise strictly.
use Rattle.std.proofs.Common.{◌≡◌, ℕ, ℤ, ◌<◌, true, true≢false, not, Option, Some, None, List, [], ◌∷◌, ◌++◌, inl, inr, ⊎_elim, refl, sym, ap, subst, ◌∙◌, append_assoc, append-nil, eqb-true}
use Rattle.std.specs.List.{AllByRecursion as Each, list_all}
use Rattle.std.proofs.lemmas.Bool.{and_parts}
use Rattle.std.proofs.lemmas.Bool.Decides.{Decides-int_eq}
use Rattle.turn_facts.specs.Counts.{Among}
use Rattle.turn_table.specs.Knowledge.{at_slot}
use Rattle.log_model.specs.declared.logs.Write.{Write}
use Rattle.log_model.specs.declared.logs.Write.TheVariants as writes
use Rattle.log_model.specs.Logs.{key_of}
use Rattle.hybrid_time.specs.declared.times.Timestamp.{Timestamp}
use Rattle.coarse_lists.specs.declared.collections.Collection.{Collection}
use Rattle.answer_lines.specs.declared.answers.Answer.{Answer}
use Rattle.legal_output.specs.Lines.{Line, changes_in, changes_of, drawn}
use Rattle.journal_model.specs.declared.notes.Kind.{Kind}
use Rattle.journal_model.specs.declared.notes.Kind.TheVariants.{Put, Remove, Seal}
use Rattle.journal_model.specs.declared.notes.Note.{Note}
use Rattle.journal_model.specs.Notes.{ts_of, changed_key}
use Rattle.journal_model.specs.Journals.{is_same, is_other_key, shares_batch, is_next, IsJournal}
use Rattle.journal_model.specs.Walks.{IsEachFrom}
use Rattle.journal_model.specs.Lists.{IsIn}
use Rattle.journal_model.proofs.FollowLaws.{follow_text, Mate, mate_parts}
use Rattle.journal_model.proofs.OrderLaws.{next_follows}
use Rattle.call_model.specs.Turns.{kind_of}
use Rattle.phase_model.specs.Rests.{Rest, AreJournals}
use Rattle.phase_model.specs.Phases.{IsQuiet}
use Rattle.phase_order.proofs.Steps.{among_here}
use Rattle.phase_order.proofs.Lines.{NoteOf, PhaseDone}
use Rattle.phase_order.proofs.Slots.{all_journals}
use Rattle.phase_logs.proofs.Lists.{same_item}
use Rattle.phase_logs.proofs.Origins.{FromWrite, Origin, Quiet, Written, Sealed, origin}

-- later notes have later timestamps
abbrev pub Strict : List Note → Type 0
Strict [] = Unit {0}
Strict (note ∷ notes) = ((s : ℕ) → ts_of note.kind ≡ Some s → Each (λ later. (t : ℕ) → ts_of later.kind ≡ Some t → s < t) notes) × Strict notes

-- notes behind others, by a rule of each note and those before it
pub from_front : (before xs ys : List Note) → IsEachFrom (λ before note. is_next before note ≡ true) before (xs ++ ys) → IsEachFrom (λ before note. is_next before note ≡ true) (before ++ xs) ys
from_front before [] ys j = subst (λ (l : List Note). IsEachFrom (λ before note. is_next before note ≡ true) l ys) (sym (append-nil before)) j
from_front before (x ∷ xs) ys j =
    subst (λ (l : List Note). IsEachFrom (λ before note. is_next before note ≡ true) l ys) (append_assoc before (x ∷ []) xs) (from_front (before ++ x ∷ []) xs ys j.1)

-- where no two are of one batch
module _ (all : List Note) (apart : (earlier later : Note) → IsIn earlier all → IsIn later all → Mate later earlier → ⊥) where
  behind : (front : List Note) (first : Note) (middle notes : List Note) (s : ℕ) → ts_of first.kind ≡ Some s → IsIn first all → ((note : Note) → IsIn note notes → IsIn note all)
      → IsEachFrom (λ before note. is_next before note ≡ true) (front ++ first ∷ middle) notes → Each (λ later. (t : ℕ) → ts_of later.kind ≡ Some t → s < t) notes
  behind front first middle [] s dated here sub j = tt
  behind front first middle (note ∷ notes) s dated here sub j = (
    (λ t is. ⊎_elim (λ (l : s < t). l)
        (λ (r : (s ≡ t) × (list_all (shares_batch note) (first ∷ middle) ≡ true)).
        absurd (apart first note here (sub note (inl refl)) (mate_parts note first (and_parts (shares_batch note first) (list_all (shares_batch note) middle) r.1).0)))
        (follow_text front middle first note (next_follows (front ++ first ∷ middle) note j.0) s t dated is)),
    behind front first (middle ++ note ∷ []) notes s dated here (λ n h. sub n (inr h))
        (subst (λ (l : List Note). IsEachFrom (λ before note. is_next before note ≡ true) l notes) (append_assoc front (first ∷ middle) (note ∷ [])) j.1),
  )

  strict_from : (front notes : List Note) → ((note : Note) → IsIn note notes → IsIn note all) → IsEachFrom (λ before note. is_next before note ≡ true) front notes → Strict notes
  strict_from front [] sub j = tt
  strict_from front (note ∷ notes) sub j = (
    (λ s dated. behind front note [] notes s dated (sub note (inl refl)) (λ n h. sub n (inr h)) j.1),
    strict_from (front ++ note ∷ []) notes (λ n h. sub n (inr h)) j.1,
  )

-- ---- notes of one batch

quiet_unchanged : (kind : Kind) → IsQuiet kind → changed_key kind ≡ None
quiet_unchanged (Put ts how row) q = absurd q
quiet_unchanged (Remove ts key) q = absurd q
quiet_unchanged (Seal ts) q = absurd q
quiet_unchanged kind q = refl

no_key : (first second : Option ℤ) → is_other_key first second ≡ true → (first ≡ None → ⊥) × (second ≡ None → ⊥)
no_key None second h = absurd (true≢false (sym h))
no_key (Some key) None h = absurd (true≢false (sym h))
no_key (Some key) (Some other) h = ((λ e. (let z : ⊥ = cc in z)), (λ e. (let z : ⊥ = cc in z)))

pub kind_ts : (ts : Timestamp) (write : Write) → ts_of (kind_of ts write) ≡ Some ts.0
kind_ts ts (writes.Insert row) = refl
kind_ts ts (writes.Upsert row) = refl
kind_ts ts (writes.Delete key) = refl

kind_key : (ts : Timestamp) (write : Write) → changed_key (kind_of ts write) ≡ Some (key_of write)
kind_key ts (writes.Insert row) = refl
kind_key ts (writes.Upsert row) = refl
kind_key ts (writes.Delete key) = refl

-- the key that a line changes
first_key : List Write → Option ℤ
first_key [] = None
first_key (write ∷ changes) = Some (key_of write)

same_key : (key : ℤ) → is_other_key (Some key) (Some key) ≡ true → ⊥
same_key key h = true≢false (sym h ∙ ap not ((Decides-int_eq key key).1 refl))

same_ts : (s t : ℕ) (first second : Option ℕ) → first ≡ Some s → second ≡ Some t → is_same first second ≡ true → s ≡ t
same_ts s t first second a b h = eqb-true s t (subst (λ (o : Option ℕ). is_same (Some s) o ≡ true) b (subst (λ (o : Option ℕ). is_same o second ≡ true) a h))

module _ (collection : Collection) (least : ℕ) (old new : Rest) (block : List Line) (done : PhaseDone collection least old new block) (next : AreJournals collection new) (k : ℕ) where
  -- a note that changes a key is of a write
  changes : (note : Note) → IsIn note (done.grown k).rest → (changed_key note.kind ≡ None → ⊥)
      → (n : NoteOf collection least old new block k note) × FromWrite collection n.done.by n.line.number k n.done.request.what n.line.answer note
  changes note h some = ⊎_elim
      (λ (quiet : IsQuiet note.kind). absurd (some (quiet_unchanged note.kind quiet)))
      (λ (n : NoteOf collection least old new block k note). (n, written n (origin collection n.done.by n.line.number n.done.mine k n.done.request.what n.line.answer n.done.steps note n.done.call n.noted)))
      (done.notes k note h)
    where
      written : (n : NoteOf collection least old new block k note) → Origin collection n.done.by n.line.number k n.done.request.what n.line.answer note
          → FromWrite collection n.done.by n.line.number k n.done.request.what n.line.answer note
      written n (Quiet quiet) = absurd (some (quiet_unchanged note.kind quiet))
      written n (Written w) = w
      written n (Sealed s) = absurd (some (ap (λ (x : Note). changed_key x.kind) s.is))

  key_of_line : (note : Note) (n : NoteOf collection least old new block k note) (w : FromWrite collection n.done.by n.line.number k n.done.request.what n.line.answer note)
      → changed_key note.kind ≡ first_key (changes_of n.line.asked)
  unfolding first_key
  key_of_line note n w =
      ap (λ (x : Note). changed_key x.kind) w.is ∙ kind_key w.said.ts w.write ∙ sym (ap first_key (ap changes_of n.done.asked ∙ ap changes_in w.asked))

  drew : (note : Note) (n : NoteOf collection least old new block k note) (w : FromWrite collection n.done.by n.line.number k n.done.request.what n.line.answer note) → Among w.said.ts.0 (drawn n.line.answer)
  drew note n w = subst (λ (a : Answer). Among w.said.ts.0 (drawn a)) (sym w.told) (among_here w.said.ts.0 [])

  apart : (earlier later : Note) → IsIn earlier (done.grown k).rest → IsIn later (done.grown k).rest → Mate later earlier → ⊥
  apart earlier later h g m =
      let some = no_key (changed_key earlier.kind) (changed_key later.kind) m.key in
      let a = changes earlier h some.0 in
      let b = changes later g some.1 in
      let ts_a : ts_of earlier.kind ≡ Some a.1.said.ts.0 = ap (λ (x : Note). ts_of x.kind) a.1.is ∙ kind_ts a.1.said.ts a.1.write in
      let ts_b : ts_of later.kind ≡ Some b.1.said.ts.0 = ap (λ (x : Note). ts_of x.kind) b.1.is ∙ kind_ts b.1.said.ts b.1.write in
      let same : a.1.said.ts.0 ≡ b.1.said.ts.0 = same_ts a.1.said.ts.0 b.1.said.ts.0 (ts_of earlier.kind) (ts_of later.kind) ts_a ts_b m.ts in
      let line : a.0.line ≡ b.0.line = same_item (λ (line : Line). drawn line.answer) b.1.said.ts.0 block (done.once b.1.said.ts.0) a.0.line b.0.line a.0.among b.0.among
      (subst (λ (n : ℕ). Among n (drawn a.0.line.answer)) same (drew earlier a.0 a.1)) (drew later b.0 b.1) in
      let keys : changed_key earlier.kind ≡ changed_key later.kind = key_of_line earlier a.0 a.1 ∙ ap (λ (line : Line). first_key (changes_of line.asked)) line ∙ sym (key_of_line later b.0 b.1) in
      let key : changed_key later.kind ≡ Some (key_of b.1.write) = ap (λ (x : Note). changed_key x.kind) b.1.is ∙ kind_key b.1.said.ts b.1.write in
      same_key (key_of b.1.write) (subst (λ (o : Option ℤ). is_other_key o o ≡ true) key (subst (λ (o : Option ℤ). is_other_key o (changed_key later.kind) ≡ true) keys m.key))

  pub strict : Strict (done.grown k).rest
  strict =
      strict_from (done.grown k).rest apart (at_slot old.journals k) (done.grown k).rest (λ note h. h)
      (from_front [] (at_slot old.journals k) (done.grown k).rest (subst IsJournal (done.grown k).is (all_journals collection new next k)))
