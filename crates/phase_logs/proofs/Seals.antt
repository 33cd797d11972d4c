-- The rows that a seal tells are those of the tail just before it.
use Rattle.std.proofs.Common.{◌≡◌, ℕ, suc, ◌+◌, ◌<◌, ◌≤◌, true, false, Option, Some, None, List, [], ◌∷◌, ◌++◌, ⊎_elim, refl, sym, ap, subst, ◌∙◌, append_assoc, append-nil, arith, nat_lt, lt-ltb, ltb-true}
use Rattle.std.specs.List.{AllByRecursion as Each, filter, list_all}
use Rattle.std.proofs.lemmas.Bool.{false_from_ne_true}
use Rattle.std.proofs.lemmas.List.Elements.{filter-append}
use Rattle.turn_facts.specs.Counts.{Among}
use Rattle.turn_facts.specs.Notes.{times, with_time}
use Rattle.turn_facts.specs.Prefixes.{IsAt}
use Rattle.turn_table.specs.Knowledge.{at_slot}
use Rattle.hybrid_time.specs.declared.times.Timestamp.{Timestamp}
use Rattle.log_model.proofs.LogLaws.{each_implied, filter-all, filter-none}
use Rattle.coarse_lists.specs.declared.collections.Collection.{Collection}
use Rattle.legal_output.specs.Printed.{Event, Tail, walk}
use Rattle.legal_output.specs.Legal.{AreTails}
use Rattle.legal_output.specs.Phases.{tail_below}
use Rattle.journal_model.specs.declared.notes.Kind.TheVariants.{Seal}
use Rattle.journal_model.specs.declared.notes.Note.{Note}
use Rattle.journal_model.specs.Notes.{note_of, ts_of}
use Rattle.journal_model.specs.Journals.{shares_batch, is_next, IsJournal}
use Rattle.journal_model.specs.Walks.{IsEachFrom}
use Rattle.journal_model.specs.Layouts.{Channel, layout_of}
use Rattle.journal_model.specs.Lawful.{is_lawful, IsLawful}
use Rattle.journal_model.proofs.FollowLaws.{follow_text}
use Rattle.journal_model.proofs.OrderLaws.{next_follows}
use Rattle.call_model.specs.Turns.{stamp, time_of}
use Rattle.call_model.specs.Calls.{channel_at}
use Rattle.phase_order.proofs.Steps.{among_right, among_here}
use Rattle.phase_logs.specs.Events.{events_from, events_in}
use Rattle.phase_logs.proofs.Growing.{events_from-append, events_all}
use Rattle.phase_logs.proofs.SealTurns.{SealAt}
use Rattle.phase_logs.proofs.Strict.{from_front}
use Rattle.phase_logs.proofs.Tails.{TailOf, tails}

-- ---- timestamps of notes

dated_each : (P : ℕ → Type 0) (o : Option ℕ) (l : List ℕ) → ((y : ℕ) → Among y (with_time o l) → P y) → ((t : ℕ) → o ≡ Some t → P t) × ((y : ℕ) → Among y l → P y)
dated_each P None l f = ((λ t is. absurd (let z : ⊥ = cc in z)), f)
dated_each P (Some s) l f = (
  (λ t is. subst P (let q : s ≡ t = cc in q) (f s (among_here s l))),
  (λ y a. f y (among_right y (s ∷ []) l a)),
)

pub times_each : (P : ℕ → Type 0) (notes : List Note) → ((y : ℕ) → Among y (times time_of notes) → P y) → Each (λ note. (t : ℕ) → ts_of note.kind ≡ Some t → P t) notes
unfolding times
times_each P [] f = tt
times_each P (note ∷ notes) f = let r = dated_each P (ts_of note.kind) (times time_of notes) f in (r.0, times_each P notes r.1)

-- no later note is below a note
not_below : (front : List Note) (first : Note) (middle notes : List Note) (s : ℕ) → ts_of first.kind ≡ Some s → IsEachFrom (λ before note. is_next before note ≡ true) (front ++ first ∷ middle) notes
    → Each (λ later. (t : ℕ) → ts_of later.kind ≡ Some t → s ≤ t) notes
not_below front first middle [] s dated j = tt
not_below front first middle (note ∷ notes) s dated j = (
  (λ t is. ⊎_elim (λ (l : s < t). omega arith) (λ (r : (s ≡ t) × (list_all (shares_batch note) (first ∷ middle) ≡ true)). let e : s ≡ t = r.0 in omega arith)
      (follow_text front middle first note (next_follows (front ++ first ∷ middle) note j.0) s t dated is)),
  not_below front first (middle ++ note ∷ []) notes s dated (subst (λ (l : List Note). IsEachFrom (λ before note. is_next before note ≡ true) l notes) (append_assoc front (first ∷ middle) (note ∷ [])) j.1),
)

lawful_from : (channel : Channel) (before xs ys : List Note) → IsEachFrom (λ before note. is_lawful channel before note ≡ true) before (xs ++ ys) → IsEachFrom (λ before note. is_lawful channel before note ≡ true) before xs
lawful_from channel before [] ys j = tt
lawful_from channel before (x ∷ xs) ys j = (j.0, lawful_from channel (before ++ x ∷ []) xs ys j.1)

pub lawful_front : (channel : Channel) (xs ys : List Note) → IsLawful channel (xs ++ ys) → IsLawful channel xs
lawful_front channel xs ys l = lawful_from channel [] xs ys l

low_true : (m n : ℕ) → m < n → nat_lt m n ≡ true
low_true m n h = lt-ltb m n h

high_false : (m n : ℕ) → n ≤ m → nat_lt m n ≡ false
high_false m n h = false_from_ne_true (nat_lt m n) (λ t. let l : m < n = ltb-true m n t in absurd (omega arith))

-- the events below a note's timestamp are those of the notes before it
events_before : (before : List Note) (note : Note) (rest : List Note) (ts : ℕ) → ts_of note.kind ≡ Some ts → IsJournal (before ++ note ∷ rest) → ((y : ℕ) → Among y (times time_of before) → y < ts)
    → filter (λ e. nat_lt e.ts ts) (events_in (before ++ note ∷ rest)) ≡ events_in before
events_before before note rest ts dated journal low =
    ap (filter (λ e. nat_lt e.ts ts)) (events_from-append [] before (note ∷ rest))
    ∙ filter-append (λ e. nat_lt e.ts ts) (events_in before) (events_from before (note ∷ rest))
    ∙ ap (λ (l : List Event). l ++ filter (λ e. nat_lt e.ts ts) (events_from before (note ∷ rest)))
    (filter-all (λ (e : Event). nat_lt e.ts ts) (events_in before) (events_all (λ n. nat_lt n ts ≡ true) [] before (times_each (λ n. nat_lt n ts ≡ true) before (λ y a. low_true y ts (low y a)))))
    ∙ ap (λ (l : List Event). events_in before ++ l)
    (filter-none (λ (e : Event). nat_lt e.ts ts) (events_from before (note ∷ rest))
    (events_all (λ n. nat_lt n ts ≡ false) before (note ∷ rest) (
      (λ t is. high_false t ts (let q : Some t ≡ Some ts = sym is ∙ dated in let q' : t ≡ ts = cc in omega arith)),
      each_implied (λ (later : Note). (t : ℕ) → ts_of later.kind ≡ Some t → ts ≤ t) (λ (later : Note). (t : ℕ) → ts_of later.kind ≡ Some t → nat_lt t ts ≡ false) (λ later f t is. high_false t ts (f t is)) rest
          (not_below before note [] rest ts dated (from_front [] (before ++ note ∷ []) rest (subst IsJournal (sym (append_assoc before (note ∷ []) rest)) journal))),
    )))
    ∙ append-nil (events_in before)

seal_rows_told : (collection : Collection) → 0 < collection.seal_rows → (old new : List (List Note)) (by line k : ℕ) (seal : Timestamp × ℕ) → IsJournal (at_slot new k) → IsLawful (channel_at collection k) (at_slot new k)
    → SealAt collection old new by line k seal → seal.1 ≡ (tail_below collection.seal_rows (λ j. events_in (at_slot new j)) seal.0.0 k).rows
seal_rows_told collection some old new by line k seal journal lawful s =
    let note : Note = note_of by line (Seal (stamp seal.0.0)) in
    let t : TailOf (layout_of (channel_at collection k) s.before) (walk collection.seal_rows (events_in s.before)) =
    tails (channel_at collection k) some s.before (lawful_front (channel_at collection k) s.before (note ∷ s.stood.rest) (subst (IsLawful (channel_at collection k)) s.stood.is lawful)) in
    s.rows ∙ sym t.rows
    ∙ ap (λ (l : List Event). (walk collection.seal_rows l).rows) (sym (events_before s.before note s.stood.rest seal.0.0 refl (subst IsJournal s.stood.is journal) s.above))
    ∙ ap (λ (l : List Note). (walk collection.seal_rows (filter (λ e. nat_lt e.ts seal.0.0) (events_in l))).rows) (sym s.stood.is)

are_tails : (f : ℕ → ℕ → Tail) (j : ℕ) (seals : List (Timestamp × ℕ)) → ((i k : ℕ) (seal : Timestamp × ℕ) → k ≡ j + i → IsAt seals i seal → seal.1 ≡ (f seal.0.0 k).rows) → AreTails f j seals
are_tails f j [] h = tt
are_tails f j (seal ∷ seals) h = (h 0 j seal (omega arith) refl, are_tails f (j + 1) seals (λ i k other is at. h (suc i) k other (omega arith) at))

-- all seals of a line
pub seals_told : (collection : Collection) → 0 < collection.seal_rows → (old new : List (List Note)) (by line : ℕ) (seals : List (Timestamp × ℕ))
    → ((k : ℕ) (seal : Timestamp × ℕ) → IsAt seals k seal → IsJournal (at_slot new k) × IsLawful (channel_at collection k) (at_slot new k) × SealAt collection old new by line k seal)
    → AreTails (tail_below collection.seal_rows (λ j. events_in (at_slot new j))) 0 seals
seals_told collection some old new by line seals f =
    are_tails (tail_below collection.seal_rows (λ j. events_in (at_slot new j))) 0 seals
    (λ i k seal is at. let r = f k seal (subst (λ (n : ℕ). IsAt seals n seal) (let e : i ≡ k = omega arith in e) at) in seal_rows_told collection some old new by line k seal r.0 r.1 r.2)
