-- Ticks along journals, and what looks and ticks of a call tell of them.
use Rattle.std.proofs.Common.{◌≡◌, ℕ, zero, suc, ◌+◌, ◌<◌, ◌≤◌, Bool, List, [], ◌∷◌, ◌++◌, length, min, inl, inr, ⊎_elim, refl, sym, ap, subst, ◌∙◌, arith, ◌⊎◌, true}
use Rattle.std.proofs.lemmas.Bool.{cases_lt}
use mathlib.Core.Option.{some-ne-none, some-injective}
use Rattle.hybrid_time.specs.declared.times.Timestamp.{Timestamp}
use Rattle.turn_facts.specs.Prefixes.{StartsWith, IsAt}
use Rattle.seat_walks.specs.Walks.{Turned}
use Rattle.journal_model.specs.declared.notes.Kind.TheVariants.{Tick}
use Rattle.journal_model.specs.declared.notes.Note.{Note}
use Rattle.journal_model.specs.Notes.{note_of, tick_of}
use Rattle.journal_model.specs.Journals.{IsJournal, is_next}
use Rattle.journal_model.specs.Walks.{IsEachFrom}
use Rattle.journal_model.proofs.NoteLaws.{tick_of-snoc}
use Rattle.journal_model.proofs.ViewLaws.{goes_on}
use Rattle.call_model.specs.Turns.{stamp, Ticks}
use Rattle.call_model.specs.Calls.{tick_left, AreTicks, AreLooks, least_from, least_tick}

-- ---- beginnings of journals

front_from : (before xs ys : List Note) → IsEachFrom (λ before note. is_next before note ≡ true) before (xs ++ ys) → IsEachFrom (λ before note. is_next before note ≡ true) before xs
front_from before [] ys j = tt
front_from before (x ∷ xs) ys j = (j.0, front_from (before ++ x ∷ []) xs ys j.1)

pub journal_front : (xs ys : List Note) → IsJournal (xs ++ ys) → IsJournal xs
journal_front xs ys j = front_from [] xs ys j

pub journal_starts : {whole front : List Note} → StartsWith whole front → IsJournal whole → IsJournal front
journal_starts {whole} {front} s j = journal_front front s.rest (subst IsJournal s.is j)

pub tick_mono : {whole front : List Note} → StartsWith whole front → IsJournal whole → tick_of front ≤ tick_of whole
tick_mono {whole} {front} s j = subst (λ (l : List Note). tick_of front ≤ tick_of l) (sym s.is) (goes_on front s.rest (subst IsJournal s.is j)).tick

-- ---- the ticks of a call

pub ticked_left : (by line ts : ℕ) (t : Turned Note) → Ticks by line ts t.notes t.drawn → tick_left t ≡ ts
ticked_left by line ts t c = ap (λ (l : List Note). tick_of (t.before ++ l)) c.noted ∙ tick_of-snoc t.before (note_of by line (Tick (stamp ts)))

pub ticks_at : (by line k : ℕ) (turns : List (Turned Note)) (stamps : List Timestamp) (i : ℕ) (ts : Timestamp) → AreTicks by line k turns stamps → IsAt stamps i ts
    → (t : Turned Note) × IsAt turns i t × (t.slot ≡ k + i) × (tick_left t ≡ ts.0)
ticks_at by line k [] [] i ts a e = absurd (some-ne-none ts (sym e))
ticks_at by line k [] (x ∷ stamps) i ts a e = absurd a
ticks_at by line k (t ∷ turns) [] i ts a e = absurd a
ticks_at by line k (t ∷ turns) (x ∷ stamps) zero ts a e =
    (t, refl, (let s : t.slot ≡ k = a.0 in let s' : t.slot ≡ k + 0 = omega arith in s'), ticked_left by line x.0 t a.1 ∙ ap (λ (y : Timestamp). y.0) (some-injective x ts e))
ticks_at by line k (t ∷ turns) (x ∷ stamps) (suc i) ts a e =
    let r = ticks_at by line (k + 1) turns stamps i ts a.2 e in
    (r.0, r.1, (let s : r.0.slot ≡ (k + 1) + i = r.2 in let s' : r.0.slot ≡ k + suc i = omega arith in s'), r.3)

-- ---- looks

pub looks_at : (by line guarantee : ℕ) (wait : Bool) (k : ℕ) (turns : List (Turned Note)) (i : ℕ) (t : Turned Note) → AreLooks by line guarantee wait k turns → IsAt turns i t
    → (t.slot ≡ k + i) × (guarantee ≤ tick_left t)
looks_at by line guarantee wait k [] i t a e = absurd (some-ne-none t (sym e))
looks_at by line guarantee wait k (u ∷ turns) zero t a e =
    subst (λ (v : Turned Note). (v.slot ≡ k + 0) × (guarantee ≤ tick_left v)) (some-injective u t e) (let s : u.slot ≡ k = a.0.0 in let s' : u.slot ≡ k + 0 = omega arith in s', a.1)
looks_at by line guarantee wait k (u ∷ turns) (suc i) t a e =
    let r = looks_at by line guarantee wait (k + 1) turns i t a.2 e in
    let s : t.slot ≡ (k + 1) + i = r.0 in ((let s' : t.slot ≡ k + suc i = omega arith in s'), r.1)

least_from_le : (ts : ℕ) (turns : List (Turned Note)) → least_from ts turns ≤ ts
least_from_le ts [] = omega arith
least_from_le ts (t ∷ turns) = let h : least_from (min ts (tick_left t)) turns ≤ min ts (tick_left t) = least_from_le (min ts (tick_left t)) turns in omega arith

least_from_at : (ts : ℕ) (turns : List (Turned Note)) (i : ℕ) (t : Turned Note) → IsAt turns i t → least_from ts turns ≤ tick_left t
least_from_at ts [] i t e = absurd (some-ne-none t (sym e))
least_from_at ts (u ∷ turns) zero t e =
    let h : least_from (min ts (tick_left u)) turns ≤ min ts (tick_left u) = least_from_le (min ts (tick_left u)) turns in
    let p : tick_left u ≡ tick_left t = ap tick_left (some-injective u t e) in omega arith
least_from_at ts (u ∷ turns) (suc i) t e = least_from_at (min ts (tick_left u)) turns i t e

-- the least tick is not above any
pub least_at : (turns : List (Turned Note)) (i : ℕ) (t : Turned Note) → IsAt turns i t → least_tick turns ≤ tick_left t
least_at [] i t e = absurd (some-ne-none t (sym e))
least_at (u ∷ turns) zero t e = let h : least_from (tick_left u) turns ≤ tick_left u = least_from_le (tick_left u) turns in let p : tick_left u ≡ tick_left t = ap tick_left (some-injective u t e) in omega arith
least_at (u ∷ turns) (suc i) t e = least_from_at (tick_left u) turns i t e

-- and is one of them
pub record IsLeast (turns : List (Turned Note)) (ts : ℕ) : Type 0 where
  pub place : ℕ
  pub turn : Turned Note
  pub there : IsAt turns place turn
  pub same : tick_left turn ≡ ts

least_later : (u : Turned Note) (turns : List (Turned Note)) (ts : ℕ) → IsLeast turns ts → IsLeast (u ∷ turns) ts
least_later u turns ts l = record { place = suc l.place; turn = l.turn; there = l.there; same = l.same }

least_found : (ts : ℕ) (turns : List (Turned Note)) → (least_from ts turns ≡ ts) ⊎ IsLeast turns (least_from ts turns)
least_found ts [] = inl refl
least_found ts (u ∷ turns) =
    ⊎_elim
    (λ (same : least_from (min ts (tick_left u)) turns ≡ min ts (tick_left u)).
    ⊎_elim (λ (low : ts ≤ tick_left u). inl (let m : min ts (tick_left u) ≡ ts = omega arith in same ∙ m))
    (λ (high : tick_left u ≤ ts). inr (record { place = 0; turn = u; there = refl; same = let m : min ts (tick_left u) ≡ tick_left u = omega arith in sym (same ∙ m) }))
    (le_or ts (tick_left u)))
    (λ (later : IsLeast turns (least_from (min ts (tick_left u)) turns)). inr (least_later u turns (least_from (min ts (tick_left u)) turns) later))
    (least_found (min ts (tick_left u)) turns)
  where
    le_or : (m n : ℕ) → (m ≤ n) ⊎ (n ≤ m)
    le_or m n = ⊎_elim (λ (l : m < n). inl (omega arith)) (λ (r : n ≤ m). inr r) (cases_lt m n)

pub least_is : (turns : List (Turned Note)) → 0 < length turns → IsLeast turns (least_tick turns)
least_is [] some = absurd (omega arith)
least_is (u ∷ turns) some = ⊎_elim
    (λ (same : least_from (tick_left u) turns ≡ tick_left u). record { place = 0; turn = u; there = refl; same = sym same })
    (λ (later : IsLeast turns (least_from (tick_left u) turns)). least_later u turns (least_from (tick_left u) turns) later)
    (least_found (tick_left u) turns)
