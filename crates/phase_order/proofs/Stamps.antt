-- Numbers of answers: their order, and what they are below.
use Rattle.std.proofs.Common.{◌≡◌, ℕ, ◌+◌, ◌-◌, ◌*◌, ◌^◌, ◌<◌, ◌≤◌, ◌⊎◌, List, [], ◌∷◌, inl, inr, ⊎_elim, refl, ap, subst, arith}
use Rattle.hybrid_time.specs.declared.levels.Level.{Level}
use Rattle.hybrid_time.specs.declared.levels.Level.TheVariants.{Strong, Bounded, Session, Eventually}
use Rattle.hybrid_time.specs.Levels.{guarantee_of}
use Rattle.legal_output.specs.Legal.{Rising}
use Rattle.journal_model.specs.declared.notes.Kind.{Kind}
use Rattle.journal_model.specs.declared.notes.Kind.TheVariants.{Put, Remove, Tick, Seal}
use Rattle.journal_model.specs.declared.notes.Note.{Note}
use Rattle.journal_model.specs.Notes.{ts_of, tick_after, tick_from, tick_of}
use Rattle.journal_model.specs.Lists.{IsIn}
use Rattle.journal_model.proofs.ListLaws.{all_from}
use Rattle.turn_facts.specs.Counts.{count, Among}
use Rattle.turn_facts.specs.Notes.{times, with_time}
use Rattle.turn_facts.specs.Prefixes.{StartsWith}
use Rattle.turn_facts.proofs.Counts.{count-here, count-append}
use Rattle.turn_facts.proofs.Notes.{times_starts}
use Rattle.seat_walks.specs.Walks.{Rises}
use Rattle.call_model.specs.Turns.{by_of, time_of}

pub in_among : (x : ℕ) (l : List ℕ) → IsIn x l → Among x l
in_among x [] h = absurd h
in_among x (y ∷ l) (inl p) = subst (λ (z : ℕ). Among x (z ∷ l)) p (let c : count x (x ∷ l) ≡ 1 + count x l = count-here x l in omega arith)
in_among x (y ∷ l) (inr h) = let c : count x (y ∷ l) ≡ count x (y ∷ []) + count x l = count-append x (y ∷ []) l in let a : Among x l = in_among x l h in omega arith

pub rising : (l : List ℕ) → Rises l → Rising l
rising [] r = tt
rising (x ∷ l) r = (all_from (λ y. x < y) l (λ y h. r.0 y (in_among y l h)), rising l r.1)

-- ---- the last tick is a timestamp of the journal

tick_kind : (t : ℕ) (kind : Kind) (last : ℕ) (ts : List ℕ) → (last ≡ tick_after t kind) ⊎ Among last ts → (last ≡ t) ⊎ Among last (with_time (ts_of kind) ts)
tick_kind t (Put ts how row) last l h = ⊎_elim (λ p. inl p) (λ (p : Among last l). inr (let c : count last (ts.0 ∷ l) ≡ count last (ts.0 ∷ []) + count last l = count-append last (ts.0 ∷ []) l in omega arith)) h
tick_kind t (Remove ts key) last l h = ⊎_elim (λ p. inl p) (λ (p : Among last l). inr (let c : count last (ts.0 ∷ l) ≡ count last (ts.0 ∷ []) + count last l = count-append last (ts.0 ∷ []) l in omega arith)) h
tick_kind t (Seal ts) last l h = ⊎_elim (λ p. inl p) (λ (p : Among last l). inr (let c : count last (ts.0 ∷ l) ≡ count last (ts.0 ∷ []) + count last l = count-append last (ts.0 ∷ []) l in omega arith)) h
tick_kind t (Tick ts) last l h =
    let c : count last (ts.0 ∷ l) ≡ count last (ts.0 ∷ []) + count last l = count-append last (ts.0 ∷ []) l in
    ⊎_elim (λ (p : last ≡ ts.0). inr (let d : count ts.0 (ts.0 ∷ []) ≡ 1 + count ts.0 [] = count-here ts.0 [] in let e : count last (ts.0 ∷ []) ≡ count ts.0 (ts.0 ∷ []) = ap (λ (n : ℕ). count n (ts.0 ∷ [])) p in omega arith)) (λ (p : Among last l). inr (omega arith)) h
tick_kind t kind last l h = h

tick_step : (t : ℕ) (note : Note) (notes : List Note) → (tick_from (tick_after t note.kind) notes ≡ tick_after t note.kind) ⊎ Among (tick_from (tick_after t note.kind) notes) (times time_of notes)
    → (tick_from t (note ∷ notes) ≡ t) ⊎ Among (tick_from t (note ∷ notes)) (times time_of (note ∷ notes))
unfolding times
tick_step t note notes h = tick_kind t note.kind (tick_from (tick_after t note.kind) notes) (times time_of notes) h

pub tick_among : (t : ℕ) (notes : List Note) → (tick_from t notes ≡ t) ⊎ Among (tick_from t notes) (times time_of notes)
unfolding times
tick_among t [] = inl refl
tick_among t (note ∷ notes) = tick_step t note notes (tick_among (tick_after t note.kind) notes)

-- the tick of a beginning is below what is above all timestamps of a journal
pub tick_under : (whole front : List Note) (x : ℕ) → StartsWith whole front → ((y : ℕ) → Among y (times time_of whole) → y < x) → 0 < x → tick_of front < x
tick_under whole front x s all some = ⊎_elim (λ (p : tick_of front ≡ 0). omega arith) (λ (p : Among (tick_of front) (times time_of front)). all (tick_of front) (times_starts by_of time_of (tick_of front) s p)) (tick_among 0 front)

pub guarantee_under : (level : Level) (now mine guarantee x : ℕ) → guarantee ≡ guarantee_of level now mine → now < x → mine < x → guarantee < x
guarantee_under Strong now mine guarantee x is low other = omega arith
guarantee_under (Bounded delta) now mine guarantee x is low other = let le : now - delta * 2 ^ 18 ≤ now = omega arith in omega arith
guarantee_under Session now mine guarantee x is low other = omega arith
guarantee_under Eventually now mine guarantee x is low other = omega arith
