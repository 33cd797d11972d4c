-- Turns, notes and numbers among the steps of a seat.
use Rattle.std.proofs.Common.{◌≡◌, ℕ, ◌+◌, ◌<◌, Bool, true, false, cond, ◌==◌, List, [], ◌∷◌, ◌++◌, length, Option, inl, inr, ⊎_elim, refl, sym, ap, subst, ◌∙◌, append_assoc, arith, eqb-true}
use Rattle.std.proofs.lemmas.List.{length-set, get_or-set_same}
use Rattle.turn_facts.specs.Counts.{count, Among}
use Rattle.turn_facts.specs.Notes.{times}
use Rattle.turn_facts.proofs.Counts.{count-nil, count-here, count-append}
use Rattle.turn_table.specs.Seats.{SeatView}
use Rattle.seat_walks.specs.Walks.{Turned, Step, Draw, Lift, Took, after, IsTurn, IsStep, Walks, drawn_in, notes_in, all_drawn, all_notes}
use Rattle.journal_model.specs.Lists.{IsIn}
use Rattle.journal_model.proofs.ListLaws.{in_cases}

-- ---- numbers

pub among_left : (x : ℕ) (l m : List ℕ) → Among x l → Among x (l ++ m)
among_left x l m a = let c : count x (l ++ m) ≡ count x l + count x m = count-append x l m in omega arith

pub among_right : (x : ℕ) (l m : List ℕ) → Among x m → Among x (l ++ m)
among_right x l m a = let c : count x (l ++ m) ≡ count x l + count x m = count-append x l m in omega arith

pub among_here : (x : ℕ) (l : List ℕ) → Among x (x ∷ l)
among_here x l = let c : count x (x ∷ l) ≡ 1 + count x l = count-here x l in omega arith

pub among_none : (x : ℕ) → Among x [] → ⊥
among_none x a = let z : count x [] ≡ 0 = count-nil x in omega arith

-- ---- steps

module _ {N : Type 0} where
  pub all_drawn-append : (xs ys : List (Step N)) → all_drawn (xs ++ ys) ≡ all_drawn xs ++ all_drawn ys
  all_drawn-append [] ys = refl
  all_drawn-append (x ∷ xs) ys = ap (λ (l : List ℕ). drawn_in x ++ l) (all_drawn-append xs ys) ∙ sym (append_assoc (drawn_in x) (all_drawn xs) (all_drawn ys))

  pub all_notes-append : (k : ℕ) (xs ys : List (Step N)) → all_notes k (xs ++ ys) ≡ all_notes k xs ++ all_notes k ys
  all_notes-append k [] ys = refl
  all_notes-append k (x ∷ xs) ys = ap (λ (l : List N). notes_in k x ++ l) (all_notes-append k xs ys) ∙ sym (append_assoc (notes_in k x) (all_notes k xs) (all_notes k ys))

  pub drawn_of_turn : (xs : List (Step N)) (t : Turned N) → IsIn (Took t) xs → (x : ℕ) → Among x t.drawn → Among x (all_drawn xs)
  drawn_of_turn [] t h x a = absurd h
  drawn_of_turn (y ∷ xs) t (inl p) x a = among_left x (drawn_in y) (all_drawn xs) (subst (λ (z : Step N). Among x (drawn_in z)) p a)
  drawn_of_turn (y ∷ xs) t (inr h) x a = among_right x (drawn_in y) (all_drawn xs) (drawn_of_turn xs t h x a)

  -- a note of the steps is of a turn
  pub record OfTurn (k : ℕ) (xs : List (Step N)) (note : N) : Type 0 where
    pub turn : Turned N
    pub taken : IsIn (Took turn) xs
    pub slot : turn.slot ≡ k
    pub noted : IsIn note turn.notes

  noted_here : (k : ℕ) (t : Turned N) (note : N) (b : Bool) → t.slot == k ≡ b → IsIn note (cond b t.notes []) → (t.slot ≡ k) × IsIn note t.notes
  noted_here k t note true is h = (eqb-true t.slot k is, h)
  noted_here k t note false is h = absurd h

  of_step : (k : ℕ) (x : Step N) (xs : List (Step N)) (note : N) → IsIn note (notes_in k x) → OfTurn k (x ∷ xs) note
  of_step k (Draw n) xs note h = absurd h
  of_step k (Lift n) xs note h = absurd h
  of_step k (Took t) xs note h = let r = noted_here k t note (t.slot == k) refl h in record { turn = t; taken = inl refl; slot = r.0; noted = r.1 }

  of_turn_more : (k : ℕ) (x : Step N) (xs : List (Step N)) (note : N) → OfTurn k xs note → OfTurn k (x ∷ xs) note
  of_turn_more k x xs note o = record { turn = o.turn; taken = inr o.taken; slot = o.slot; noted = o.noted }

  pub of_turn : (k : ℕ) (xs : List (Step N)) (note : N) → IsIn note (all_notes k xs) → OfTurn k xs note
  of_turn k [] note h = absurd h
  of_turn k (x ∷ xs) note h = ⊎_elim (λ l. of_step k x xs note l) (λ r. of_turn_more k x xs note (of_turn k xs note r)) (in_cases note (notes_in k x) (all_notes k xs) h)

-- a turn as some seat took it: what it drew is above all that it found
pub record WasTaken {N : Type 0} (time : N → Option ℕ) (slots : ℕ) (t : Turned N) : Type 0 where
  pub slot : t.slot < slots
  pub above : (x y : ℕ) → Among x t.drawn → Among y (times time t.before) → y < x

module _ {N B : Type 0} (number : N → ℕ) (time : N → Option ℕ) where
  after_long : (s : SeatView N B) (x : Step N) → length (after s x).seen ≡ length s.seen
  after_long s (Draw x) = refl
  after_long s (Lift x) = refl
  after_long s (Took t) = length-set s.seen t.slot (t.before ++ t.notes)

  was_taken : (s : SeatView N B) (t : Turned N) → IsTurn number time s t → WasTaken time (length s.seen) t
  was_taken s t i = record {
    slot = i.slot;
    above = λ x y a h. (i.above x a).seen t.slot y (subst (λ (l : List N). Among y (times time l)) (sym (get_or-set_same s.seen t.slot t.before [] i.slot)) h);
  }

  pub turn_in : (s : SeatView N B) (xs : List (Step N)) (e : SeatView N B) → Walks number time s xs e → (t : Turned N) → IsIn (Took t) xs → WasTaken time (length s.seen) t
  turn_in s [] e w t h = absurd h
  turn_in s (x ∷ xs) e w t (inl p) = was_taken s t (subst (IsStep number time s) (sym p) w.0)
  turn_in s (x ∷ xs) e w t (inr h) = subst (λ (n : ℕ). WasTaken time n t) (after_long s x) (turn_in (after s x) xs e w.1 t h)
