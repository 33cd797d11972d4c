-- What follows from the steps of a seat.
use Rattle.std.proofs.Common.{◌≡◌, ℕ, zero, suc, ◌+◌, ◌<◌, ◌≤◌, ◌≢◌, Bool, cond, List, [], ◌∷◌, ◌++◌, length, set, All, Option, refl, ap, sym, ◌∙◌, subst, ⊎_elim, arith, append_assoc, append-nil, length-append, eq-eqb, ne_eqb}
use Rattle.std.proofs.lemmas.Bool.{cases_lt}
use Rattle.std.proofs.lemmas.List.{length-set, get_or-set_same, get_or-set_other}
use Rattle.std.proofs.lemmas.List.Elements.{All-tail, All-head}
use mathlib.Core.Option.{some-injective, some-ne-none}
use Rattle.turn_facts.specs.Counts.{count, Among}
use Rattle.turn_facts.specs.Notes.{of, times, IsOwn}
use Rattle.turn_facts.specs.Prefixes.{StartsWith, IsAt}
use Rattle.turn_facts.proofs.Counts.{count-nil, count-here, count-else, count-append}
use Rattle.turn_facts.proofs.Notes.{of-append, times_starts}
use Rattle.turn_facts.proofs.Places.{same_or}
use Rattle.turn_facts.proofs.Prefixes.{starts_all, starts_longer, starts_trans}
use Rattle.turn_table.specs.Knowledge.{at_slot}
use Rattle.turn_table.specs.Seats.{SeatView}
use Rattle.seat_walks.specs.Walks.{Turned, Step, Draw, Lift, Took, Rises, found, after, IsAbove, IsTurn, IsStep, Walks, drawn_in, notes_in, all_drawn, all_notes, Walked}

among_left : (y : ℕ) (l m : List ℕ) → Among y l → Among y (l ++ m)
among_left y l m a = let c : count y (l ++ m) ≡ count y l + count y m = count-append y l m in omega arith

one_more : (l : List ℕ) (x : ℕ) → length (l ++ x ∷ []) ≡ length l + 1
one_more l x = length-append l (x ∷ [])

among_right : (y : ℕ) (l m : List ℕ) → Among y m → Among y (l ++ m)
among_right y l m a = let c : count y (l ++ m) ≡ count y l + count y m = count-append y l m in omega arith

pub rises_append : (l m : List ℕ) → Rises l → Rises m → ((x y : ℕ) → Among x l → Among y m → x < y) → Rises (l ++ m)
rises_append [] m r s h = s
rises_append (z ∷ l) m r s h =
    let here : Among z (z ∷ l) = let c : count z (z ∷ l) ≡ 1 + count z l = count-here z l in omega arith in (
      (λ y a. let c : count y (l ++ m) ≡ count y l + count y m = count-append y l m in ⊎_elim (λ (p : 0 < count y l). r.0 y p) (λ (p : count y l ≤ 0). h z y here (omega arith)) (cases_lt 0 (count y l))),
      rises_append l m r.1 s (λ x y a b. h x y (among_right x (z ∷ []) l a) b),
    )

pub only_one : (n x : ℕ) → Among n (x ∷ []) → x ≡ n
only_one n x a = ⊎_elim (λ (p : x ≡ n). p) (λ (p : x ≢ n). let c : count n (x ∷ []) ≡ count n [] = count-else n x [] p in let z : count n [] ≡ 0 = count-nil n in absurd (omega arith)) (same_or x n)

no_turn : {N : Type 0} (front back : List (Step N)) (t : Turned N) → [] ≡ front ++ Took t ∷ back → ⊥
no_turn front back t q = let c : 0 ≡ length front + suc (length back) = ap length q ∙ length-append front (Took t ∷ back) in omega arith

module _ {N : Type 0} (number : N → ℕ) (time : N → Option ℕ) where
  -- all notes of a list that are of one seat are its notes
  of_own : (n : ℕ) (drawn : List ℕ) (l : List N) → All (IsOwn number time n drawn) l → of number n l ≡ l
  unfolding of
  of_own n drawn [] h = refl
  of_own n drawn (x ∷ l) h =
      let o : IsOwn number time n drawn x = All-head (IsOwn number time n drawn) x l h in
      ap (λ (b : Bool). cond b (x ∷ of number n l) (of number n l)) (eq-eqb (number x) n o.by) ∙ ap (λ (m : List N). x ∷ m) (of_own n drawn l (All-tail (IsOwn number time n drawn) x l h))

module _ {N B : Type 0} (number : N → ℕ) (time : N → Option ℕ) where
  above_mark : (s : SeatView N B) (n x : ℕ) → IsAbove time (record s { mark = n }) x → IsAbove time s x
  above_mark s n x a = record { first = a.first; least = a.least; drawn = a.drawn; seen = a.seen }

  step_mark : (s : SeatView N B) (n : ℕ) (x : Step N) → IsStep number time (record s { mark = n }) x → IsStep number time s x
  step_mark s n (Draw x) i = (i.0, above_mark s n x i.1)
  step_mark s n (Lift x) i = tt
  step_mark s n (Took t) i = record { slot = i.slot; more = i.more; mine = i.mine; own = i.own; enough = i.enough; above = λ x a. above_mark (found s t) n x (i.above x a); rises = i.rises }

  -- how many numbers a seat had drawn when it entered a turn is of no account
  walks_mark : (s : SeatView N B) (n : ℕ) (xs : List (Step N)) (e : SeatView N B) → Walks number time (record s { mark = n }) xs e → Walks number time s xs e
  walks_mark s n [] e w = w
  walks_mark s n (Draw x ∷ xs) e w = (step_mark s n (Draw x) w.0, walks_mark (after s (Draw x)) n xs e w.1)
  walks_mark s n (Lift x ∷ xs) e w = (tt, walks_mark (after s (Lift x)) n xs e w.1)
  walks_mark s n (Took t ∷ xs) e w = (step_mark s n (Took t) w.0, walks_mark (after s (Took t)) n xs e w.1)

  pub walks_append : (s m e : SeatView N B) (xs ys : List (Step N)) → Walks number time s xs m → Walks number time m ys e → Walks number time s (xs ++ ys) e
  walks_append s m e [] ys w v = walks_mark s m.mark ys e (subst (λ (z : SeatView N B). Walks number time z ys e) w v)
  walks_append s m e (x ∷ xs) ys w v = (w.0, walks_append (after s x) m e xs ys w.1 v)

  pub walks_cut : (s e : SeatView N B) (xs ys : List (Step N)) → Walks number time s (xs ++ ys) e → (m : SeatView N B) × Walks number time s xs m × Walks number time m ys e
  walks_cut s e [] ys w = (s, refl, w)
  walks_cut s e (x ∷ xs) ys w = let r = walks_cut (after s x) e xs ys w.1 in (r.0, (w.0, r.1), r.2)

  pub walks_same : (s e : SeatView N B) → e ≡ s → Walks number time s [] e
  walks_same s e p = subst (λ (u : SeatView N B). u ≡ record s { mark = u.mark }) (sym p) refl

  -- what a number that is above a later seat is above
  pub above_before : (s e : SeatView N B) (x : ℕ) → e.table ≡ s.table → s.least ≤ e.least → ((y : ℕ) → Among y s.drawn → Among y e.drawn) → ((k : ℕ) → StartsWith (at_slot e.seen k) (at_slot s.seen k)) → IsAbove time e x → IsAbove time s x
  above_before s e x t l d m a = record {
    first = let p : e.table.first ≤ x = a.first in let q : e.table.first ≡ s.table.first = ap (λ b. b.first) t in omega arith;
    least = let p : e.least ≤ x = a.least in omega arith;
    drawn = λ y h. a.drawn y (d y h);
    seen = λ k y h. a.seen k y (times_starts number time y (m k) h);
  }

  -- one step
  record OneStep (s : SeatView N B) (x : Step N) (e : SeatView N B) : Type 0 where
    drawn : e.drawn ≡ s.drawn ++ drawn_in x
    own : (k : ℕ) → of number s.number (at_slot e.seen k) ≡ of number s.number (at_slot s.seen k) ++ notes_in k x
    more : (k : ℕ) → StartsWith (at_slot e.seen k) (at_slot s.seen k)
    turn : (t : Turned N) → x ≡ Took t → StartsWith (at_slot e.seen t.slot) (t.before ++ t.notes)
    rises : Rises (drawn_in x)
    above : (n : ℕ) → Among n (drawn_in x) → IsAbove time s n
    least : s.least ≤ e.least
    allowance : e.allowance + length e.drawn ≡ s.allowance + length s.drawn
    long : length e.seen ≡ length s.seen

  turn_step : (s : SeatView N B) (t : Turned N) → IsTurn number time s t → OneStep s (Took t) (after s (Took t))
  turn_step s t i =
      let seen : List (List N) = set s.seen t.slot (t.before ++ t.notes) in
      let here : at_slot seen t.slot ≡ t.before ++ t.notes = get_or-set_same s.seen t.slot (t.before ++ t.notes) [] i.slot in
      let else : (k : ℕ) → k ≢ t.slot → at_slot seen k ≡ at_slot s.seen k = λ k n. get_or-set_other s.seen t.slot k (t.before ++ t.notes) [] n in
      let is_here : (k : ℕ) → k ≡ t.slot → notes_in k (Took t) ≡ t.notes = λ k p. ap (λ (b : Bool). cond b t.notes []) (eq-eqb t.slot k (sym p)) in
      let is_else : (k : ℕ) → k ≢ t.slot → notes_in k (Took t) ≡ [] = λ k p. ap (λ (b : Bool). cond b t.notes []) (ne_eqb t.slot k (λ q. p (sym q))) in
      let before_more : (k : ℕ) → StartsWith (at_slot (found s t).seen k) (at_slot s.seen k) = λ k.
      ⊎_elim (λ (p : k ≡ t.slot). let P : ℕ → Type 0 = λ j. StartsWith (at_slot (found s t).seen j) (at_slot s.seen j) in subst P (sym p) (let Q : List N → Type 0 = λ l. StartsWith l (at_slot s.seen t.slot) in subst Q (sym (get_or-set_same s.seen t.slot t.before [] i.slot)) i.more))
      (λ (p : k ≢ t.slot). let Q : List N → Type 0 = λ l. StartsWith l (at_slot s.seen k) in subst Q (sym (get_or-set_other s.seen t.slot k t.before [] p)) (starts_all (at_slot s.seen k))) (same_or k t.slot) in
      record {
        drawn = refl;
        own = λ k. ⊎_elim (λ (p : k ≡ t.slot).
            let P : ℕ → Type 0 = λ j. of number s.number (at_slot seen j) ≡ of number s.number (at_slot s.seen j) ++ t.notes in
            subst P (sym p) (ap (of number s.number) here ∙ of-append number s.number t.before t.notes ∙ ap (λ (l : List N). l ++ of number s.number t.notes) i.mine ∙ ap (λ (l : List N). of number s.number (at_slot s.seen t.slot) ++ l) (of_own number time s.number (s.drawn ++ t.drawn) t.notes i.own)) ∙ ap (λ (l : List N). of number s.number (at_slot s.seen k) ++ l) (sym (is_here k p)))
            (λ (p : k ≢ t.slot). ap (of number s.number) (else k p) ∙ sym (append-nil (of number s.number (at_slot s.seen k))) ∙ ap (λ (l : List N). of number s.number (at_slot s.seen k) ++ l) (sym (is_else k p))) (same_or k t.slot);
        more = λ k. ⊎_elim (λ (p : k ≡ t.slot). let P : ℕ → Type 0 = λ j. StartsWith (at_slot seen j) (at_slot s.seen j) in subst P (sym p) (let Q : List N → Type 0 = λ l. StartsWith l (at_slot s.seen t.slot) in subst Q (sym here) (starts_trans (starts_longer t.before t.notes) i.more)))
            (λ (p : k ≢ t.slot). let Q : List N → Type 0 = λ l. StartsWith l (at_slot s.seen k) in subst Q (sym (else k p)) (starts_all (at_slot s.seen k))) (same_or k t.slot);
        turn = λ u e. let q : t ≡ u = cc in let P : Turned N → Type 0 = λ v. StartsWith (at_slot seen v.slot) (v.before ++ v.notes) in subst P q (let Q : List N → Type 0 = λ l. StartsWith l (t.before ++ t.notes) in subst Q (sym here) (starts_all (t.before ++ t.notes)));
        rises = i.rises;
        above = λ n a. above_before s (found s t) n refl (omega arith) (λ y h. h) before_more (i.above n a);
        least = omega arith;
        allowance = let l : length (s.drawn ++ t.drawn) ≡ length s.drawn + length t.drawn = length-append s.drawn t.drawn in let e : length t.drawn ≤ s.allowance = i.enough in omega arith;
        long = length-set s.seen t.slot (t.before ++ t.notes);
      }

  one_step : (s : SeatView N B) (x : Step N) → IsStep number time s x → OneStep s x (after s x)
  one_step s (Draw x) i = record {
    drawn = refl;
    own = λ k. sym (append-nil (of number s.number (at_slot s.seen k)));
    more = λ k. starts_all (at_slot s.seen k);
    turn = λ t e. absurd (let z : ⊥ = cc in z);
    rises = ((λ y a. let z : count y [] ≡ 0 = count-nil y in absurd (omega arith)), tt);
    above = λ n a. subst (IsAbove time s) (only_one n x a) i.1;
    least = omega arith;
    allowance = let l : length (s.drawn ++ x ∷ []) ≡ length s.drawn + 1 = one_more s.drawn x in let e : 1 ≤ s.allowance = i.0 in omega arith;
    long = refl;
  }
  one_step s (Lift x) i = record {
    drawn = sym (append-nil s.drawn);
    own = λ k. sym (append-nil (of number s.number (at_slot s.seen k)));
    more = λ k. starts_all (at_slot s.seen k);
    turn = λ t e. absurd (let z : ⊥ = cc in z);
    rises = tt;
    above = λ n a. let z : count n [] ≡ 0 = count-nil n in absurd (omega arith);
    least = omega arith;
    allowance = refl;
    long = refl;
  }
  one_step s (Took t) i = turn_step s t i

  same_after : (s : SeatView N B) (x : Step N) → (((after s x).table ≡ s.table) × ((after s x).number ≡ s.number)) × (((after s x).joined ≡ s.joined) × ((after s x).origin ≡ s.origin)) × ((after s x).turns ≡ s.turns)
  same_after s (Draw x) = ((refl, refl), (refl, refl), refl)
  same_after s (Lift x) = ((refl, refl), (refl, refl), refl)
  same_after s (Took t) = ((refl, refl), (refl, refl), refl)

  turn_at : (s : SeatView N B) (x : Step N) (xs : List (Step N)) (e : SeatView N B) → OneStep s x (after s x) → Walked number time (after s x) xs e → (i : ℕ) (t : Turned N) → IsAt (x ∷ xs) i (Took t) → StartsWith (at_slot e.seen t.slot) (t.before ++ t.notes)
  turn_at s x xs e o r zero t a = starts_trans (r.more t.slot) (o.turn t (some-injective x (Took t) a))
  turn_at s x xs e o r (suc i) t a = r.turns i t a

  behind_at : (s : SeatView N B) (x : Step N) (xs : List (Step N)) (e : SeatView N B) → OneStep s x (after s x) → Walked number time (after s x) xs e → IsStep number time s x → (i : ℕ) (t : Turned N) → IsAt (x ∷ xs) i (Took t) → StartsWith t.before (at_slot s.seen t.slot)
  behind_at s (Draw x) xs e o r d zero t a = absurd (let q : Draw x ≡ Took t = some-injective (Draw x) (Took t) a in let z : ⊥ = cc in z)
  behind_at s (Lift x) xs e o r d zero t a = absurd (let q : Lift x ≡ Took t = some-injective (Lift x) (Took t) a in let z : ⊥ = cc in z)
  behind_at s (Took u) xs e o r d zero t a = let q : Took u ≡ Took t = some-injective (Took u) (Took t) a in let q' : u ≡ t = cc in subst (λ (v : Turned N). StartsWith v.before (at_slot s.seen v.slot)) q' d.more
  behind_at s x xs e o r d (suc i) t a = starts_trans (r.behind i t a) (o.more t.slot)

  order_at : (s : SeatView N B) (x : Step N) (xs : List (Step N)) (e : SeatView N B) → OneStep s x (after s x) → Walked number time (after s x) xs e → (front back : List (Step N)) (t : Turned N) (n y : ℕ) → x ∷ xs ≡ front ++ Took t ∷ back
      → Among n (all_drawn back) → Among y (times time (t.before ++ t.notes)) → y < n
  order_at s x xs e o r [] back t n y q a h = let p : x ≡ Took t = cc in let b : xs ≡ back = cc in
      (r.above n (subst (λ (l : List (Step N)). Among n (all_drawn l)) (sym b) a)).seen t.slot y (times_starts number time y (o.turn t p) h)
  order_at s x xs e o r (z ∷ front) back t n y q a h = let b : xs ≡ front ++ Took t ∷ back = cc in r.order front back t n y b a h

  pub walked : (s : SeatView N B) (xs : List (Step N)) (e : SeatView N B) → Walks number time s xs e → Walked number time s xs e
  walked s [] e w =
      subst (Walked number time s []) (sym w) record {
        drawn = sym (append-nil s.drawn);
        own = λ k. sym (append-nil (of number s.number (at_slot s.seen k)));
        more = λ k. starts_all (at_slot s.seen k);
        turns = λ i t a. absurd (some-ne-none (Took t) (sym a));
        behind = λ i t a. absurd (some-ne-none (Took t) (sym a));
        rises = tt;
        order = λ front back t n y q. absurd (no_turn front back t q);
        above = λ n a. let z : count n [] ≡ 0 = count-nil n in absurd (omega arith);
        least = omega arith;
        allowance = refl;
        long = refl;
        table = refl;
        named = refl;
        joined = refl;
        origin = refl;
        still = refl;
      }
  walked s (x ∷ xs) e w =
      let m : SeatView N B = after s x in
      let o : OneStep s x m = one_step s x w.0 in
      let r : Walked number time m xs e = walked m xs e w.1 in
      let same = same_after s x in
      let drawn_left : (y : ℕ) → Among y s.drawn → Among y m.drawn = λ y h. subst (λ (l : List ℕ). Among y l) (sym o.drawn) (among_left y s.drawn (drawn_in x) h) in
      record {
        drawn = r.drawn ∙ ap (λ (l : List ℕ). l ++ all_drawn xs) o.drawn ∙ append_assoc s.drawn (drawn_in x) (all_drawn xs);
        own = λ k. let p : of number s.number (at_slot e.seen k) ≡ of number s.number (at_slot m.seen k) ++ all_notes k xs = subst (λ (n : ℕ). of number n (at_slot e.seen k) ≡ of number n (at_slot m.seen k) ++ all_notes k xs) same.0.1 (r.own k) in
            p ∙ ap (λ (l : List N). l ++ all_notes k xs) (o.own k) ∙ append_assoc (of number s.number (at_slot s.seen k)) (notes_in k x) (all_notes k xs);
        more = λ k. starts_trans (r.more k) (o.more k);
        turns = turn_at s x xs e o r;
        behind = behind_at s x xs e o r w.0;
        rises = rises_append (drawn_in x) (all_drawn xs) o.rises r.rises (λ y z a b. (r.above z b).drawn y (subst (λ (l : List ℕ). Among y l) (sym o.drawn) (among_right y s.drawn (drawn_in x) a)));
        order = order_at s x xs e o r;
        above = λ n a. let c : count n (drawn_in x ++ all_drawn xs) ≡ count n (drawn_in x) + count n (all_drawn xs) = count-append n (drawn_in x) (all_drawn xs) in
            ⊎_elim (λ (h : 0 < count n (drawn_in x)). o.above n (omega arith)) (λ (h : count n (drawn_in x) ≤ 0). above_before s m n same.0.0 o.least drawn_left o.more (r.above n (omega arith))) (cases_lt 0 (count n (drawn_in x)));
        least = let a : s.least ≤ m.least = o.least in let b : m.least ≤ e.least = r.least in omega arith;
        allowance = r.allowance ∙ o.allowance;
        long = r.long ∙ o.long;
        table = r.table ∙ same.0.0;
        named = r.named ∙ same.0.1;
        joined = r.joined ∙ same.1.0;
        origin = r.origin ∙ same.1.1;
        still = r.still ∙ same.2;
      }
