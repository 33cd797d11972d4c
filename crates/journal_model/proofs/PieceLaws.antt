-- The rows of segments: which there are, how often, and in rising order.
use Rattle.std.proofs.Common.{◌≡◌, ℕ, ◌+◌, ◌<◌, ◌≤◌, Bool, true, false, cond, not, List, [], ◌∷◌, ◌++◌, refl, sym, ap, ◌∙◌, inl, inr, ◌⊎◌, ⊎_elim, arith, append_assoc, eq-eqb, leb-true, leb-false}
use Rattle.std.specs.Prelude.{nat_eq, nat_le, nat_lt}
use Rattle.std.specs.List.{filter, AllByRecursion, count_by}
use Rattle.std.proofs.lemmas.Bool.{cases_lt}
use Rattle.journal_model.specs.declared.notes.Home.{Home}
use Rattle.log_model.specs.Places.{Placed}
use Rattle.journal_model.specs.Layouts.{Segment, with_homes, rehome, rows_in, put_in, by_position, with_segment}
use Rattle.journal_model.specs.Lists.{IsIn}
use Rattle.journal_model.specs.Runs.{AreApart, Rise}
use Rattle.journal_model.proofs.ListLaws.{in_left, in_right, in_cases, all_in, all_from, count-append, count-cons, count_some}

-- ---- rows of segments

pub rows_in-append : (xs ys : List Segment) → rows_in (xs ++ ys) ≡ rows_in xs ++ rows_in ys
rows_in-append [] ys = refl
rows_in-append (s ∷ xs) ys = ap (λ l. s.piece ++ l) (rows_in-append xs ys) ∙ sym (append_assoc s.piece (rows_in xs) (rows_in ys))

pub rows_in-rehome : (number : ℕ) (change : List Home → List Home) (segments : List Segment) → rows_in (rehome number change segments) ≡ rows_in segments
rows_in-rehome number change [] = refl
rows_in-rehome number change (s ∷ segments) = elim (nat_eq s.number number) as (λ b. rows_in (cond b (with_homes change s ∷ segments) (s ∷ rehome number change segments)) ≡ s.piece ++ rows_in segments) [
  | true ↦ refl
  | false ↦ ap (λ l. s.piece ++ l) (rows_in-rehome number change segments)
]

-- a row of segments that are left out or kept
pub rows_in-some : (p : Segment → Bool) (x : Placed) (segments : List Segment) → IsIn x (rows_in (filter p segments)) → IsIn x (rows_in segments)
rows_in-some p x [] h = absurd h
rows_in-some p x (s ∷ segments) h = elim (p s) as (λ b. IsIn x (rows_in (cond b (s ∷ filter p segments) (filter p segments))) → IsIn x (s.piece ++ rows_in segments)) [
  | true ↦ λ g. ⊎_elim (λ l. in_left x s.piece (rows_in segments) l) (λ r. in_right x s.piece (rows_in segments) (rows_in-some p x segments r)) (in_cases x s.piece (rows_in (filter p segments)) g)
  | false ↦ λ g. in_right x s.piece (rows_in segments) (rows_in-some p x segments g)
] h

pub rows_in-either : (p : Segment → Bool) (x : Placed) (segments : List Segment) → IsIn x (rows_in segments) → IsIn x (rows_in (filter p segments)) ⊎ IsIn x (rows_in (filter (λ s. not (p s)) segments))
rows_in-either p x [] h = absurd h
rows_in-either p x (s ∷ segments) h = elim (p s) as (λ b. IsIn x (rows_in (cond b (s ∷ filter p segments) (filter p segments))) ⊎ IsIn x (rows_in (cond (not b) (s ∷ filter (λ z. not (p z)) segments) (filter (λ z. not (p z)) segments)))) [
  | true ↦ ⊎_elim
      (λ l. inl (in_left x s.piece (rows_in (filter p segments)) l))
      (λ r. ⊎_elim (λ a. inl (in_right x s.piece (rows_in (filter p segments)) a)) (λ b. inr b) (rows_in-either p x segments r))
      (in_cases x s.piece (rows_in segments) h)
  | false ↦ ⊎_elim
      (λ l. inr (in_left x s.piece (rows_in (filter (λ z. not (p z)) segments)) l))
      (λ r. ⊎_elim (λ a. inl a) (λ b. inr (in_right x s.piece (rows_in (filter (λ z. not (p z)) segments)) b)) (rows_in-either p x segments r))
      (in_cases x s.piece (rows_in segments) h)
]

pub count-either : (q : Placed → Bool) (p : Segment → Bool) (segments : List Segment) → count_by q (rows_in (filter p segments)) + count_by q (rows_in (filter (λ s. not (p s)) segments)) ≡ count_by q (rows_in segments)
count-either q p [] = refl
count-either q p (s ∷ segments) =
    let rest : count_by q (rows_in (filter p segments)) + count_by q (rows_in (filter (λ z. not (p z)) segments)) ≡ count_by q (rows_in segments) = count-either q p segments in
    let all : count_by q (s.piece ++ rows_in segments) ≡ count_by q s.piece + count_by q (rows_in segments) = count-append q s.piece (rows_in segments) in
    elim (p s) as (λ b. count_by q (rows_in (cond b (s ∷ filter p segments) (filter p segments))) + count_by q (rows_in (cond (not b) (s ∷ filter (λ z. not (p z)) segments) (filter (λ z. not (p z)) segments))) ≡ count_by q (s.piece ++ rows_in segments)) [
      | true ↦ let one : count_by q (s.piece ++ rows_in (filter p segments)) ≡ count_by q s.piece + count_by q (rows_in (filter p segments)) = count-append q s.piece (rows_in (filter p segments)) in omega arith
      | false ↦ let one : count_by q (s.piece ++ rows_in (filter (λ z. not (p z)) segments)) ≡ count_by q s.piece + count_by q (rows_in (filter (λ z. not (p z)) segments)) = count-append q s.piece (rows_in (filter (λ z. not (p z)) segments)) in omega arith
    ]

-- ---- a segment at its place

pub with_segment_in : (x : Placed) (s : Segment) (others : List Segment) → IsIn x (rows_in (with_segment s others)) → IsIn x s.piece ⊎ IsIn x (rows_in others)
with_segment_in x s [] h = in_cases x s.piece [] h
with_segment_in x s (other ∷ others) h = elim (nat_lt s.number other.number) as (λ b. IsIn x (rows_in (cond b (s ∷ other ∷ others) (other ∷ with_segment s others))) → IsIn x s.piece ⊎ IsIn x (other.piece ++ rows_in others)) [
  | true ↦ λ g. in_cases x s.piece (other.piece ++ rows_in others) g
  | false ↦ λ g. ⊎_elim
      (λ l. inr (in_left x other.piece (rows_in others) l))
      (λ r. ⊎_elim (λ a. inl a) (λ b. inr (in_right x other.piece (rows_in others) b)) (with_segment_in x s others r))
      (in_cases x other.piece (rows_in (with_segment s others)) g)
] h

pub in_with_segment : (x : Placed) (s : Segment) (others : List Segment) → IsIn x s.piece ⊎ IsIn x (rows_in others) → IsIn x (rows_in (with_segment s others))
in_with_segment x s [] h = ⊎_elim (λ l. in_left x s.piece [] l) (λ r. absurd r) h
in_with_segment x s (other ∷ others) h = elim (nat_lt s.number other.number) as (λ b. IsIn x (rows_in (cond b (s ∷ other ∷ others) (other ∷ with_segment s others)))) [
  | true ↦ ⊎_elim (λ l. in_left x s.piece (other.piece ++ rows_in others) l) (λ r. in_right x s.piece (other.piece ++ rows_in others) r) h
  | false ↦ ⊎_elim
      (λ l. in_right x other.piece (rows_in (with_segment s others)) (in_with_segment x s others (inl l)))
      (λ r. ⊎_elim
      (λ a. in_left x other.piece (rows_in (with_segment s others)) a)
      (λ b. in_right x other.piece (rows_in (with_segment s others)) (in_with_segment x s others (inr b)))
      (in_cases x other.piece (rows_in others) r))
      h
]

pub count-with_segment : (q : Placed → Bool) (s : Segment) (others : List Segment) → count_by q (rows_in (with_segment s others)) ≡ count_by q s.piece + count_by q (rows_in others)
count-with_segment q s [] = count-append q s.piece []
count-with_segment q s (other ∷ others) =
    let rest : count_by q (rows_in (with_segment s others)) ≡ count_by q s.piece + count_by q (rows_in others) = count-with_segment q s others in
    let all : count_by q (other.piece ++ rows_in others) ≡ count_by q other.piece + count_by q (rows_in others) = count-append q other.piece (rows_in others) in
    elim (nat_lt s.number other.number) as (λ b. count_by q (rows_in (cond b (s ∷ other ∷ others) (other ∷ with_segment s others))) ≡ count_by q s.piece + count_by q (other.piece ++ rows_in others)) [
      | true ↦ count-append q s.piece (other.piece ++ rows_in others)
      | false ↦ let one : count_by q (other.piece ++ rows_in (with_segment s others)) ≡ count_by q other.piece + count_by q (rows_in (with_segment s others)) = count-append q other.piece (rows_in (with_segment s others)) in omega arith
    ]

pub each_with_segment : (P : Segment → Type 0) (s : Segment) (others : List Segment) → P s → AllByRecursion P others → AllByRecursion P (with_segment s others)
each_with_segment P s [] h a = (h, tt)
each_with_segment P s (other ∷ others) h a = elim (nat_lt s.number other.number) as (λ b. AllByRecursion P (cond b (s ∷ other ∷ others) (other ∷ with_segment s others))) [
  | true ↦ (h, a)
  | false ↦ (a.0, each_with_segment P s others h a.1)
]

pub each_filter : {X : Type 0} (P : X → Type 0) (p : X → Bool) (xs : List X) → AllByRecursion P xs → AllByRecursion P (filter p xs)
each_filter P p [] a = tt
each_filter P p (x ∷ xs) a = elim (p x) as (λ b. AllByRecursion P (cond b (x ∷ filter p xs) (filter p xs))) [
  | true ↦ (a.0, each_filter P p xs a.1)
  | false ↦ each_filter P p xs a.1
]

-- ---- rows by position

pub put_in_cases : (z x : Placed) (xs : List Placed) → IsIn z (put_in x xs) → (z ≡ x) ⊎ IsIn z xs
put_in_cases z x [] h = h
put_in_cases z x (y ∷ ys) h = elim (nat_le x.position y.position) as (λ b. IsIn z (cond b (x ∷ y ∷ ys) (y ∷ put_in x ys)) → (z ≡ x) ⊎ ((z ≡ y) ⊎ IsIn z ys)) [
  | true ↦ λ g. g
  | false ↦ λ g. ⊎_elim (λ e. inr (inl e)) (λ r. ⊎_elim (λ e. inl e) (λ i. inr (inr i)) (put_in_cases z x ys r)) g
] h

pub in_put_in : (z x : Placed) (xs : List Placed) → (z ≡ x) ⊎ IsIn z xs → IsIn z (put_in x xs)
in_put_in z x [] h = h
in_put_in z x (y ∷ ys) h = elim (nat_le x.position y.position) as (λ b. IsIn z (cond b (x ∷ y ∷ ys) (y ∷ put_in x ys))) [
  | true ↦ h
  | false ↦ ⊎_elim (λ e. inr (in_put_in z x ys (inl e))) (λ r. ⊎_elim (λ e. inl e) (λ i. inr (in_put_in z x ys (inr i))) r) h
]

pub by_position_in : (z : Placed) (xs : List Placed) → IsIn z (by_position xs) → IsIn z xs
by_position_in z [] h = h
by_position_in z (x ∷ xs) h = ⊎_elim (λ e. inl e) (λ r. inr (by_position_in z xs r)) (put_in_cases z x (by_position xs) h)

pub in_by_position : (z : Placed) (xs : List Placed) → IsIn z xs → IsIn z (by_position xs)
in_by_position z [] h = h
in_by_position z (x ∷ xs) h = in_put_in z x (by_position xs) (⊎_elim (λ e. inl e) (λ r. inr (in_by_position z xs r)) h)

count-put_in : (q : Placed → Bool) (x : Placed) (xs : List Placed) → count_by q (put_in x xs) ≡ cond (q x) 1 0 + count_by q xs
count-put_in q x [] = count-cons q x []
count-put_in q x (y ∷ ys) =
    let rest : count_by q (put_in x ys) ≡ cond (q x) 1 0 + count_by q ys = count-put_in q x ys in
    let all : count_by q (y ∷ ys) ≡ cond (q y) 1 0 + count_by q ys = count-cons q y ys in
    elim (nat_le x.position y.position) as (λ b. count_by q (cond b (x ∷ y ∷ ys) (y ∷ put_in x ys)) ≡ cond (q x) 1 0 + count_by q (y ∷ ys)) [
      | true ↦ count-cons q x (y ∷ ys)
      | false ↦ let one : count_by q (y ∷ put_in x ys) ≡ cond (q y) 1 0 + count_by q (put_in x ys) = count-cons q y (put_in x ys) in omega arith
    ]

pub count-by_position : (q : Placed → Bool) (xs : List Placed) → count_by q (by_position xs) ≡ count_by q xs
count-by_position q [] = refl
count-by_position q (x ∷ xs) = count-put_in q x (by_position xs) ∙ ap (λ n. cond (q x) 1 0 + n) (count-by_position q xs) ∙ sym (count-cons q x xs)

put_in_rises : (x : Placed) (xs : List Placed) → Rise xs → ((y : Placed) → IsIn y xs → x.position ≡ y.position → ⊥) → Rise (put_in x xs)
put_in_rises x [] r other = (tt, tt)
put_in_rises x (y ∷ ys) r other = elim (nat_le x.position y.position) as (λ b. nat_le x.position y.position ≡ b → Rise (cond b (x ∷ y ∷ ys) (y ∷ put_in x ys))) [
  | true ↦ λ e.
      let le : x.position ≤ y.position = leb-true x.position y.position e in
      let ne = other y (inl refl) in
      let lt : x.position < y.position = ⊎_elim (λ l. l) (λ g. absurd (ne (omega arith))) (cases_lt x.position y.position) in
      ((lt, all_from (λ z. x.position < z.position) ys (λ z i. let more : y.position < z.position = all_in (λ w. y.position < w.position) ys z r.0 i in omega arith)), r)
  | false ↦ λ e.
      let gt : y.position < x.position = leb-false x.position y.position e in (
        all_from (λ z. y.position < z.position) (put_in x ys) (λ z i. ⊎_elim (λ is. let at : z.position ≡ x.position = ap (λ w. w.position) is in omega arith) (λ old. all_in (λ w. y.position < w.position) ys z r.0 old) (put_in_cases z x ys i)),
        put_in_rises x ys r.1 (λ z i. other z (inr i)),
      )
] refl

pub by_position_rises : (xs : List Placed) → AreApart xs → Rise (by_position xs)
by_position_rises [] apart = tt
by_position_rises (x ∷ xs) apart = put_in_rises x (by_position xs)
    (by_position_rises xs (λ p.
    let all : count_by (λ z. nat_eq z.position p) (x ∷ xs) ≡ cond (nat_eq x.position p) 1 0 + count_by (λ z. nat_eq z.position p) xs = count-cons (λ z. nat_eq z.position p) x xs in
    let one = apart p in omega arith))
    (λ y i same.
    let all : count_by (λ z. nat_eq z.position x.position) (x ∷ xs) ≡ cond (nat_eq x.position x.position) 1 0 + count_by (λ z. nat_eq z.position x.position) xs = count-cons (λ z. nat_eq z.position x.position) x xs in
    let first : cond (nat_eq x.position x.position) 1 0 ≡ 1 = ap (λ (b : Bool). cond {A = ℕ} b 1 0) (eq-eqb x.position x.position refl) in
    let more : 1 ≤ count_by (λ z. nat_eq z.position x.position) xs = count_some (λ z. nat_eq z.position x.position) xs y (by_position_in y xs i) (eq-eqb y.position x.position (sym same)) in
    let one = apart x.position in
    absurd (omega arith))

pub rise_push : (xs : List Placed) (x : Placed) → Rise xs → ((y : Placed) → IsIn y xs → y.position < x.position) → Rise (xs ++ x ∷ [])
rise_push [] x r low = (tt, tt)
rise_push (y ∷ ys) x r low = (all_from (λ z. y.position < z.position) (ys ++ x ∷ []) (λ z i. ⊎_elim (λ old. all_in (λ w. y.position < w.position) ys z r.0 old) (λ new. ⊎_elim (λ e. let at : z.position ≡ x.position = ap (λ w. w.position) e in let lt = low y (inl refl) in omega arith) (λ no. absurd no) new) (in_cases z ys (x ∷ []) i)), rise_push ys x r.1 (λ z i. low z (inr i)))
