-- One seat more is split off, or taken in.
use Rattle.std.proofs.Common.{◌≡◌, ℕ, suc, ◌+◌, ◌-◌, ◌≤◌, max, List, [], ◌∷◌, ◌++◌, length, refl, ap, sym, ◌∙◌, subst, ⊎_elim, arith, length-append}
use mathlib.Core.Option.{some-ne-none}
use Rattle.turn_facts.specs.Counts.{count, Among, NoneTwice, total}
use Rattle.turn_facts.specs.Prefixes.{IsAt}
use Rattle.turn_facts.proofs.Counts.{count-append}
use Rattle.turn_facts.proofs.Places.{at_more}
use Rattle.turn_facts.proofs.Prefixes.{starts_all, starts_trans}
use Rattle.turn_facts.proofs.Totals.{total_more, total_least}
use Rattle.turn_table.specs.Knowledge.{at_slot, longer_each}
use Rattle.turn_table.specs.Rule.{Grew}
use Rattle.turn_table.specs.Seats.{Table, SeatView, part_of}
use Rattle.turn_table.proofs.Sharing.{length-longer_each}
use Rattle.seat_walks.specs.Gathers.{IsBack, IsNew, Parted, numbers_of, share, cost, gain, Gathered}

module _ {N B : Type 0} where
  total_none : (f : SeatView N B → ℕ) → total f [] ≡ 0
  unfolding total
  total_none f = refl

  pub parted_none : (s : SeatView N B) → Parted s [] s
  parted_none s = record {
    seat = refl;
    allowance = let z : total (cost {N = N} {B = B}) [] ≡ 0 = total_none cost in omega arith;
    each = λ i p e. absurd (some-ne-none p (sym e));
  }

  -- one seat more, from what `split` tells
  pub parted_more : (s m e p : SeatView N B) (starts : List (SeatView N B)) (n : ℕ) → Parted s starts m → n + 1 ≤ m.allowance → e ≡ record m { allowance = m.allowance - (n + 1) }
      → p ≡ record m { number = p.number; allowance = n; drawn = []; joined = []; turns = []; mark = 0 } → Parted s (starts ++ p ∷ []) e
  parted_more s m e p starts n g room is new =
      let m_is : m ≡ record s { allowance = m.allowance } = g.seat in
      let left : e.allowance ≡ m.allowance - (n + 1) = ap (λ (u : SeatView N B). u.allowance) is in
      let got : p.allowance ≡ n = ap (λ (u : SeatView N B). u.allowance) new in
      record {
        seat = is ∙ ap (λ (u : SeatView N B). record u { allowance = m.allowance - (n + 1) }) m_is ∙ ap (λ (a : ℕ). record s { allowance = a }) (sym left);
        allowance = let a : total cost (starts ++ p ∷ []) ≡ total cost starts + cost p = total_more cost starts p in let b : m.allowance + total cost starts ≡ s.allowance = g.allowance in omega arith;
        each = λ i q at. ⊎_elim (λ (h : IsAt starts i q). g.each i q h)
            (λ (h : (p ≡ q) × (i ≡ length starts)). subst (IsNew s) h.0 (new ∙ ap (λ (u : SeatView N B). record u { number = p.number; allowance = n; drawn = []; joined = []; turns = []; mark = 0 }) m_is
            ∙ ap (λ (a : ℕ). record s { number = p.number; allowance = a; drawn = []; joined = []; turns = []; mark = 0 }) (sym got))) (at_more starts p q i at);
      }

module _ {N B : Type 0} (number : N → ℕ) where
  pub gathered_none : (s : SeatView N B) → Gathered number s [] s
  gathered_none s = record {
    drawn = λ x. let z : total (λ (p : SeatView N B). count x p.drawn) [] ≡ 0 = total_none (λ (p : SeatView N B). count x p.drawn) in omega arith;
    numbers = λ n. let z : total (λ (p : SeatView N B). count n (numbers_of p)) [] ≡ 0 = total_none (λ (p : SeatView N B). count n (numbers_of p)) in omega arith;
    share_of = let z : total (gain {N = N} {B = B}) [] ≡ 0 = total_none gain in omega arith;
    own = record { front = λ k. starts_all (at_slot s.seen k); mine = λ k n a. refl };
    each = λ i p e. absurd (some-ne-none p (sym e));
    once = λ h. h;
    apart = λ h. h;
    table = refl;
    turns = refl;
    named = refl;
    origin = refl;
    long = refl;
  }

  grew_more : (seen later : List (List N)) (m p : SeatView N B) → m.seen ≡ seen → Grew number later (part_of m) → ((n : ℕ) → Among n (numbers_of p) → Among n (numbers_of m)) → Grew number seen (part_of p) → Grew number later (part_of p)
  grew_more seen later m p same g sub h = subst (λ (l : List (List N)). Grew number l (part_of p) → Grew number later (part_of p)) same
      (λ (h' : Grew number m.seen (part_of p)). record {
        front = λ k. starts_trans (g.front k) (h'.front k);
        mine = λ k n a. g.mine k n (sub n a) ∙ h'.mine k n a;
      }) h

  -- one seat more
  pub gathered_more : (t : Table B) (s m e p : SeatView N B) (parts : List (SeatView N B)) → Gathered number s parts m → IsBack t (length s.seen) p
      → e ≡ record m { allowance = m.allowance + p.allowance; drawn = m.drawn ++ p.drawn; joined = m.joined ++ p.number ∷ p.joined; least = max m.least p.least; seen = longer_each m.seen p.seen }
      → NoneTwice e.drawn → NoneTwice (numbers_of e) → Grew number e.seen (part_of m) → Grew number e.seen (part_of p) → Gathered number s (parts ++ p ∷ []) e
  gathered_more t s m e p parts g b is once apart own other =
      let drawn_is : e.drawn ≡ m.drawn ++ p.drawn = ap (λ (u : SeatView N B). u.drawn) is in
      let joined_is : e.joined ≡ m.joined ++ p.number ∷ p.joined = ap (λ (u : SeatView N B). u.joined) is in
      let all_is : e.allowance ≡ m.allowance + p.allowance = ap (λ (u : SeatView N B). u.allowance) is in
      let number_is : e.number ≡ m.number = ap (λ (u : SeatView N B). u.number) is in
      let numbers_is : numbers_of e ≡ (m.number ∷ m.joined) ++ p.number ∷ p.joined = ap (λ (u : SeatView N B). numbers_of u) is in
      let counts : (n : ℕ) → count n (numbers_of e) ≡ count n (numbers_of m) + count n (numbers_of p) = λ n. ap (count n) numbers_is ∙ count-append n (m.number ∷ m.joined) (p.number ∷ p.joined) in
      let sub : (i : ℕ) (q : SeatView N B) → IsAt parts i q → (n : ℕ) → Among n (numbers_of q) → Among n (numbers_of m) = λ i q at n a.
      let f : SeatView N B → ℕ = λ u. count n (numbers_of u) in let c : f q ≤ total f parts = total_least f parts i q at in let d : count n (numbers_of m) ≡ count n (numbers_of s) + total f parts = g.numbers n in omega arith in
      let sub_s : (n : ℕ) → Among n (numbers_of s) → Among n (numbers_of m) = λ n a.
      let f : SeatView N B → ℕ = λ u. count n (numbers_of u) in let d : count n (numbers_of m) ≡ count n (numbers_of s) + total f parts = g.numbers n in omega arith in
      record {
        drawn = λ x. let f : SeatView N B → ℕ = λ u. count x u.drawn in
            let a : total f (parts ++ p ∷ []) ≡ total f parts + f p = total_more f parts p in
            let c : count x e.drawn ≡ count x m.drawn + count x p.drawn = ap (count x) drawn_is ∙ count-append x m.drawn p.drawn in
            let d : count x m.drawn ≡ count x s.drawn + total f parts = g.drawn x in omega arith;
        numbers = λ n. let f : SeatView N B → ℕ = λ u. count n (numbers_of u) in
            let a : total f (parts ++ p ∷ []) ≡ total f parts + f p = total_more f parts p in
            let c : count n (numbers_of e) ≡ count n (numbers_of m) + count n (numbers_of p) = counts n in
            let d : count n (numbers_of m) ≡ count n (numbers_of s) + total f parts = g.numbers n in omega arith;
        share_of = let f : SeatView N B → ℕ = gain in
            let a : total f (parts ++ p ∷ []) ≡ total f parts + f p = total_more f parts p in
            let c : share m ≡ share s + total f parts = g.share_of in
            let d : length e.drawn ≡ length m.drawn + length p.drawn = ap length drawn_is ∙ length-append m.drawn p.drawn in
            let i : length e.joined ≡ length m.joined + suc (length p.joined) = ap length joined_is ∙ length-append m.joined (p.number ∷ p.joined) in omega arith;
        own = grew_more m.seen e.seen m s refl own sub_s g.own;
        each = λ i q at. ⊎_elim (λ (h : IsAt parts i q). grew_more m.seen e.seen m q refl own (sub i q h) (g.each i q h)) (λ (h : (p ≡ q) × (i ≡ length parts)). subst (λ (u : SeatView N B). Grew number e.seen (part_of u)) h.0 other) (at_more parts p q i at);
        once = λ h. once;
        apart = λ h. apart;
        table = ap (λ (u : SeatView N B). u.table) is ∙ g.table;
        turns = ap (λ (u : SeatView N B). u.turns) is ∙ g.turns;
        named = number_is ∙ g.named;
        origin = ap (λ (u : SeatView N B). u.origin) is ∙ g.origin;
        long = ap (λ (u : SeatView N B). length u.seen) is ∙ length-longer_each m.seen p.seen (g.long ∙ sym b.long) ∙ g.long;
      }
