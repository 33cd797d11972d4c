-- A table, from the seats that set out and came back.
use Rattle.std.proofs.Common.{◌≡◌, ℕ, suc, ◌+◌, ◌^◌, ◌<◌, ◌≤◌, ◌≢◌, max, List, [], ◌∷◌, ◌++◌, length, map, refl, ap, sym, ◌∙◌, subst, ⊎_elim, arith, Option}
use Rattle.std.proofs.lemmas.Bool.{cases_lt}
use Rattle.turn_facts.specs.Counts.{count, Among, total}
use Rattle.turn_facts.specs.Notes.{of, times}
use Rattle.turn_facts.specs.Prefixes.{StartsWith, IsAt}
use Rattle.turn_facts.proofs.Counts.{count-nil, count-here, count-else, count-append}
use Rattle.turn_facts.proofs.Places.{same_or, at_below, at_some}
use Rattle.turn_facts.proofs.Prefixes.{starts_trans}
use Rattle.turn_facts.proofs.Strangers.{all_known}
use Rattle.turn_facts.proofs.Totals.{total_least}
use Rattle.turn_table.specs.Knowledge.{at_slot}
use Rattle.turn_table.specs.Rule.{Grew}
use Rattle.turn_table.specs.Seats.{Table, SeatView, part_of, first_seat}
use Rattle.seat_walks.specs.Walks.{Step, Walks, all_drawn, all_notes, Walked}
use Rattle.seat_walks.specs.Gathers.{number_in, numbers_of, share, cost, gain, IsNew, IsBack, Gathered}
use Rattle.seat_walks.specs.Closes.{IsLast, Went, Stands, Closed}
use Rattle.seat_walks.proofs.Walking.{walked}

once_zero : (n : ℕ) → count n (0 ∷ []) ≤ 1
once_zero n =
    let z : count n [] ≡ 0 = count-nil n in
    ⊎_elim (λ (p : 0 ≡ n). let c : count n (0 ∷ []) ≡ 1 + count n [] = subst (λ (i : ℕ). count i (0 ∷ []) ≡ 1 + count i []) p (count-here 0 []) in omega arith) (λ (p : 0 ≢ n). let c : count n (0 ∷ []) ≡ count n [] = count-else n 0 [] p in omega arith) (same_or 0 n)

-- sums whose parts are alike, place by place
total_alike : {A C : Type 0} (f : A → ℕ) (g : C → ℕ) (xs : List A) (ys : List C) → length ys ≡ length xs → ((i : ℕ) (x : A) (y : C) → IsAt xs i x → IsAt ys i y → g y ≡ f x) → total g ys ≡ total f xs
unfolding total
total_alike f g [] [] long h = refl
total_alike f g [] (y ∷ ys) long h = absurd (omega arith)
total_alike f g (x ∷ xs) [] long h = absurd (omega arith)
total_alike f g (x ∷ xs) (y ∷ ys) long h = let e : g y ≡ f x = h 0 x y refl refl in let r : total g ys ≡ total f xs = total_alike f g xs ys (omega arith) (λ i. h (suc i)) in omega arith

module _ {N B : Type 0} where
  -- the numbers alone are at most as many as all numbers of the seats
  fewer : (n : ℕ) (ps : List (SeatView N B)) → count n (map number_in ps) ≤ total (λ (p : SeatView N B). count n (numbers_of p)) ps
  unfolding total
  fewer n [] = let z : count n [] ≡ 0 = count-nil n in omega arith
  fewer n (p ∷ ps) =
      let r : count n (map number_in ps) ≤ total (λ (p : SeatView N B). count n (numbers_of p)) ps = fewer n ps in
      let a : count n (p.number ∷ map number_in ps) ≡ count n (p.number ∷ []) + count n (map number_in ps) = count-append n (p.number ∷ []) (map number_in ps) in
      let b : count n (p.number ∷ p.joined) ≡ count n (p.number ∷ []) + count n p.joined = count-append n (p.number ∷ []) p.joined in
      omega arith

  -- and where no seat was joined to them they are all
  no_fewer : (n : ℕ) (ps : List (SeatView N B)) → ((i : ℕ) (p : SeatView N B) → IsAt ps i p → p.joined ≡ []) → count n (map number_in ps) ≡ total (λ (p : SeatView N B). count n (numbers_of p)) ps
  unfolding total
  no_fewer n [] h = count-nil n
  no_fewer n (p ∷ ps) h =
      let r : count n (map number_in ps) ≡ total (λ (p : SeatView N B). count n (numbers_of p)) ps = no_fewer n ps (λ i. h (suc i)) in
      let a : count n (p.number ∷ map number_in ps) ≡ count n (p.number ∷ []) + count n (map number_in ps) = count-append n (p.number ∷ []) (map number_in ps) in
      let b : count n (p.number ∷ p.joined) ≡ count n (p.number ∷ []) + count n p.joined = count-append n (p.number ∷ []) p.joined in
      let c : count n p.joined ≡ count n [] = ap (count n) (h 0 p refl) in let z : count n [] ≡ 0 = count-nil n in
      omega arith

module _ {N B : Type 0} (number : N → ℕ) (time : N → Option ℕ) (t : Table B) (old : List (List N)) (s : SeatView N B) (starts ends : List (SeatView N B)) (w : Went number time t old s starts ends) where
  abbrev first : SeatView N B
  first = record (first_seat t old) { least = w.least }

  -- how each seat that came back began
  start_of : (i : ℕ) (p : SeatView N B) → IsAt ends i p → (a : SeatView N B) × IsAt starts i a × IsNew first a × ((xs : List (Step N)) × Walked number time a xs p)
  start_of i p at =
      let many : length ends ≡ length starts = w.many in
      let a = at_some starts i (let h : i < length ends = at_below ends i p at in omega arith) in
      let d = w.walks i a.0 p a.1 at in
      (a.0, a.1, w.out.each i a.0 a.1, (d.0, walked number time a.0 d.0 p d.1))

  pub back : (i : ℕ) (p : SeatView N B) → IsAt ends i p → IsBack t (length old) p
  back i p at =
      let r = start_of i p at in
      record {
        table = r.3.1.table ∙ ap (λ (u : SeatView N B). u.table) r.2;
        turns = r.3.1.still ∙ ap (λ (u : SeatView N B). u.turns) r.2;
        long = r.3.1.long ∙ ap (λ (u : SeatView N B). length u.seen) r.2;
      }

  share_at : (i : ℕ) (a p : SeatView N B) → IsAt starts i a → IsAt ends i p → gain p ≡ cost a
  share_at i a p at_a at_p =
      let d = w.walks i a p at_a at_p in
      let r = walked number time a d.0 p d.1 in
      let new : IsNew first a = w.out.each i a at_a in
      let none : length a.drawn ≡ 0 = ap (λ (u : SeatView N B). length u.drawn) new in
      let joined : length p.joined ≡ 0 = ap length r.joined ∙ ap (λ (u : SeatView N B). length u.joined) new in
      let sum : p.allowance + length p.drawn ≡ a.allowance + length a.drawn = r.allowance in omega arith

  joined_at : (i : ℕ) (p : SeatView N B) → IsAt ends i p → p.joined ≡ []
  joined_at i p at = let r = start_of i p at in r.3.1.joined ∙ ap (λ (u : SeatView N B). u.joined) r.2

  module _ (e : SeatView N B) (g : Gathered number s ends e) where
    -- the condition of `close`
    pub whole : e.allowance + (length e.drawn + length e.joined) ≡ 2 ^ 40
    whole =
        let a : share e ≡ share s + total gain ends = g.share_of in
        let b : total gain ends ≡ total cost starts = total_alike cost gain starts ends w.many share_at in
        let c : s.allowance + total cost starts ≡ 2 ^ 40 = w.out.allowance in
        let f : length s.drawn ≡ 0 = ap (λ (u : SeatView N B). length u.drawn) w.out.seat in
        let h : length s.joined ≡ 0 = ap (λ (u : SeatView N B). length u.joined) w.out.seat in
        omega arith

    module _ (new : List (List N)) (last : ℕ) (l : IsLast number time e new last) where
      stands : (i : ℕ) (a p : SeatView N B) (xs : List (Step N)) → IsAt starts i a → IsAt ends i p → Walks number time a xs p → Stands number time t.first last old new a xs p
      stands i a p xs at_a at_p walk =
          let n : IsNew first a = w.out.each i a at_a in
          let r : Walked number time a xs p = walked number time a xs p walk in
          let grew : Grew number e.seen (part_of p) = g.each i p at_p in
          let named : p.number ≡ a.number = r.named in
          let seen_is : a.seen ≡ old = ap (λ (u : SeatView N B). u.seen) n in
          let none : a.drawn ≡ [] = ap (λ (u : SeatView N B). u.drawn) n in
          let table : a.table ≡ t = ap (λ (u : SeatView N B). u.table) n in
          let front : (k : ℕ) → StartsWith (at_slot new k) (at_slot p.seen k) = λ k. subst (λ (j : List (List N)). StartsWith (at_slot j k) (at_slot p.seen k)) (sym l.journals) (grew.front k) in
          let drawn_is : p.drawn ≡ all_drawn xs = r.drawn ∙ ap (λ (d : List ℕ). d ++ all_drawn xs) none in
          let mine : Among p.number (p.number ∷ p.joined) = let c : count p.number (p.number ∷ p.joined) ≡ 1 + count p.number p.joined = count-here p.number p.joined in omega arith in
          record {
            begins = (seen_is, none, ap (λ (u : Table B). u.first) table, sym named);
            seen = front;
            turns = λ j u at. starts_trans (front u.slot) (r.turns j u at);
            own = λ k. ap (λ (j : List (List N)). of number p.number (at_slot j k)) l.journals ∙ grew.mine k p.number mine
                ∙ subst (λ (m : ℕ × List (List N)). of number m.0 (at_slot p.seen k) ≡ of number m.0 (at_slot m.1 k) ++ all_notes k xs) (λ j. (sym named j, seen_is j)) (r.own k);
            drawn = drawn_is;
            within = λ x h.
                let above = r.above x (subst (λ (d : List ℕ). Among x d) drawn_is h) in
                let f : SeatView N B → ℕ = λ u. count x u.drawn in
                let c : f p ≤ total f ends = total_least f ends i p at_p in
                let all : count x e.drawn ≡ count x s.drawn + total f ends = g.drawn x in
                (subst (λ (u : Table B). u.first ≤ x) table above.first, l.drawn x (omega arith));
          }

      s_seen : s.seen ≡ old
      s_seen = ap (λ (u : SeatView N B). u.seen) w.out.seat

      -- of a number that none of the seats has there is no note but those of the start
      stranger : (k n : ℕ) → count n (map number_in ends) ≡ 0 → of number n (at_slot e.seen k) ≡ of number n (at_slot old k)
      stranger k n z =
          let f : SeatView N B → ℕ = λ u. count n (numbers_of u) in
          let none : total f ends ≡ 0 = sym (no_fewer n ends joined_at) ∙ z in
          let all : count n (numbers_of e) ≡ count n (numbers_of s) + total f ends = g.numbers n in
          let begun : e.origin ≡ old = g.origin ∙ ap (λ (u : SeatView N B). u.origin) w.out.seat in
          ⊎_elim (λ (p : 0 < count n (numbers_of s)). g.own.mine k n p ∙ ap (λ (j : List (List N)). of number n (at_slot j k)) s_seen)
          (λ (p : count n (numbers_of s) ≤ 0). l.whose k n (omega arith) ∙ ap (λ (j : List (List N)). of number n (at_slot j k)) begun) (cases_lt 0 (count n (numbers_of s)))

      pub closed : Closed number time t.first last old new starts ends
      closed =
          let table : e.table ≡ t = g.table ∙ ap (λ (u : SeatView N B). u.table) w.out.seat in
          let grown : (k : ℕ) → StartsWith (at_slot new k) (at_slot old k) = λ k. subst (λ (j : List (List N) × List (List N)). StartsWith (at_slot j.0 k) (at_slot j.1 k)) (λ i. (sym l.journals i, s_seen i)) (g.own.front k) in
          record {
            each = stands;
            long = ap length l.journals ∙ g.long ∙ ap length s_seen;
            grown = grown;
            noted = λ k. all_known number (map number_in ends) (grown k) (λ n z. ap (λ (j : List (List N)). of number n (at_slot j k)) l.journals ∙ stranger k n z);
            differ = λ n. let f : SeatView N B → ℕ = λ u. count n (numbers_of u) in let a : count n (map number_in ends) ≤ total f ends = fewer n ends in
                let all : count n (numbers_of e) ≡ count n (numbers_of s) + total f ends = g.numbers n in
                let one : count n (numbers_of e) ≤ 1 = g.apart (λ j. let c : count j (numbers_of s) ≡ count j (0 ∷ []) = ap (λ (u : SeatView N B). count j (numbers_of u)) w.out.seat in let d : count j (0 ∷ []) ≤ 1 = once_zero j in omega arith) n in omega arith;
            once = λ x. let f : SeatView N B → ℕ = λ u. count x u.drawn in let all : count x e.drawn ≡ count x s.drawn + total f ends = g.drawn x in
                let one : count x e.drawn ≤ 1 = g.once (λ j. let c : count j s.drawn ≡ count j [] = ap (λ (u : SeatView N B). count j u.drawn) w.out.seat in let z : count j [] ≡ 0 = count-nil j in omega arith) x in omega arith;
            later = subst (λ (u : Table B). u.first ≤ last) table l.first;
            times = λ k x a. l.times k x (subst (λ (j : List (List N)). Among x (times time (at_slot j k))) l.journals a);
            most = subst (λ (u : Table B). last ≤ 2 ^ 40 + max u.first (2 ^ 63)) table l.most;
          }
