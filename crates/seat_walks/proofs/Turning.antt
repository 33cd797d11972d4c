-- From what the calls of a table tell to the steps of a seat.
use Rattle.std.proofs.Common.{◌≡◌, ℕ, zero, suc, ◌+◌, ◌-◌, ◌<◌, ◌≤◌, max, List, [], ◌∷◌, ◌++◌, length, set, drop, All, Option, Some, refl, ap, sym, ◌∙◌, subst, arith, append-nil}
use Rattle.std.proofs.lemmas.List.{length-set}
use Rattle.std.proofs.lemmas.List.Elements.{All-weaker}
use lib.Seq.{drop-append_seam}
use Rattle.turn_lock.specs.declared.tickets.Ticket.{Ticket}
use Rattle.turn_facts.specs.Counts.{count, Among}
use Rattle.turn_facts.specs.Notes.{of, times, IsOwn, Adds}
use Rattle.turn_facts.specs.Prefixes.{StartsWith}
use Rattle.turn_facts.proofs.Counts.{count-nil, count-here, count-append}
use Rattle.turn_table.specs.Knowledge.{at_slot}
use Rattle.turn_table.specs.Seats.{Table, SeatView, fresh}
use Rattle.seat_walks.specs.Walks.{Turned, Draw, Lift, Took, after, IsAbove, IsTurn, Walks, Puts}
use Rattle.seat_walks.proofs.Walking.{only_one, walks_same}

set_twice : {A : Type 0} (l : List A) (k : ℕ) (a b : A) → set (set l k a) k b ≡ set l k b
set_twice [] k a b = refl
set_twice (x ∷ l) zero a b = refl
set_twice (x ∷ l) (suc k) a b = ap (λ m. x ∷ m) (set_twice l k a b)

module _ {N : Type 0} (number : N → ℕ) (time : N → Option ℕ) where
  -- a note of the seat
  pub own_note : (n : ℕ) (drawn : List ℕ) (x : N) → number x ≡ n → ((t : ℕ) → time x ≡ Some t → Among t drawn) → IsOwn number time n drawn x
  own_note n drawn x by at = record { by = by; at = at }

module _ {N B : Type 0} (number : N → ℕ) (time : N → Option ℕ) where
  -- what a turn may leave
  pub adds_turn : (old new : SeatView N B) (k : ℕ) (before later notes : List N) (numbers : List ℕ) → Puts number time old new before later notes numbers → old.mark ≡ length old.drawn → before ≡ at_slot old.seen k → Adds number time new.number (fresh new) (at_slot new.seen k) later
  adds_turn old new k before later notes numbers p mark start =
      let rest : drop old.mark (old.drawn ++ numbers) ≡ numbers = ap (λ (n : ℕ). drop n (old.drawn ++ numbers)) mark ∙ drop-append_seam old.drawn numbers in
      let adds : Adds number time old.number (drop old.mark (old.drawn ++ numbers)) (at_slot old.seen k) later = record {
        notes = notes;
        is = p.journal ∙ ap (λ (l : List N). l ++ notes) start;
        own = subst (λ (d : List ℕ). All (IsOwn number time old.number d) notes) (sym rest) p.own;
      } in
      subst (λ (s : SeatView N B). Adds number time s.number (fresh s) (at_slot s.seen k) later) (sym p.seat) adds

  put_there : (old put : SeatView N B) (k : ℕ) (journal later notes : List N) (numbers : List ℕ) (tickets : List Ticket) → k < length old.seen → StartsWith journal (at_slot old.seen k) → of number old.number journal ≡ of number old.number (at_slot old.seen k)
      → Puts number time (record old { seen = set old.seen k journal; turns = tickets; mark = length old.drawn }) put journal later notes numbers → IsTurn number time old (record { slot = k; before = journal; notes = notes; drawn = numbers })
  put_there old put k journal later notes numbers tickets slot more mine p = record {
    slot = slot;
    more = more;
    mine = mine;
    own = All-weaker (IsOwn number time old.number numbers) (IsOwn number time old.number (old.drawn ++ numbers)) (λ x o. record { by = o.by; at = λ t q. let c : count t (old.drawn ++ numbers) ≡ count t old.drawn + count t numbers = count-append t old.drawn numbers in let h : Among t numbers = o.at t q in omega arith }) notes p.own;
    enough = p.enough;
    above = λ x a. let b = p.above x a in record { first = b.first; least = b.least; drawn = b.drawn; seen = b.seen };
    rises = p.rises;
  }

  -- a whole turn, from what the calls of the table tell
  pub took : (old inside put new : SeatView N B) (k j : ℕ) (journal later notes : List N) (numbers : List ℕ) (tickets : List Ticket) → j ≡ k → k < length inside.seen → StartsWith journal (at_slot old.seen k)
      → ((n : ℕ) → Among n (old.number ∷ old.joined) → of number n journal ≡ of number n (at_slot old.seen k)) → old.turns ≡ []
      → inside ≡ record old { seen = set old.seen k journal; turns = tickets; mark = length old.drawn } → Puts number time inside put journal later notes numbers → new ≡ record put { seen = set put.seen j later; turns = [] }
      → Walks number time old (Took (record { slot = k; before = journal; notes = notes; drawn = numbers }) ∷ []) new
  took old inside put new k j journal later notes numbers tickets place slot more mine rest enters puts leaves =
      let ins : SeatView N B = record old { seen = set old.seen k journal; turns = tickets; mark = length old.drawn } in
      let p : Puts number time ins put journal later notes numbers = subst (λ (s : SeatView N B). Puts number time s put journal later notes numbers) enters puts in
      let long : length inside.seen ≡ length old.seen = ap (λ (s : SeatView N B). length s.seen) enters ∙ length-set old.seen k journal in
      let own : of number old.number journal ≡ of number old.number (at_slot old.seen k) = let c : count old.number (old.number ∷ old.joined) ≡ 1 + count old.number old.joined = count-here old.number old.joined in mine old.number (omega arith) in
      let seen : set put.seen j later ≡ set old.seen k (journal ++ notes) = ap (λ (n : ℕ). set put.seen n later) place ∙ ap (λ (s : SeatView N B). set s.seen k later) p.seat ∙ set_twice old.seen k journal later ∙ ap (set old.seen k) p.journal in
      let is : new ≡ record old { drawn = old.drawn ++ numbers; allowance = old.allowance - length numbers; seen = set old.seen k (journal ++ notes); turns = []; mark = length old.drawn } =
      leaves ∙ ap (λ (l : List (List N)). record put { seen = l; turns = [] }) seen ∙ ap (λ (s : SeatView N B). record s { seen = set old.seen k (journal ++ notes); turns = [] }) p.seat in
      let t : Turned N = record { slot = k; before = journal; notes = notes; drawn = numbers } in
      let same : record old { drawn = old.drawn ++ numbers; allowance = old.allowance - length numbers; seen = set old.seen k (journal ++ notes); turns = []; mark = length old.drawn } ≡ record (after old (Took t)) { mark = new.mark } =
      ap (λ (l : List Ticket). record old { drawn = old.drawn ++ numbers; allowance = old.allowance - length numbers; seen = set old.seen k (journal ++ notes); turns = l; mark = length old.drawn }) (sym rest) ∙ ap (λ (n : ℕ). record (after old (Took t)) { mark = n }) (sym (ap (λ (u : SeatView N B). u.mark) is)) in
      (put_there old put k journal later notes numbers tickets (omega arith) more own p, is ∙ same)

  -- nothing was done inside of the turn
  pub puts_none : (s : SeatView N B) (before later : List N) → later ≡ before → Puts number time s s before later [] []
  puts_none s before later same = record {
    seat = let a : s.allowance ≡ s.allowance - 0 = omega arith in ap (λ (l : List ℕ). record s { drawn = l }) (sym (append-nil s.drawn)) ∙ ap (λ (n : ℕ). record s { drawn = s.drawn ++ []; allowance = n }) a;
    journal = same ∙ sym (append-nil before);
    own = λ k d h. absurd (omega arith);
    enough = omega arith;
    above = λ x a. let z : count x [] ≡ 0 = count-nil x in absurd (omega arith);
    rises = tt;
  }

  -- notes alone, without a number
  pub puts_notes : (s : SeatView N B) (before later notes : List N) → later ≡ before ++ notes → All (IsOwn number time s.number []) notes → Puts number time s s before later notes []
  puts_notes s before later notes is own = record {
    seat = let a : s.allowance ≡ s.allowance - 0 = omega arith in ap (λ (l : List ℕ). record s { drawn = l }) (sym (append-nil s.drawn)) ∙ ap (λ (n : ℕ). record s { drawn = s.drawn ++ []; allowance = n }) a;
    journal = is;
    own = own;
    enough = omega arith;
    above = λ x a. let z : count x [] ≡ 0 = count-nil x in absurd (omega arith);
    rises = tt;
  }

  -- a number is above all that the seat has, from what a draw tells
  pub drew_above : (t : Table B) (s : SeatView N B) (x : ℕ) → s.table ≡ t → t.first ≤ x → s.least ≤ x → ((y : ℕ) → Among y s.drawn → y < x) → ((k y : ℕ) → Among y (times time (at_slot s.seen k)) → y < x) → IsAbove time s x
  drew_above t s x same first least drawn seen = record { first = let e : s.table.first ≡ t.first = ap (λ (u : Table B). u.first) same in omega arith; least = least; drawn = drawn; seen = seen }

  -- one number was drawn inside of the turn, and notes at it were added
  pub puts_drew : (s e : SeatView N B) (x : ℕ) (before later notes : List N) → e ≡ record s { drawn = s.drawn ++ x ∷ []; allowance = s.allowance - 1 } → 1 ≤ s.allowance → IsAbove time s x → later ≡ before ++ notes → All (IsOwn number time s.number (x ∷ [])) notes → Puts number time s e before later notes (x ∷ [])
  puts_drew s e x before later notes is one above journal own = record {
    seat = is;
    journal = journal;
    own = own;
    enough = one;
    above = λ y a. subst (IsAbove time s) (only_one y x a) above;
    rises = (λ y a. let z : count y [] ≡ 0 = count-nil y in absurd (omega arith), tt);
  }

  -- a draw outside of turns
  pub drew : (s e : SeatView N B) (x : ℕ) → e ≡ record s { drawn = s.drawn ++ x ∷ []; allowance = s.allowance - 1 } → 1 ≤ s.allowance → IsAbove time s x → Walks number time s (Draw x ∷ []) e
  drew s e x is one above = ((one, above), walks_same number time (after s (Draw x)) e is)

  -- a lift
  pub lifts : (s e : SeatView N B) (x : ℕ) → e ≡ record s { least = max s.least x } → Walks number time s (Lift x ∷ []) e
  lifts s e x is = (tt, walks_same number time (after s (Lift x)) e is)
