-- The entries of a seat on a board, when it leaves the turn under which it wrote.
use Rattle.std.proofs.Common.{◌≡◌, ℕ, zero, suc, ◌+◌, ◌-◌, ◌<◌, ◌≤◌, Bool, cond, List, [], ◌∷◌, ◌++◌, map, length, set, refl, ap, sym, ◌∙◌, subst, arith, append-nil, length-append, eq-eqb}
use Rattle.std.specs.Prelude.{OnOk, OnErr}
use Rattle.std.specs.declared.result.Result.{Result}
use Rattle.std.proofs.lemmas.Result.{on_ok_weaker, on_err_weaker}
use Rattle.std.proofs.lemmas.List.{length-set, get_or-set_same, get_or-set_other}
use Rattle.turn_lock.specs.declared.tickets.Ticket.{Ticket}
use Rattle.turn_facts.specs.Counts.{count, Among}
use Rattle.turn_facts.specs.Notes.{of}
use Rattle.turn_facts.specs.Prefixes.{StartsWith}
use Rattle.turn_facts.proofs.Counts.{count-here}
use Rattle.turn_facts.proofs.Notes.{of-append}
use Rattle.turn_facts.proofs.Prefixes.{starts_longer, starts_trans}
use Rattle.turn_table.specs.Knowledge.{at_slot}
use Rattle.turn_table.specs.Seats.{SeatView}
use Rattle.turn_board.specs.Jobs.{entry, own_entries, Put, Wrote}
use Rattle.turn_board.specs.declared.boards.Entry.{Entry}

set_twice : {A : Type 0} (l : List A) (k : ℕ) (a b : A) → set (set l k a) k b ≡ set l k b
set_twice [] k a b = refl
set_twice (x ∷ l) zero a b = refl
set_twice (x ∷ l) (suc k) a b = ap (λ m. x ∷ m) (set_twice l k a b)

-- all entries that a seat writes are of its number
of_entries : (by : ℕ) (numbers : List ℕ) → of (λ (e : Entry). e.by) by (map (entry by) numbers) ≡ map (entry by) numbers
unfolding of
of_entries by [] = refl
of_entries by (at ∷ numbers) =
    let rest : List Entry = of (λ (e : Entry). e.by) by (map (entry by) numbers) in
    ap (λ (b : Bool). cond b (entry by at ∷ rest) rest) (eq-eqb by by refl) ∙ ap (λ (l : List Entry). entry by at ∷ l) (of_entries by numbers)

-- a seat that entered a turn on the board k, found the journal there, and wrote entries behind it
after_turn : SeatView Entry ℕ → ℕ → List Entry → List ℕ → SeatView Entry ℕ
after_turn old k journal numbers = record old {
  drawn = old.drawn ++ numbers;
  allowance = old.allowance - length numbers;
  seen = set old.seen k (journal ++ map (entry old.number) numbers);
  turns = [];
  mark = length old.drawn;
}

wrote_in_turn : (old : SeatView Entry ℕ) (k : ℕ) (journal : List Entry) (numbers : List ℕ) → k < length old.seen → StartsWith journal (at_slot old.seen k) → of (λ (e : Entry). e.by) old.number journal ≡ own_entries old k → length numbers ≤ old.allowance → old.turns ≡ [] → Wrote numbers k old (after_turn old k journal numbers)
unfolding after_turn
wrote_in_turn old k journal numbers slot more mine enough rest =
    let by_of : Entry → ℕ = λ e. e.by in
    let written : List Entry = map (entry old.number) numbers in
    let here : at_slot (set old.seen k (journal ++ written)) k ≡ journal ++ written = get_or-set_same old.seen k (journal ++ written) [] slot in
    let drawn : length (old.drawn ++ numbers) ≡ length old.drawn + length numbers = length-append old.drawn numbers in
    record {
      drawn = refl;
      own = ap (of by_of old.number) here ∙ of-append by_of old.number journal written ∙ ap (λ (l : List Entry). l ++ of by_of old.number written) mine ∙ ap (λ (l : List Entry). own_entries old k ++ l) (of_entries old.number numbers);
      allowance = omega arith;
      more = subst (λ (l : List Entry). StartsWith l (at_slot old.seen k)) (sym here) (starts_trans (starts_longer journal written) more);
      others = λ j n. get_or-set_other old.seen k j (journal ++ written) [] n;
      boards = length-set old.seen k (journal ++ written);
      table = refl;
      number = refl;
      joined = refl;
      least = refl;
      turns = sym rest;
    }

wrote_one : (old inside put new : SeatView Entry ℕ) (k j at : ℕ) (journal after : List Entry) (tickets : List Ticket) → j ≡ k → k < length inside.seen → StartsWith journal (at_slot old.seen k) → of (λ (e : Entry). e.by) old.number journal ≡ own_entries old k → 1 ≤ old.allowance → old.turns ≡ []
    → inside ≡ record old { seen = set old.seen k journal; turns = tickets; mark = length old.drawn } → Put at inside put journal after → new ≡ record put { seen = set put.seen j after; turns = [] } → Wrote (at ∷ []) k old new
unfolding after_turn
wrote_one old inside put new k j at journal after tickets place slot more mine enough rest enters puts leaves =
    let long : length inside.seen ≡ length old.seen = ap (λ (s : SeatView Entry ℕ). length s.seen) enters ∙ length-set old.seen k journal in
    let by : inside.number ≡ old.number = ap (λ (s : SeatView Entry ℕ). s.number) enters in
    let whole : after ≡ journal ++ entry old.number at ∷ [] = puts.entries ∙ ap (λ (n : ℕ). journal ++ entry n at ∷ []) by in
    let seen : set put.seen j after ≡ set old.seen k (journal ++ entry old.number at ∷ []) = ap (λ (n : ℕ). set put.seen n after) place ∙ ap (λ (s : SeatView Entry ℕ). set s.seen k after) puts.seat ∙ ap (λ (s : SeatView Entry ℕ). set s.seen k after) enters ∙ set_twice old.seen k journal after ∙ ap (set old.seen k) whole in
    let is : new ≡ after_turn old k journal (at ∷ []) = leaves ∙ ap (λ (l : List (List Entry)). record put { seen = l; turns = [] }) seen ∙ ap (λ (s : SeatView Entry ℕ). record s { seen = set old.seen k (journal ++ entry old.number at ∷ []); turns = [] }) puts.seat ∙ ap (λ (s : SeatView Entry ℕ). record s { drawn = s.drawn ++ at ∷ []; allowance = s.allowance - 1; seen = set old.seen k (journal ++ entry old.number at ∷ []); turns = [] }) enters in
    subst (Wrote (at ∷ []) k old) (sym is) (wrote_in_turn old k journal (at ∷ []) (omega arith) more mine enough rest)

wrote_none : (old inside put new : SeatView Entry ℕ) (k j : ℕ) (journal after : List Entry) (tickets : List Ticket) → j ≡ k → k < length inside.seen → StartsWith journal (at_slot old.seen k) → of (λ (e : Entry). e.by) old.number journal ≡ own_entries old k → old.turns ≡ []
    → inside ≡ record old { seen = set old.seen k journal; turns = tickets; mark = length old.drawn } → (put ≡ inside) × (after ≡ journal) → new ≡ record put { seen = set put.seen j after; turns = [] } → Wrote [] k old new
unfolding after_turn
wrote_none old inside put new k j journal after tickets place slot more mine rest enters puts leaves =
    let long : length inside.seen ≡ length old.seen = ap (λ (s : SeatView Entry ℕ). length s.seen) enters ∙ length-set old.seen k journal in
    let is_put : put ≡ record old { seen = set old.seen k journal; turns = tickets; mark = length old.drawn } = puts.0 ∙ enters in
    let seen : set put.seen j after ≡ set old.seen k (journal ++ []) = ap (λ (n : ℕ). set put.seen n after) place ∙ ap (λ (s : SeatView Entry ℕ). set s.seen k after) is_put ∙ set_twice old.seen k journal after ∙ ap (set old.seen k) (puts.1 ∙ sym (append-nil journal)) in
    let is : new ≡ record old { seen = set old.seen k (journal ++ []); turns = []; mark = length old.drawn } = leaves ∙ ap (λ (l : List (List Entry)). record put { seen = l; turns = [] }) seen ∙ ap (λ (s : SeatView Entry ℕ). record s { seen = set old.seen k (journal ++ []); turns = [] }) is_put in
    let kept : old.allowance ≡ old.allowance - 0 = omega arith in
    let drew : new ≡ after_turn old k journal [] = is ∙ ap (λ (n : ℕ). record old { allowance = n; seen = set old.seen k (journal ++ []); turns = []; mark = length old.drawn }) kept ∙ ap (λ (l : List ℕ). record old { drawn = l; allowance = old.allowance - 0; seen = set old.seen k (journal ++ []); turns = []; mark = length old.drawn }) (sym (append-nil old.drawn)) in
    subst (Wrote [] k old) (sym drew) (wrote_in_turn old k journal [] (omega arith) more mine (omega arith) rest)

module _ {T E : Type 0} (answer : Result T E) (old inside put new : SeatView Entry ℕ) (k i j : ℕ) (journal after : List Entry) (tickets : List Ticket) where
  -- the notes of the seat itself are those that it had seen
  own_found : ((n : ℕ) → Among n (old.number ∷ old.joined) → of (λ (e : Entry). e.by) n journal ≡ of (λ (e : Entry). e.by) n (at_slot old.seen k)) → of (λ (e : Entry). e.by) old.number journal ≡ own_entries old k
  own_found mine = let first : count old.number (old.number ∷ old.joined) ≡ 1 + count old.number old.joined = count-here old.number old.joined in mine old.number (omega arith)

  -- what is written under a turn, once it is left
  pub left_written : OnOk answer ((at : ℕ) × Put at inside put journal after) → inside ≡ record old { seen = set old.seen k journal; turns = tickets; mark = length old.drawn } → new ≡ record put { seen = set put.seen j after; turns = [] } → j ≡ i → i ≡ k → i < length inside.seen → StartsWith journal (at_slot old.seen k)
      → ((n : ℕ) → Among n (old.number ∷ old.joined) → of (λ (e : Entry). e.by) n journal ≡ of (λ (e : Entry). e.by) n (at_slot old.seen k)) → 1 ≤ old.allowance → old.turns ≡ [] → OnOk answer ((at : ℕ) × Wrote (at ∷ []) k old new)
  left_written puts enters leaves stays place slot more mine enough rest =
      let slot' : k < length inside.seen = subst (λ (n : ℕ). n < length inside.seen) place slot in
      on_ok_weaker answer (λ p. (p.0, wrote_one old inside put new k j p.0 journal after tickets (stays ∙ place) slot' more (own_found mine) enough rest enters p.1 leaves)) puts

  pub left_refused : OnErr answer ((put ≡ inside) × (after ≡ journal)) → inside ≡ record old { seen = set old.seen k journal; turns = tickets; mark = length old.drawn } → new ≡ record put { seen = set put.seen j after; turns = [] } → j ≡ i → i ≡ k → i < length inside.seen → StartsWith journal (at_slot old.seen k)
      → ((n : ℕ) → Among n (old.number ∷ old.joined) → of (λ (e : Entry). e.by) n journal ≡ of (λ (e : Entry). e.by) n (at_slot old.seen k)) → old.turns ≡ [] → OnErr answer (Wrote [] k old new)
  left_refused puts enters leaves stays place slot more mine rest =
      let slot' : k < length inside.seen = subst (λ (n : ℕ). n < length inside.seen) place slot in
      on_err_weaker answer (λ p. wrote_none old inside put new k j journal after tickets (stays ∙ place) slot' more (own_found mine) rest enters p leaves) puts
