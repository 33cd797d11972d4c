-- Seats that are split off from one, and seats that one takes in.
use Rattle.std.specs.Prelude.{◌≡◌, ℕ, ◌+◌, List, [], ◌∷◌, length}
use Rattle.turn_facts.specs.Counts.{count, NoneTwice, total}
use Rattle.turn_facts.specs.Prefixes.{IsAt}
use Rattle.turn_table.specs.Rule.{Grew}
use Rattle.turn_table.specs.Seats.{Table, SeatView, part_of}

module _ {N B : Type 0} where
  abbrev pub number_in : SeatView N B → ℕ
  number_in p = p.number

  abbrev pub numbers_of : SeatView N B → List ℕ
  numbers_of p = p.number ∷ p.joined

  -- what it has of its allowance, used and unused
  abbrev pub share : SeatView N B → ℕ
  share p = p.allowance + (length p.drawn + length p.joined)

  -- the number and the allowance of a seat that is split off
  abbrev pub cost : SeatView N B → ℕ
  cost p = p.allowance + 1

  -- the number that a join costs, and the share
  abbrev pub gain : SeatView N B → ℕ
  gain p = share p + 1

  -- a seat that was just split off from s
  abbrev pub IsNew : SeatView N B → SeatView N B → Type 0
  IsNew s p = p ≡ record s { number = p.number; allowance = p.allowance; drawn = []; joined = []; turns = []; mark = 0 }

  -- these seats were split off from s, which has become e
  pub record Parted (s : SeatView N B) (starts : List (SeatView N B)) (e : SeatView N B) : Type 0 where
    pub seat : e ≡ record s { allowance = e.allowance }
    pub allowance : e.allowance + total cost starts ≡ s.allowance
    pub each : (i : ℕ) (p : SeatView N B) → IsAt starts i p → IsNew s p

  -- a seat that may be joined
  pub record IsBack (t : Table B) (slots : ℕ) (p : SeatView N B) : Type 0 where
    pub table : p.table ≡ t
    pub turns : p.turns ≡ []
    pub long : length p.seen ≡ slots

  -- the seat s has become e by taking in these seats
  pub record Gathered (number : N → ℕ) (s : SeatView N B) (parts : List (SeatView N B)) (e : SeatView N B) : Type 0 where
    pub drawn : (x : ℕ) → count x e.drawn ≡ count x s.drawn + total (λ (p : SeatView N B). count x p.drawn) parts
    pub numbers : (n : ℕ) → count n (numbers_of e) ≡ count n (numbers_of s) + total (λ (p : SeatView N B). count n (numbers_of p)) parts
    pub share_of : share e ≡ share s + total gain parts
    -- of each, it has seen what that seat had, and of that seat's numbers no other note
    pub own : Grew number e.seen (part_of s)
    pub each : (i : ℕ) (p : SeatView N B) → IsAt parts i p → Grew number e.seen (part_of p)
    pub once : NoneTwice s.drawn → NoneTwice e.drawn
    pub apart : NoneTwice (numbers_of s) → NoneTwice (numbers_of e)
    pub table : e.table ≡ s.table
    pub turns : e.turns ≡ s.turns
    pub named : e.number ≡ s.number
    pub origin : e.origin ≡ s.origin
    pub long : length e.seen ≡ length s.seen
