-- What a seat does, step by step.
use Rattle.std.specs.Prelude.{◌≡◌, ℕ, ◌+◌, ◌-◌, ◌<◌, ◌≤◌, ◌==◌, cond, List, [], ◌∷◌, ◌++◌, length, slice_set, Option, max}
use Rattle.std.specs.List.{All}
use Rattle.turn_facts.specs.Counts.{Among}
use Rattle.turn_facts.specs.Notes.{of, times, IsOwn}
use Rattle.turn_facts.specs.Prefixes.{StartsWith, IsAt}
use Rattle.turn_table.specs.Knowledge.{at_slot}
use Rattle.turn_table.specs.Seats.{SeatView}

-- a turn: its slot, the journal that it found there, the notes that it added, and the numbers that it drew meanwhile
pub record Turned (N : Type 0) : Type 0 where
  pub slot : ℕ
  pub before : List N
  pub notes : List N
  pub drawn : List ℕ

-- a seat draws a number, lifts the clock, or takes a turn
pub data Step (N : Type 0) : Type 0 where
  Draw : (x : ℕ) → Step N
  Lift : (x : ℕ) → Step N
  Took : (t : Turned N) → Step N

-- rising numbers
abbrev pub Rises : List ℕ → Type 0
Rises [] = Unit {0}
Rises (x ∷ xs) = ((y : ℕ) → Among y xs → x < y) × Rises xs

module _ {N B : Type 0} where
  -- the seat, once it has seen the journal that its turn found
  abbrev pub found : SeatView N B → Turned N → SeatView N B
  found s t = record s { seen = slice_set s.seen t.slot t.before }

  -- what a step makes of the seat
  abbrev pub after : SeatView N B → Step N → SeatView N B
  after s (Draw x) = record s { drawn = s.drawn ++ x ∷ []; allowance = s.allowance - 1 }
  after s (Lift x) = record s { least = max s.least x }
  after s (Took t) = record s { drawn = s.drawn ++ t.drawn; allowance = s.allowance - length t.drawn; seen = slice_set s.seen t.slot (t.before ++ t.notes) }

  -- the number is above all that the seat has seen and drawn, and at least what it lifted to
  pub record IsAbove (time : N → Option ℕ) (s : SeatView N B) (x : ℕ) : Type 0 where
    pub first : s.table.first ≤ x
    pub least : s.least ≤ x
    pub drawn : (y : ℕ) → Among y s.drawn → y < x
    pub seen : (k y : ℕ) → Among y (times time (at_slot s.seen k)) → y < x

  -- the turn found a journal that begins with what the seat had seen, with nothing new of the seat itself, and added notes of the seat alone, at numbers that it drew
  pub record IsTurn (number : N → ℕ) (time : N → Option ℕ) (s : SeatView N B) (t : Turned N) : Type 0 where
    pub slot : t.slot < length s.seen
    pub more : StartsWith t.before (at_slot s.seen t.slot)
    pub mine : of number s.number t.before ≡ of number s.number (at_slot s.seen t.slot)
    pub own : All (IsOwn number time s.number (s.drawn ++ t.drawn)) t.notes
    pub enough : length t.drawn ≤ s.allowance
    pub above : (x : ℕ) → Among x t.drawn → IsAbove time (found s t) x
    pub rises : Rises t.drawn

  -- the seat may take this step
  abbrev pub IsStep : (N → ℕ) → (N → Option ℕ) → SeatView N B → Step N → Type 0
  IsStep number time s (Draw x) = (1 ≤ s.allowance) × IsAbove time s x
  IsStep number time s (Lift x) = Unit {0}
  IsStep number time s (Took t) = IsTurn number time s t

  -- by these steps the seat s has become e. How many numbers it had drawn when it entered a turn (its mark) is of no account
  abbrev pub Walks : (N → ℕ) → (N → Option ℕ) → SeatView N B → List (Step N) → SeatView N B → Type 0
  Walks number time s [] e = e ≡ record s { mark = e.mark }
  Walks number time s (x ∷ xs) e = IsStep number time s x × Walks number time (after s x) xs e

module _ {N : Type 0} where
  abbrev pub drawn_in : Step N → List ℕ
  drawn_in (Draw x) = x ∷ []
  drawn_in (Lift x) = []
  drawn_in (Took t) = t.drawn

  abbrev pub notes_in : ℕ → Step N → List N
  notes_in k (Draw x) = []
  notes_in k (Lift x) = []
  notes_in k (Took t) = cond (t.slot == k) t.notes []

  -- the numbers that the steps draw, and the notes that they add on the slot k
  abbrev pub all_drawn : List (Step N) → List ℕ
  all_drawn [] = []
  all_drawn (x ∷ xs) = drawn_in x ++ all_drawn xs

  abbrev pub all_notes : ℕ → List (Step N) → List N
  all_notes k [] = []
  all_notes k (x ∷ xs) = notes_in k x ++ all_notes k xs

module _ {N B : Type 0} where
  -- what follows from the steps by which the seat s has become e
  pub record Walked (number : N → ℕ) (time : N → Option ℕ) (s : SeatView N B) (xs : List (Step N)) (e : SeatView N B) : Type 0 where
    -- notes of its own: those that it had seen, and then those of its turns
    pub own : (k : ℕ) → of number s.number (at_slot e.seen k) ≡ of number s.number (at_slot s.seen k) ++ all_notes k xs
    -- beginnings: what it had seen, what a turn found, and what a turn left
    pub more : (k : ℕ) → StartsWith (at_slot e.seen k) (at_slot s.seen k)
    pub behind : (i : ℕ) (t : Turned N) → IsAt xs i (Took t) → StartsWith t.before (at_slot s.seen t.slot)
    pub turns : (i : ℕ) (t : Turned N) → IsAt xs i (Took t) → StartsWith (at_slot e.seen t.slot) (t.before ++ t.notes)
    -- drawn numbers: they rise, are above what the seat had, and above every timestamp of a turn that was taken before
    pub drawn : e.drawn ≡ s.drawn ++ all_drawn xs
    pub rises : Rises (all_drawn xs)
    pub above : (x : ℕ) → Among x (all_drawn xs) → IsAbove time s x
    pub order : (front back : List (Step N)) (t : Turned N) (x y : ℕ) → xs ≡ front ++ Took t ∷ back → Among x (all_drawn back) → Among y (times time (t.before ++ t.notes)) → y < x
    pub least : s.least ≤ e.least
    -- a number that is drawn costs one of the allowance, and nothing else does
    pub allowance : e.allowance + length e.drawn ≡ s.allowance + length s.drawn
    -- and this stays
    pub table : e.table ≡ s.table
    pub named : e.number ≡ s.number
    pub joined : e.joined ≡ s.joined
    pub origin : e.origin ≡ s.origin
    pub still : e.turns ≡ s.turns
    pub long : length e.seen ≡ length s.seen

  -- inside of a turn the seat drew these numbers, and added these notes of its own behind those that stood there
  pub record Puts (number : N → ℕ) (time : N → Option ℕ) (old new : SeatView N B) (before later : List N) (notes : List N) (numbers : List ℕ) : Type 0 where
    pub seat : new ≡ record old { drawn = old.drawn ++ numbers; allowance = old.allowance - length numbers }
    pub journal : later ≡ before ++ notes
    pub own : All (IsOwn number time old.number numbers) notes
    pub enough : length numbers ≤ old.allowance
    pub above : (x : ℕ) → Among x numbers → IsAbove time old x
    pub rises : Rises numbers
