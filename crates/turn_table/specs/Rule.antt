-- What is true of a table of turns between any two steps.
use Rattle.std.specs.Prelude.{◌≡◌, ℕ, ◌+◌, ◌^◌, ◌<◌, ◌≤◌, Bool, true, List, ◌∷◌, map, length, slice_index_or, max, Option}
use mathlib.Core.Option.{none, some}
use mathlib.Core.Option as maybe
use lib.ListN.{get_elem?}
use Rattle.turn_lock.specs.Client.{Homes, IsHome}
use Rattle.turn_facts.specs.Counts.{count, Among, total}
use Rattle.turn_facts.specs.Notes.{of, times}
use Rattle.turn_facts.specs.Prefixes.{StartsWith, IsAt, put}
use Rattle.turn_table.specs.declared.knows.Know.{Know}
use Rattle.turn_table.specs.declared.knows.Part.{Part}
use Rattle.turn_table.specs.Knowledge.{at_slot, numbers, weight, allowance}

-- what no word holds: the journal of each slot, the bases, the journals with which the table began, and the least number that was to be drawn
pub record Truth (N B : Type 0) : Type 0 where
  pub journals : ℕ → List N
  pub bases : List B
  pub origin : List (List N)
  pub first : ℕ

-- the same, but that the journal of the slot k is l
abbrev pub grown_truth : {N B : Type 0} → Truth N B → ℕ → List N → Truth N B
grown_truth t k l = record { journals = put t.journals k l; bases = t.bases; origin = t.origin; first = t.first }

-- how many values are out of a slot
abbrev pub gone : {S : Type 0} → maybe.Option (maybe.Option (Option S)) → ℕ
gone none = 0
gone (some none) = 1
gone (some (some x)) = 0

-- the next number to be drawn, and the next number of a seat
abbrev pub clock : List ℕ → ℕ
clock ws = slice_index_or ws 0 0

abbrev pub next_seat : List ℕ → ℕ
next_seat ws = slice_index_or ws 1 0

-- a seat that was just joined has seen what its parts had, and of their numbers' notes nothing else
pub record Grew {N : Type 0} (number : N → ℕ) (seen : List (List N)) (p : Part N) : Type 0 where
  pub front : (k : ℕ) → StartsWith (at_slot seen k) (at_slot p.seen k)
  pub mine : (k n : ℕ) → Among n p.numbers → of number n (at_slot seen k) ≡ of number n (at_slot p.seen k)

abbrev pub IsGrown : {N : Type 0} → (N → ℕ) → List (List N) → List (Part N) → Type 0
IsGrown {N} number seen parts = (i : ℕ) (p : Part N) → IsAt parts i p → Grew number seen p

module _ {N B : Type 0} where
  -- what a seat has seen of each journal is a beginning of it, and all of it inside of a turn
  pub record Sees (t : Truth N B) (slots : ℕ) (live : Bool) (seen : List (List N)) (bases : List B) (origin : List (List N)) (first : ℕ) (turns : List ℕ) : Type 0 where
    pub long : live ≡ true → length seen ≡ slots
    pub told : live ≡ true → (bases ≡ t.bases) × (origin ≡ t.origin) × (first ≡ t.first)
    pub front : (k : ℕ) → StartsWith (t.journals k) (at_slot seen k)
    pub inside : (k : ℕ) → Among k turns → (live ≡ true) × (at_slot seen k ≡ t.journals k)

  abbrev pub SeesAll : Truth N B → ℕ → Know N B → Type 0
  SeesAll t slots v = Sees t slots v.live v.seen v.bases v.origin v.first v.inside

  -- it is a seat still, and has seen the whole journal
  abbrev pub IsNewest : Truth N B → ℕ → Know N B → Type 0
  IsNewest t k v = (v.live ≡ true) × (at_slot v.seen k ≡ t.journals k)

  -- values at home have their journal and base; a value that is out is inside of one seat's turn; some seat has seen each journal whole
  pub record Shown {S : Type 0} (journal : S → List N) (base : S → B) (t : Truth N B) (hs : Homes S) (vs : List (Know N B)) : Type 0 where
    pub home : (k : ℕ) (x : S) → IsHome hs k x → (journal x ≡ t.journals k) × IsAt t.bases k (base x)
    pub based : length t.bases ≡ length hs
    pub begun : length t.origin ≡ length hs
    pub views : (j : ℕ) (v : Know N B) → IsAt vs j v → SeesAll t (length hs) v
    pub newest : (k : ℕ) → k < length hs → (j : ℕ) × (v : Know N B) × IsAt vs j v × IsNewest t k v
    pub insides : (k : ℕ) → total (λ (v : Know N B). count k v.inside) vs ≡ gone (get_elem? hs k)

  -- what a seat has seen holds all notes of its numbers, and of each number that no seat has yet
  pub record Owns (number : N → ℕ) (t : Truth N B) (next : ℕ) (live : Bool) (nums : List ℕ) (seen : List (List N)) : Type 0 where
    pub mine : (k n : ℕ) → Among n nums → of number n (t.journals k) ≡ of number n (at_slot seen k)
    pub fresh : live ≡ true → (k n : ℕ) → next ≤ n → of number n (t.journals k) ≡ of number n (at_slot seen k)

  abbrev pub OwnsAll : (N → ℕ) → Truth N B → ℕ → Know N B → Type 0
  OwnsAll number t next v = Owns number t next v.live (numbers v) v.seen

  -- each number that was given is at exactly one seat, and once; of a number that was not given yet there is no note but those with which the table began
  pub record Numbered (number : N → ℕ) (t : Truth N B) (ws : List ℕ) (vs : List (Know N B)) : Type 0 where
    pub given : (n : ℕ) → n < next_seat ws → total (λ (v : Know N B). count n (numbers v)) vs ≡ 1
    pub unused : (n : ℕ) → next_seat ws ≤ n → total (λ (v : Know N B). count n (numbers v)) vs ≡ 0
    pub strange : (k n : ℕ) → next_seat ws ≤ n → of number n (t.journals k) ≡ of number n (at_slot t.origin k)
    pub views : (j : ℕ) (v : Know N B) → IsAt vs j v → OwnsAll number t (next_seat ws) v

  -- no number was drawn twice, each is at least the first, and the clock is above all that were drawn, seen or lifted to
  pub record Drawn (time : N → Option ℕ) (t : Truth N B) (ws : List ℕ) (vs : List (Know N B)) : Type 0 where
    pub once : (x : ℕ) → total (λ (v : Know N B). count x v.drawn) vs ≤ 1
    pub early : (x : ℕ) → x < t.first → total (λ (v : Know N B). count x v.drawn) vs ≡ 0
    pub below : (x : ℕ) → clock ws ≤ x → total (λ (v : Know N B). count x v.drawn) vs ≡ 0
    pub least : (j : ℕ) (v : Know N B) → IsAt vs j v → v.least ≤ clock ws
    pub first : t.first ≤ clock ws
    pub times : (k x : ℕ) → Among x (times time (t.journals k)) → x < clock ws

  -- what all seats have together never changes, so the clock and the numbers of seats keep a bound
  pub record Summed (t : Truth N B) (ws : List ℕ) (vs : List (Know N B)) : Type 0 where
    pub weights : total weight vs ≡ 2 ^ 40 + 1
    pub room : clock ws + total allowance vs ≤ 2 ^ 40 + max t.first (2 ^ 63)
    pub few : next_seat ws + total allowance vs ≤ 2 ^ 40 + 1
    pub low : t.first < 2 ^ 63 + 2 ^ 60

  -- the word of each slot is the length of its journal
  pub record Measured (t : Truth N B) (ws : List ℕ) (slots : ℕ) : Type 0 where
    pub wide : length ws ≡ slots + 2
    pub lengths : (k : ℕ) → k < slots → slice_index_or ws (k + 2) 0 ≡ length (t.journals k)

  pub record Kept {S : Type 0} (journal : S → List N) (base : S → B) (number : N → ℕ) (time : N → Option ℕ) (ws : List ℕ) (hs : Homes S) (vs : List (Know N B)) : Type 0 where
    pub truth : Truth N B
    pub shown : Shown journal base truth hs vs
    pub numbers : Numbered number truth ws vs
    pub drawn : Drawn time truth ws vs
    pub sums : Summed truth ws vs
    pub lengths : Measured truth ws (length hs)
    pub grown : (j : ℕ) (v : Know N B) → IsAt vs j v → IsGrown number v.seen v.parts

-- the words of a table that begins with the values xs: the clock, the next number of a seat, and the length of each journal
abbrev pub first_words : {S N : Type 0} → (S → List N) → ℕ → List S → List ℕ
first_words journal first xs = first ∷ 1 ∷ map (λ x. length (journal x)) xs
