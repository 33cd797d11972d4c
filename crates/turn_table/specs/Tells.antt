-- What each step tells the seat that takes it.
use Rattle.std.specs.Prelude.{◌≡◌, ℕ, ◌<◌, ◌≤◌, List, length, Option}
use Rattle.turn_facts.specs.Counts.{Among, NoneTwice}
use Rattle.turn_facts.specs.Notes.{of, times}
use Rattle.turn_facts.specs.Prefixes.{StartsWith, IsAt}
use Rattle.turn_table.specs.declared.knows.Know.{Know}
use Rattle.turn_table.specs.Knowledge.{at_slot, numbers, entered, drew, numbered, settled}
use Rattle.turn_table.specs.Rule.{IsGrown}

module _ {S N B : Type 0} where
  -- it has seen the whole journal of the value, which begins with what it had seen, and of notes of its numbers has nothing new
  pub record Took (journal : S → List N) (base : S → B) (number : N → ℕ) (v : Know N B) (k : ℕ) (x : S) (w : Know N B) : Type 0 where
    pub is : w ≡ entered v k (journal x)
    pub slot : k < length v.seen
    pub more : StartsWith (journal x) (at_slot v.seen k)
    pub mine : (n : ℕ) → Among n (numbers v) → of number n (journal x) ≡ of number n (at_slot v.seen k)
    pub place : IsAt v.bases k (base x)

module _ {N B : Type 0} where
  -- the number is above all that the seat has seen or drawn, and at least what it lifted to
  pub record Drew (time : N → Option ℕ) (v : Know N B) (x : ℕ) (w : Know N B) : Type 0 where
    pub is : w ≡ drew v x
    pub first : v.first ≤ x
    pub least : v.least ≤ x
    pub drawn : (y : ℕ) → Among y v.drawn → y < x
    pub seen : (k y : ℕ) → Among y (times time (at_slot v.seen k)) → y < x

  -- what a seat that was just joined can tell of its parts, and of the numbers that these drew
  pub record Settled (number : N → ℕ) (v w : Know N B) : Type 0 where
    pub is : w ≡ settled v
    pub grown : IsGrown number v.seen v.parts
    pub once : NoneTwice v.drawn
    pub apart : NoneTwice (numbers v)

  -- the number is above all that the seat has
  pub record Numbers (v : Know N B) (x : ℕ) (w : Know N B) : Type 0 where
    pub is : w ≡ numbered v x
    pub above : (n : ℕ) → Among n (numbers v) → n < x
