-- Notes of a journal: `number` tells the number of the seat that wrote a note, and `time` its timestamp, if it has one.
use Rattle.std.specs.Prelude.{◌≡◌, ℕ, ◌==◌, cond, List, [], ◌∷◌, ◌++◌, Option, Some, None}
use Rattle.std.specs.List.{All}
use Rattle.turn_facts.specs.Counts.{Among}

-- a number in front of a list, where there is one
abbrev pub with_time : Option ℕ → List ℕ → List ℕ
with_time None l = l
with_time (Some t) l = t ∷ l

module _ {N : Type 0} where
  -- the notes of the seat n
  unfoldable pub of : (N → ℕ) → ℕ → List N → List N
  of number n [] = []
  of number n (x ∷ l) = cond (number x == n) (x ∷ of number n l) (of number n l)

  -- the timestamps of the notes that have one
  unfoldable pub times : (N → Option ℕ) → List N → List ℕ
  times time [] = []
  times time (x ∷ l) = with_time (time x) (times time l)

  -- the note is of the seat n, and its timestamp, if any, stands in `drawn`
  pub record IsOwn (number : N → ℕ) (time : N → Option ℕ) (n : ℕ) (drawn : List ℕ) (x : N) : Type 0 where
    pub by : number x ≡ n
    pub at : (t : ℕ) → time x ≡ Some t → Among t drawn

  -- the journal `after` is `before` and then notes of the seat n alone, whose timestamps stand in `drawn`
  pub record Adds (number : N → ℕ) (time : N → Option ℕ) (n : ℕ) (drawn : List ℕ) (before after : List N) : Type 0 where
    pub notes : List N
    pub is : after ≡ before ++ notes
    pub own : All (IsOwn number time n drawn) notes
