-- Lists that begin with one another.
use Rattle.std.specs.Prelude.{◌≡◌, ℕ, ◌==◌, nat_le, cond, List, ◌++◌, length}
use mathlib.Core.Option.{some}
use lib.ListN.{get_elem?}

-- the first list begins with the second
pub record StartsWith {A : Type 0} (whole front : List A) : Type 0 where
  pub rest : List A
  pub is : whole ≡ front ++ rest

-- the longer of two lists, and the first where they are of one length
unfoldable pub longer : {A : Type 0} → List A → List A → List A
longer l m = cond (nat_le (length m) (length l)) l m

-- x stands in a list at the place k
abbrev pub IsAt : {A : Type 0} → List A → ℕ → A → Type 0
IsAt l k x = get_elem? l k ≡ some x

-- a function that gives a at k, and elsewhere what f gives
unfoldable pub put : {A : Type 0} → (ℕ → A) → ℕ → A → ℕ → A
put f k a j = cond (j == k) a (f j)
