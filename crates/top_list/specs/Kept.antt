-- What contracts see of a top list, and what a list keeps between calls.
use Rattle.std.specs.Prelude.{◌≡◌, ℕ, ◌<◌, false, List, [], ◌∷◌, ◌++◌, length, IfSome, Option, Some, None, Bool}
use Rattle.std.specs.List.{AllByRecursion}
use Rattle.std.specs.Ordering.{is_gt, is_lt}
use Rattle.std.specs.declared.cmp.Ordering.TheVariants.{Less}
use Rattle.row_types.specs.declared.hits.Hit.{Hit}
use Rattle.row_types.specs.Hits.{hit_cmp, least}

-- how many hits are kept at most, and which are
pub record Kept : Type 0 where
  pub k : ℕ
  pub hits : List Hit

-- hits in a buffer, and how many may stand there from the first on
pub record Standing : Type 0 where
  pub hits : List Hit
  pub room : ℕ

-- a list in order, with room for one hit more than it may keep
pub record IsTop (k : ℕ) (hits : List Hit) (room : ℕ) : Type 0 where
  pub own : least k hits ≡ hits
  pub some : 0 < k
  pub free : k < room

-- k hits are kept, and this one is behind none of them
pub record IsLast (k : ℕ) (hits : List Hit) (last : Hit) : Type 0 where
  pub full : length (least k hits) ≡ k
  pub behind : AllByRecursion (λ y. is_gt (hit_cmp y last) ≡ false) (least k hits)

-- a list that is being filled: its buffer is never full between calls
pub record IsFilling (k : ℕ) (hits : List Hit) (count capacity : ℕ) (bar : Option Hit) : Type 0 where
  pub some : 0 < k
  pub room : k < capacity
  pub free : count < capacity
  pub last : IfSome bar (IsLast k hits)

-- whether a hit comes after one that is known to be the last of k
abbrev pub is_after : Option Hit → Hit → Bool
is_after None hit = false
is_after (Some last) hit = is_lt (hit_cmp last hit)

-- a hit that comes after this one would not be kept
abbrev pub IsBehindAll : Kept → Hit → Type 0
IsBehindAll kept last = (hit : Hit) → hit_cmp last hit ≡ Less → least kept.k (kept.hits ++ hit ∷ []) ≡ kept.hits

-- the hits of some lists, one list after another
abbrev pub hits_of : List Kept → List Hit
hits_of [] = []
hits_of (kept ∷ lists) = kept.hits ++ hits_of lists

-- what a list has become when some hits were offered
pub record Offered (old now : Kept) (offered : List Hit) : Type 0 where
  pub k : now.k ≡ old.k
  pub hits : now.hits ≡ least old.k (old.hits ++ offered)
