-- Search trees of keys, seen as the entries in the order of their keys; no caller needs it.
use Rattle.std.specs.Prelude.{◌≡◌, ℕ, ℤ, ◌+◌, ◌≤◌, ◌<ℤ◌, max, List, [], ◌∷◌, ◌++◌, length, int_lt, if◌then◌else◌}
use Rattle.std.specs.List.{AllByRecursion}

-- a key and its position
abbrev pub Entry : Type 0
Entry = ℤ × ℕ

-- what is seen of a tree: its entries by rising keys, and its height
pub record Entries : Type 0 where
  pub list : List (ℤ × ℕ)
  pub height : ℕ

abbrev pub AreBelow : ℤ → List Entry → Type 0
AreBelow key entries = AllByRecursion (λ e. e.0 <ℤ key) entries

abbrev pub AreAbove : ℤ → List Entry → Type 0
AreAbove key entries = AllByRecursion (λ e. key <ℤ e.0) entries

-- each key is below all later ones
abbrev pub KeysRise : List Entry → Type 0
KeysRise [] = Unit {0}
KeysRise (e ∷ entries) = AreAbove e.0 entries × KeysRise entries

-- the entries with this one in its place, in place of one of its key
abbrev pub with_entry : Entry → List Entry → List Entry
with_entry new [] = new ∷ []
with_entry new (e ∷ entries) = if int_lt new.0 e.0 then new ∷ e ∷ entries else (if int_lt e.0 new.0 then e ∷ with_entry new entries else new ∷ entries)

-- the entries without that of a key
abbrev pub without_key : ℤ → List Entry → List Entry
without_key key [] = []
without_key key (e ∷ entries) = if int_lt key e.0 then e ∷ entries else (if int_lt e.0 key then e ∷ without_key key entries else entries)

-- neither height is more than this above the other
pub record DifferByAtMost (by left right : ℕ) : Type 0 where
  pub right_low : left ≤ right + by
  pub left_low : right ≤ left + by

-- of the fields of a node that stands in a tree
pub record IsNode (left : Entries) (key : ℤ) (position : ℕ) (height : ℕ) (right : Entries) : Type 0 where
  pub rise : KeysRise (left.list ++ (key, position) ∷ right.list)
  pub height_is : height ≡ max left.height right.height + 1
  pub even : DifferByAtMost 1 left.height right.height
  pub low : height ≤ length (left.list ++ (key, position) ∷ right.list)

-- what becomes of the heights of two sides that differ by at most two, once they are evened
pub record IsHeightOf (left right height : ℕ) : Type 0 where
  pub least : max left right ≤ height
  pub most : height ≤ max left right + 1
  pub same : DifferByAtMost 1 left right → height ≡ max left right + 1
