-- What an array of search trees keeps; no caller needs it.
use Rattle.std.specs.Prelude.{◌≡◌, ℕ, ◌+◌, ◌≤◌, ◌<◌, List, [], ◌∷◌, ◌++◌, length, Option, Some, None, refl}
use Rattle.std.specs.Coded.{Coded, code_by, coded×, coded_ℕ, coded_ℤ}
use Rattle.std.specs.List.{AllByRecursion}
use Rattle.std.specs.Ordering.{int_cmp}
use Rattle.std.specs.FinMap as fin
use Rattle.growing_segment.specs.Slots.{slot_of}
use Rattle.growing_segment.specs.Trees.{Entry, Entries}

-- what is seen of the trees: the map, and how many nodes they have
pub record Held : Type 0 where
  pub map : fin.FinMap int_cmp ℕ
  pub nodes : ℕ

abbrev pub held_code : Coded Held
held_code = code_by (fin.FinMap int_cmp ℕ × ℕ) (coded× (fin.code coded_ℤ coded_ℕ) coded_ℕ) (λ h. (h.map, h.nodes)) (λ p. record { map = p.0; nodes = p.1 }) (λ _. refl)

-- the entries of trees, one tree after another
abbrev pub entries_in : List Entries → List Entry
entries_in [] = []
entries_in (tree ∷ trees) = tree.list ++ entries_in trees

abbrev pub AreOfSlot : ℕ → ℕ → List Entry → Type 0
AreOfSlot count slot entries = AllByRecursion (λ e. slot_of e.0 count ≡ slot) entries

-- each tree has keys of its own slot alone; the first one's slot is `from`
abbrev pub AreSlotted : ℕ → ℕ → List Entries → Type 0
AreSlotted count from [] = Unit {0}
AreSlotted count from (tree ∷ trees) = AreOfSlot count from tree.list × AreSlotted count (from + 1) trees

-- of the fields of the array
pub record AreBuckets (trees : List Entries) (nodes : ℕ) : Type 0 where
  pub some : 0 < length trees
  pub few : length trees ≤ 4294967296
  pub counted : nodes ≡ length (entries_in trees)
  pub slotted : AreSlotted (length trees) 0 trees

-- the first of two answers that is one
abbrev pub or_else : Option ℕ → Option ℕ → Option ℕ
or_else (Some p) o = Some p
or_else None o = o
