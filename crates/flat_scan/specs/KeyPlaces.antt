-- Where the row of a key stands.
use Rattle.std.specs.Prelude.{◌≡◌, ℕ, ℤ, Bool, true, false, ◌&&◌, List, slice_get, Option, Some, None}
use Rattle.std.specs.List.{AllByRecursion}
use Rattle.std.specs.Ordering.{int_eq}
use Rattle.journal_model.specs.Views.{Shown, is_visible}

-- whether a row has a key and is visible at a timestamp
abbrev pub shows_key : ℕ → ℤ → Shown → Bool
shows_key ts key s = int_eq s.row.key.0 key && is_visible ts s

-- the number of a row that shows the key, or none where no row does
abbrev pub IsPlaceOf : ℕ → ℤ → List Shown → Option ℕ → Type 0
IsPlaceOf ts key rows None = AllByRecursion (λ s. shows_key ts key s ≡ false) rows
IsPlaceOf ts key rows (Some i) = (s : Shown) × (slice_get rows i ≡ Some s) × (shows_key ts key s ≡ true)
