-- What a look-up of a key finds in rows.
use Rattle.std.specs.Prelude.{◌≡◌, ◌≢◌, ℕ, ℤ, true, List, Option, Some, None}
use Rattle.row_types.specs.declared.rows.Row.{Row}
use Rattle.journal_model.specs.Lists.{IsIn}
use Rattle.journal_model.specs.Views.{Shown, is_visible}

-- a row of the key that is visible at the timestamp, or none where no row is such
abbrev pub IsRowSeen : ℕ → ℤ → List Shown → Option Row → Type 0
IsRowSeen ts key rows None = (s : Shown) → IsIn s rows → is_visible ts s ≡ true → s.row.key.0 ≢ key
IsRowSeen ts key rows (Some row) = (row.key.0 ≡ key) × ((s : Shown) × IsIn s rows × (is_visible ts s ≡ true) × (s.row ≡ row))
