-- What every collection keeps to, and what it takes.
use Rattle.std.specs.Prelude.{◌≡◌, ℕ, ◌≤◌, length, IsTrue}
use Rattle.row_types.specs.Bits.{IsDimension}
use Rattle.row_types.specs.declared.rows.Row.{Row}
use Rattle.coarse_lists.specs.declared.collections.Collection.{Collection}
use Rattle.coarse_lists.specs.Schemas.{is_schema, are_values}

abbrev pub IsWithin : ℕ → ℕ → ℕ → Type 0
IsWithin low high n = (low ≤ n) × (n ≤ high)

-- each number of the collection is in its range, and its columns are such as a collection may have
pub record IsInRange (collection : Collection) : Type 0 where
  pub dim : IsDimension collection.dim
  pub channels : IsWithin 1 16 collection.channels
  pub nodes : IsWithin 1 16 collection.nodes
  pub seal_rows : IsWithin 2 65536 collection.seal_rows
  pub schema : IsTrue (is_schema collection.schema.columns)

-- a row of the collection: its vector has the dimension, and its values are those of the columns
pub record IsRowOf (collection : Collection) (row : Row) : Type 0 where
  pub vector : length row.vector ≡ collection.dim
  pub fields : IsTrue (are_values collection.schema.columns row.fields)
