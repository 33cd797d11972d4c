-- Rows without fields, in a collection without columns.
use Rattle.std.proofs.Common.{◌≡◌, List, [], ◌∷◌, length, sym, ap₂, ◌∙◌}
use Rattle.std.specs.List.{AllByRecursion}
use Rattle.coarse_lists.specs.declared.collections.Collection.{Collection}
use Rattle.coarse_lists.specs.Schemas.{are_values}
use Rattle.log_model.specs.Places.{Placed}
use Rattle.channel_view.specs.Views.{AreRowsOf}

pub rows_fit : (collection : Collection) (rows : List Placed) → collection.dim ≡ 8 → collection.schema.columns ≡ []
    → AllByRecursion (λ x. (length x.row.vector ≡ 8) × (x.row.fields ≡ [])) rows → AreRowsOf collection rows
rows_fit collection [] dim columns a = tt
rows_fit collection (x ∷ rows) dim columns a =
    let vector = a.0.0 in
    let fields = a.0.1 in
    (record { vector = vector ∙ sym dim; fields = ap₂ are_values columns fields }, rows_fit collection rows dim columns a.1)
