-- What a search finds in the views of several channels.
use Rattle.std.specs.Prelude.{◌≡◌, ℕ, List, map}
use Rattle.std.specs.List.{AllByRecursion}
use Rattle.row_types.specs.declared.hits.Hit.{Hit}
use Rattle.row_types.specs.Hits.{least}
use Rattle.log_model.specs.declared.queries.Query.{Query}
use Rattle.log_model.specs.declared.queries.Plan.{Plan}
use Rattle.journal_model.specs.Lists.{joined}
use Rattle.journal_model.specs.Views.{Shown}
use Rattle.view_laws.specs.Found.{found_in}
use Rattle.channel_view.specs.Views.{ChannelView, view_in}

-- the k nearest of all that is found in the views
abbrev pub found_in_all : List ChannelView → ℕ → Plan → Query → List Hit
found_in_all views t plan query = least query.k (joined (map (λ view. found_in (view_in view) t plan query) views))

abbrev pub rows_in : ChannelView → List Shown
rows_in view = joined (view_in view).parts

-- the rows of all views, one view after another, each as often as it stands there
abbrev pub rows_in_all : List ChannelView → List Shown
rows_in_all views = joined (map rows_in views)

-- the views are of a collection of this dimension
abbrev pub AreOfDim : ℕ → List ChannelView → Type 0
AreOfDim dim views = AllByRecursion (λ view. dim ≡ view.collection.dim) views
