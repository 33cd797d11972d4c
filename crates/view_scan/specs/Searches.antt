-- What a search of a channel's view asks of it.
use Rattle.std.specs.Prelude.{◌≡◌, ℕ, List, length}
use Rattle.std.specs.List.{AllByRecursion}
use Rattle.coarse_lists.specs.declared.collections.Collection.{Collection}
use Rattle.log_model.specs.declared.queries.Plan.{Plan}
use Rattle.log_model.specs.Places.{Placed}

-- how a collection is searched
abbrev pub plan_of : Collection → Plan
plan_of collection = record { metric = collection.metric }

-- all vectors have this dimension
abbrev pub HaveVectorsOf : ℕ → List Placed → Type 0
HaveVectorsOf dim rows = AllByRecursion (λ x. length x.row.vector ≡ dim) rows
