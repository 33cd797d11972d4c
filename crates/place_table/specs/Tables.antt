-- Which segments stand where.
use Rattle.std.specs.Prelude.{ℕ, ◌<◌, ◌≤◌, Bool, not, if◌then◌else◌, List, [], ◌∷◌, Option, Some, None, Result, Ok, Err}
use Rattle.std.specs.List.{list_any, sum_by}
use Rattle.std.specs.Ordering.{nat_cmp}
use Rattle.std.specs.FinMap as fin
use Rattle.journal_model.specs.declared.notes.Home.{Home}
use Rattle.journal_model.specs.declared.notes.Home.TheVariants.{Leader, Node}
use Rattle.journal_model.specs.Layouts.{is_home, homes_after_load, homes_after_release}
use Rattle.place_table.specs.declared.refusals.PlaceError.{PlaceError}
use Rattle.place_table.specs.declared.refusals.PlaceError.TheVariants.{Gone, Already, NotThere, LastPlace}

-- how many rows a segment has, and where it stands
pub record Placement : Type 0 where
  pub rows : ℕ
  pub homes : List Home

-- the number of nodes, and the segments that are known
pub record Table : Type 0 where
  pub nodes : ℕ
  pub segments : fin.FinMap nat_cmp Placement

abbrev pub no_segments : ℕ → Table
no_segments nodes = record { nodes = nodes; segments = fin.empty }

abbrev pub at_leader : ℕ → Placement
at_leader rows = record { rows = rows; homes = Leader ∷ [] }

abbrev pub is_on : ℕ → Placement → Bool
is_on node p = list_any (is_home (Node node)) p.homes

abbrev pub is_elsewhere : ℕ → Placement → Bool
is_elsewhere node p = list_any (λ home. not (is_home (Node node) home)) p.homes

-- ---- changes

abbrev pub with_homes : (List Home → List Home) → Placement → Placement
with_homes change p = record { rows = p.rows; homes = change p.homes }

abbrev pub rehomed_at : ℕ → (List Home → List Home) → fin.FinMap nat_cmp Placement → Option Placement → fin.FinMap nat_cmp Placement
rehomed_at segment change segments None = segments
rehomed_at segment change segments (Some p) = fin.insert segments segment (with_homes change p)

-- the homes of a segment change, where it is known
abbrev pub rehomed : ℕ → (List Home → List Home) → fin.FinMap nat_cmp Placement → fin.FinMap nat_cmp Placement
rehomed segment change segments = rehomed_at segment change segments (fin.get segments segment)

abbrev pub with_segments : Table → fin.FinMap nat_cmp Placement → Table
with_segments table segments = record { nodes = table.nodes; segments = segments }

abbrev pub with_added : Table → ℕ → ℕ → Table
with_added table segment rows = with_segments table (fin.insert table.segments segment (at_leader rows))

abbrev pub with_load : Table → ℕ → ℕ → Table
with_load table segment node = with_segments table (rehomed segment (homes_after_load node) table.segments)

abbrev pub with_release : Table → ℕ → ℕ → Table
with_release table segment node = with_segments table (rehomed segment (homes_after_release node) table.segments)

abbrev pub without : Table → ℕ → Table
without table segment = with_segments table (fin.remove table.segments segment)

-- ---- refusals

abbrev pub load_refused : ℕ → ℕ → Option Placement → Option PlaceError
load_refused segment node None = Some (Gone segment)
load_refused segment node (Some p) = if is_on node p then Some (Already segment node) else None

abbrev pub last_refused : ℕ → ℕ → Placement → Option PlaceError
last_refused segment node p = if is_elsewhere node p then None else Some (LastPlace segment)

abbrev pub release_refused : ℕ → ℕ → Option Placement → Option PlaceError
release_refused segment node None = Some (Gone segment)
release_refused segment node (Some p) = if is_on node p then last_refused segment node p else Some (NotThere segment node)

-- why a segment is not homes_after_load on a node, the first cause that holds
abbrev pub load_refusal : Table → ℕ → ℕ → Option PlaceError
load_refusal table segment node = load_refused segment node (fin.get table.segments segment)

-- why the place of a segment on a node is not taken away, the first cause that holds
abbrev pub release_refusal : Table → ℕ → ℕ → Option PlaceError
release_refusal table segment node = release_refused segment node (fin.get table.segments segment)

-- the answer of a call that is refused by nothing else
abbrev pub answer_of : Option PlaceError → Result (Unit {0}) PlaceError
answer_of None = Ok tt
answer_of (Some refusal) = Err refusal

-- ---- rows on nodes

abbrev pub rows_if : Bool → ℕ → ℕ
rows_if there rows = if there then rows else 0

-- the rows of the segments that stand on a node
abbrev pub rows_on : ℕ → fin.FinMap nat_cmp Placement → ℕ
rows_on node segments = sum_by (λ p. rows_if (is_on node p) p.rows) (fin.values segments)

-- the node with the fewest rows, and of several such nodes the least
pub record IsChosen (table : Table) (node : ℕ) : Type 0 where
  pub below : node < table.nodes
  pub fewest : (other : ℕ) → other < table.nodes → rows_on node table.segments ≤ rows_on other table.segments
  pub first : (other : ℕ) → other < node → rows_on node table.segments < rows_on other table.segments
