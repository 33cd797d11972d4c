-- What refuses a call on a segment, by the homes that are found. Only proofs need it.
use Rattle.std.specs.Prelude.{ℕ, not, if◌then◌else◌, List, map, Option, Some, None}
use Rattle.std.specs.List.{list_any}
use Rattle.std.specs.Option.{option_map, option_or}
use Rattle.journal_model.specs.declared.notes.Home.{Home}
use Rattle.journal_model.specs.declared.notes.Home.TheVariants.{Leader, Node}
use Rattle.journal_model.specs.declared.refusals.MoveError.{MoveError}
use Rattle.journal_model.specs.declared.refusals.MoveError.TheVariants.{Gone, Already, NotThere, LastPlace}
use Rattle.journal_model.specs.Layouts.{Layout, is_home}
use Rattle.journal_model.specs.Lawful.{homes_in, is_there}
use Rattle.journal_model.specs.Refusals.{least_node, refused_if}
use Rattle.journal_model.specs.Views.{Shown}
use Rattle.seg_sealed.specs.Parts.{SegmentPart, shown_rows}
use Rattle.channel_pieces.specs.Pieces.{MarkedSegment, segment_in}
use Rattle.shard_core.specs.declared.pending.Pending.{Pending}
use Rattle.shard_core.specs.Lagging.{homes_with, is_there_with}

-- the homes of a segment that is there
abbrev pub found_in : Layout → ℕ → Option (List Home)
found_in layout number = if is_there layout number then Some (homes_in layout.segments number) else None

-- the same of pieces that lag behind
abbrev pub found_with : List MarkedSegment → List Pending → ℕ → Option (List Home)
found_with segments pending number = if is_there_with segments pending number then Some (homes_with segments pending number) else None

abbrev pub not_among : ℕ → List Home → Home → Option MoveError
not_among segment homes Leader = refused_if (not (list_any (is_home Leader) homes)) (Already segment (least_node homes))
not_among segment homes (Node node) = refused_if (not (list_any (is_home (Node node)) homes)) (NotThere segment node)

abbrev pub move_refused : ℕ → Option (List Home) → Home → Option MoveError
move_refused segment None from = Some (Gone segment)
move_refused segment (Some homes) from = not_among segment homes from

abbrev pub load_refused : ℕ → Option (List Home) → Home → ℕ → Option MoveError
load_refused segment None from node = Some (Gone segment)
load_refused segment (Some homes) from node = option_or (not_among segment homes from) (refused_if (list_any (is_home (Node node)) homes) (Already segment node))

-- of the beginning of a merge
abbrev pub on_nodes_refused : ℕ → Option (List Home) → Option MoveError
on_nodes_refused segment None = Some (Gone segment)
on_nodes_refused segment (Some homes) = refused_if (not (list_any (λ home. not (is_home Leader home)) homes)) (Gone segment)

abbrev pub release_refused : ℕ → Option (List Home) → ℕ → Option MoveError
release_refused segment None node = Some (Gone segment)
release_refused segment (Some homes) node =
    option_or (not_among segment homes (Node node)) (refused_if (not (list_any (λ home. not (is_home (Node node) home)) homes)) (LastPlace segment))

-- the rows of the segment with a number, if it is there, and those of parts that are lent
abbrev pub rows_found : List MarkedSegment → ℕ → Option (List Shown)
rows_found segments number = option_map (λ s. s.rows) (segment_in segments number)

abbrev pub found_of : List SegmentPart → List (Option (List Shown))
found_of parts = map (λ rows. Some rows) (map shown_rows parts)
