-- What a look gives of a channel.
use Rattle.std.specs.Prelude.{◌≡◌, ℕ, ◌≤◌, List, ◌∷◌, length, map}
use Rattle.std.specs.List.{AllByRecursion}
use Rattle.coarse_lists.specs.declared.collections.Collection.{Collection}
use Rattle.coarse_lists.specs.Collections.{IsRowOf}
use Rattle.log_model.specs.Places.{Placed}
use Rattle.journal_model.specs.Views.{View}
use Rattle.growing_segment.specs.Tails.{Rows}
use Rattle.seg_sealed.specs.Parts.{SegmentPart, shown_from, shown_rows, AreDeathsOf}

-- a channel as a look found it: the timestamps from which and up to which it may be searched, the rows of the tail with
-- their deaths by row number, and a part for each place of a segment
pub record ChannelView : Type 0 where
  pub collection : Collection
  pub channel : ℕ
  pub floor : ℕ
  pub tick : ℕ
  pub tail : Rows
  pub deaths : List (ℕ × ℕ)
  pub parts : List SegmentPart

abbrev pub seen_as : Collection → ℕ → ℕ → ℕ → Rows → List (ℕ × ℕ) → List SegmentPart → ChannelView
seen_as collection channel floor tick tail deaths parts = record {
  collection = collection;
  channel = channel;
  floor = floor;
  tick = tick;
  tail = tail;
  deaths = deaths;
  parts = parts;
}

-- as the view of a journal: the tail's rows with their marks, and then those of each part
abbrev pub view_in : ChannelView → View
view_in v = record { floor = v.floor; tick = v.tick; parts = shown_from v.deaths 0 v.tail.rows ∷ map shown_rows v.parts }

-- all rows are such as stand in the collection
abbrev pub AreRowsOf : Collection → List Placed → Type 0
AreRowsOf collection rows = AllByRecursion (λ x. IsRowOf collection x.row) rows

-- what every view keeps
pub record IsChannelView (v : ChannelView) : Type 0 where
  pub order : v.floor ≤ v.tick
  pub dim : v.tail.dim ≡ v.collection.dim
  pub tail : AreRowsOf v.collection v.tail.rows
  pub deaths : AreDeathsOf (length v.tail.rows) v.deaths
  pub parts : AllByRecursion (λ part. AreRowsOf v.collection part.sealed.rows) v.parts
