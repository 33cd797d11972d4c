-- Which parts are merged.
use Rattle.std.specs.Prelude.{◌≡◌, ◌⊎◌, ℕ, List, [], ◌∷◌, map}
use Rattle.std.specs.List.{AllByRecursion}
use Rattle.log_model.specs.Places.{Placed, PlacedBefore}
use Rattle.journal_model.specs.Lists.{joined}
use Rattle.seg_sealed.specs.Segments.{SealedSegment}
use Rattle.seg_sealed.specs.Parts.{SegmentPart}

-- a part with the dimension and the kinds of columns of another, and with deaths marked up to the same position
pub record IsLike (first part : SegmentPart) : Type 0 where
  pub dim : part.sealed.dim ≡ first.sealed.dim
  pub kinds : part.sealed.kinds ≡ first.sealed.kinds
  pub applied : part.applied ≡ first.applied

-- each part is like the first
abbrev pub AreAlike : List SegmentPart → Type 0
AreAlike [] = Unit {0}
AreAlike (first ∷ parts) = AllByRecursion (IsLike first) parts

-- of any two rows one may stand before the other: no position stands twice, and timestamps do not fall by position
abbrev pub AreInOrder : List Placed → Type 0
AreInOrder [] = Unit {0}
AreInOrder (x ∷ rows) = AllByRecursion (λ y. PlacedBefore x y ⊎ PlacedBefore y x) rows × AreInOrder rows

abbrev pub segment_of : SegmentPart → SealedSegment
segment_of part = part.sealed

abbrev pub rows_of : SegmentPart → List Placed
rows_of part = part.sealed.rows

-- the rows of parts, one part after another
abbrev pub all_rows : List SegmentPart → List Placed
all_rows parts = joined (map rows_of parts)

-- the position up to which deaths are marked in parts that are alike
abbrev pub applied_in : List SegmentPart → ℕ
applied_in [] = 0
applied_in (first ∷ parts) = first.applied
