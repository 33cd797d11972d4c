-- The names of the objects that a part is stored as.
use Rattle.std.specs.Prelude.{ℕ, List, map}
use Rattle.seg_sealed.specs.Parts.{SegmentPart}
use Rattle.part_objects.specs.Spellings.{objects_of}

-- in the order in which they are stored and fetched
abbrev pub names_of : SegmentPart → List ℕ
names_of part = map (λ object. object.name) (objects_of part)
