-- The objects that a part is stored as: their names and their bytes.
use Rattle.std.specs.Prelude.{ℕ, ◌*◌, ◌+◌, List, [], ◌∷◌, Option, Some, None}
use Rattle.binlog_format.specs.declared.objects.ListFile.{ListFile}
use Rattle.binlog_format.specs.Inserts.{insert_bytes}
use Rattle.binlog_format.specs.Deletes.{delete_bytes}
use Rattle.binlog_format.specs.Lists.{list_file_bytes}
use Rattle.seg_sealed.specs.Segments.{log_of}
use Rattle.seg_sealed.specs.Marks.{delete_log_of}
use Rattle.seg_sealed.specs.Parts.{SegmentPart}
use Rattle.part_objects.specs.declared.objects.Object.{Object}
use Rattle.part_objects.specs.declared.names.ObjectKind.{ObjectKind}
use Rattle.part_objects.specs.declared.names.ObjectKind.TheVariants as kind

-- ---- names

abbrev pub kind_number : ObjectKind → ℕ
kind_number kind.InsertLog = 0
kind_number kind.DeleteLog = 1
kind_number kind.ListFile = 2

-- the name of a segment's object of a kind
abbrev pub name_of : ℕ → ObjectKind → ℕ
name_of segment kind = segment * 4 + kind_number kind

-- ---- spellings

-- the insert log of the rows
unfoldable pub insert_spelling : SegmentPart → List ℕ
insert_spelling part = insert_bytes (log_of part.sealed)

-- the delete log of the deaths
unfoldable pub delete_spelling : SegmentPart → List ℕ
delete_spelling part = delete_bytes (delete_log_of part.sealed.number part.applied part.deaths)

-- a list file
unfoldable pub list_spelling : ListFile → List ℕ
list_spelling file = list_file_bytes file

-- ---- objects

abbrev pub insert_object : SegmentPart → Object
insert_object part = record { name = name_of part.sealed.number kind.InsertLog; bytes = insert_spelling part }

abbrev pub delete_object : SegmentPart → Object
delete_object part = record { name = name_of part.sealed.number kind.DeleteLog; bytes = delete_spelling part }

abbrev pub list_object : ℕ → ListFile → Object
list_object segment file = record { name = name_of segment kind.ListFile; bytes = list_spelling file }

abbrev pub list_objects : ℕ → Option ListFile → List Object
list_objects segment None = []
list_objects segment (Some file) = list_object segment file ∷ []

-- the objects of a part, in the order in which they are stored and fetched
abbrev pub objects_of : SegmentPart → List Object
objects_of part = insert_object part ∷ delete_object part ∷ list_objects part.sealed.number part.sealed.lists
