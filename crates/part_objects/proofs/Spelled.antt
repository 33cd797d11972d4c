-- The objects have the bytes that spell the part.
use Rattle.std.proofs.Common.{◌≡◌, ℕ, ◌+◌, ◌-◌, ◌^◌, ◌<◌, ◌≤◌, List, [], ◌∷◌, length, map, Some, refl, sym, ap, subst, ◌∙◌, arith}
use Rattle.std.specs.List.{AllByRecursion}
use Rattle.std.specs.Option.{IfSome, option_map}
use Rattle.std.specs.declared.option.Option.{Option}
use Rattle.hybrid_time.specs.declared.times.Timestamp.{Timestamp}
use Rattle.binlog_format.specs.declared.objects.InsertLog.{InsertLog}
use Rattle.binlog_format.specs.declared.objects.DeleteLog.{DeleteLog}
use Rattle.binlog_format.specs.declared.objects.ListFile.{ListFile}
use Rattle.binlog_format.specs.Fields.{InTurn}
use Rattle.binlog_format.specs.Inserts.{SpellsInserts}
use Rattle.binlog_format.specs.Deletes.{SpellsDeletes, IsDeleteLog, IsMarkFrom, after_mark}
use Rattle.binlog_format.specs.Lists.{SpellsLists, IsListFile}
use Rattle.seg_sealed.specs.Segments.{SealedSegment, IsSealed, AreListsOf, log_of}
use Rattle.seg_sealed.specs.Marks.{RowsRise, mark_of, delete_log_of}
use Rattle.seg_sealed.specs.Parts.{SegmentPart, AreDeathsOf}
use Rattle.part_objects.specs.declared.objects.Object.{Object}
use Rattle.part_objects.specs.declared.names.ObjectKind.TheVariants as kind
use Rattle.part_objects.specs.Spellings.{name_of, insert_spelling, delete_spelling, list_spelling, insert_object, delete_object, list_object}

abbrev object : ℕ → List ℕ → Object
object name bytes = record { name = name; bytes = bytes }

same_object : (name bytes_name : ℕ) (bytes spelling : List ℕ) → name ≡ bytes_name → bytes ≡ spelling → object name bytes ≡ object bytes_name spelling
same_object name bytes_name bytes spelling e f = ap (λ (n : ℕ). object n bytes) e ∙ ap (object bytes_name) f

-- ---- the insert log

pub insert_spelled : (part : SegmentPart) (sealed : SealedSegment) (log : InsertLog) (bytes items : List ℕ) → sealed ≡ part.sealed → log ≡ log_of sealed → items ≡ bytes
    → SpellsInserts bytes log → SpellsInserts items (log_of part.sealed)
insert_spelled part sealed log bytes items a b e s =
    subst (λ (x : List ℕ). SpellsInserts x (log_of part.sealed)) (sym e) (subst (λ (l : InsertLog). SpellsInserts bytes l) (b ∙ ap log_of a) s)

pub insert_made : (part : SegmentPart) (name : ℕ) (items : List ℕ) → name ≡ name_of part.sealed.number kind.InsertLog → SpellsInserts items (log_of part.sealed)
    → object name items ≡ insert_object part
unfolding insert_spelling
insert_made part name items e s = same_object name (name_of part.sealed.number kind.InsertLog) items (insert_spelling part) e s.spelling

-- ---- the delete log

next_up : (row : ℕ) (marks : List (ℕ × Timestamp)) → AllByRecursion (λ later. row < later.0) marks → AllByRecursion (λ later. row + 1 ≤ later.0) marks
next_up row [] h = tt
next_up row (mark ∷ marks) h = (omega (arith, h.0), next_up row marks h.1)

marks_below : (rows : ℕ) (deaths : List (ℕ × ℕ)) → AreDeathsOf rows deaths → AllByRecursion (λ mark. mark.0 < rows) (map mark_of deaths)
marks_below rows [] h = tt
marks_below rows (death ∷ deaths) h = (h.0, marks_below rows deaths h.1)

marks_in_turn : (rows least : ℕ) (marks : List (ℕ × Timestamp)) → rows ≤ 65536 → RowsRise marks → AllByRecursion (λ mark. mark.0 < rows) marks
    → AllByRecursion (λ mark. least ≤ mark.0) marks → InTurn IsMarkFrom after_mark least marks
marks_in_turn rows least [] few rise below above = tt
marks_in_turn rows least (mark ∷ marks) few rise below above =
    ((omega (arith, below.0), above.0), marks_in_turn rows (mark.0 + 1) marks few rise.1 below.1 (next_up mark.0 marks rise.0))

marks_few : (rows least : ℕ) (marks : List (ℕ × Timestamp)) → RowsRise marks → AllByRecursion (λ mark. mark.0 < rows) marks
    → AllByRecursion (λ mark. least ≤ mark.0) marks → length marks ≤ rows - least
marks_few rows least [] rise below above = omega arith
marks_few rows least (mark ∷ marks) rise below above =
    let fewer = marks_few rows (mark.0 + 1) marks rise.1 below.1 (next_up mark.0 marks rise.0) in omega (arith, fewer, below.0, above.0)

all_from_zero : (marks : List (ℕ × Timestamp)) → AllByRecursion (λ mark. 0 ≤ mark.0) marks
all_from_zero [] = tt
all_from_zero (mark ∷ marks) = (omega arith, all_from_zero marks)

rules_of_marks : (segment applied rows : ℕ) (deaths : List (ℕ × ℕ)) → segment < 2 ^ 60 → rows ≤ 65536 → RowsRise (map mark_of deaths) → AreDeathsOf rows deaths
    → IsDeleteLog (delete_log_of segment applied deaths)
rules_of_marks segment applied rows deaths small few rise below =
    let under = marks_below rows deaths below in
    let above = all_from_zero (map mark_of deaths) in
    let count = marks_few rows 0 (map mark_of deaths) rise under above in
    record { segment = small; count = omega (arith, count, few); marks = marks_in_turn rows 0 (map mark_of deaths) few rise under above }

-- what is known of a part behind the calls that look at it
pub delete_valid : (log : DeleteLog) (sealed : SealedSegment) (number applied : ℕ) (deaths own : List (ℕ × ℕ)) → log ≡ delete_log_of number applied deaths → RowsRise log.marks
    → deaths ≡ own → AreDeathsOf (length sealed.rows) own → IsSealed sealed → number ≡ sealed.number → IsDeleteLog log
delete_valid log sealed number applied deaths own e rise same below valid named =
    let small : number < 2 ^ 60 = subst (λ (n : ℕ). n < 2 ^ 60) (sym named) valid.number in
    let rising : RowsRise (map mark_of deaths) = subst (λ (l : DeleteLog). RowsRise l.marks) e rise in
    let under : AreDeathsOf (length sealed.rows) deaths = subst (AreDeathsOf (length sealed.rows)) (sym same) below in
    subst IsDeleteLog (sym e) (rules_of_marks number applied (length sealed.rows) deaths small valid.few rising under)

pub delete_spelled : (part : SegmentPart) (number applied : ℕ) (deaths : List (ℕ × ℕ)) (log : DeleteLog) (bytes items : List ℕ) → number ≡ part.sealed.number → applied ≡ part.applied → deaths ≡ part.deaths
    → log ≡ delete_log_of number applied deaths → items ≡ bytes → SpellsDeletes bytes log → SpellsDeletes items (delete_log_of part.sealed.number part.applied part.deaths)
delete_spelled part number applied deaths log bytes items n a d e f s =
    let same : log ≡ delete_log_of part.sealed.number part.applied part.deaths
    = e ∙ ap (λ (k : ℕ). delete_log_of k applied deaths) n ∙ ap (λ (k : ℕ). delete_log_of part.sealed.number k deaths) a ∙ ap (delete_log_of part.sealed.number part.applied) d in
    subst (λ (x : List ℕ). SpellsDeletes x (delete_log_of part.sealed.number part.applied part.deaths)) (sym f) (subst (λ (l : DeleteLog). SpellsDeletes bytes l) same s)

pub delete_made : (part : SegmentPart) (name : ℕ) (items : List ℕ) → name ≡ name_of part.sealed.number kind.DeleteLog → SpellsDeletes items (delete_log_of part.sealed.number part.applied part.deaths)
    → object name items ≡ delete_object part
unfolding delete_spelling
delete_made part name items e s = same_object name (name_of part.sealed.number kind.DeleteLog) items (delete_spelling part) e s.spelling

-- ---- the list file

pub lists_valid : (sealed : SealedSegment) (file : ListFile) → IsSealed sealed → Some file ≡ sealed.lists → IsListFile file
lists_valid sealed file valid e =
    let lists : AreListsOf sealed.number (length sealed.rows) file = subst (λ (l : Option ListFile). IfSome l (AreListsOf sealed.number (length sealed.rows))) (sym e) valid.lists in
    lists.valid

pub list_made : (segment name : ℕ) (lists : Option ListFile) (file : ListFile) (bytes items : List ℕ) → name ≡ name_of segment kind.ListFile → items ≡ bytes → SpellsLists bytes file → Some file ≡ lists
    → Some (object name items) ≡ option_map (list_object segment) lists
unfolding list_spelling
list_made segment name lists file bytes items e f s same =
    ap Some (same_object name (name_of segment kind.ListFile) items (list_spelling file) e (f ∙ s.spelling)) ∙ ap (option_map (list_object segment)) same
