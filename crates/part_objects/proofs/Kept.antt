-- What a keeper has behind puts.
use Rattle.std.proofs.Common.{◌≡◌, ◌≢◌, ℕ, List, [], ◌∷◌, ◌++◌, ◌*◌, ◌+◌, Some, Bool, cond, refl, sym, ap, ◌∙◌, arith}
use Rattle.std.specs.List.{AllByRecursion}
use Rattle.std.specs.declared.option.Option.{Option}
use Rattle.std.specs.declared.option.Option.TheVariants.{None}
use Rattle.std.specs.Cmp.{unsigned_tied}
use Rattle.std.proofs.lemmas.Cmp.{nat_cmp_total}
use Rattle.std.proofs.lemmas.Bool.{eq-eqb, ne_eqb}
use Rattle.std.specs.FinMap as fin
use Rattle.binlog_format.specs.declared.objects.ListFile.{ListFile}
use Rattle.seg_sealed.specs.Parts.{SegmentPart}
use Rattle.manu_edge.specs.Objects.{Objects}
use Rattle.part_objects.specs.declared.objects.Object.{Object}
use Rattle.part_objects.specs.Spellings.{insert_object, delete_object, list_objects, objects_of}
use Rattle.part_objects.specs.Keeping.{Holds, IsOtherName, with_objects}

-- no two of these objects have one name
abbrev pub NamesApart : List Object → Type 0
NamesApart [] = Unit {0}
NamesApart (object ∷ objects) = IsOtherName objects object.name × NamesApart objects

-- putting some objects and then others is putting all
pub with_objects-append : (xs ys : List Object) (kept : Objects) → with_objects (xs ++ ys) kept ≡ with_objects ys (with_objects xs kept)
with_objects-append [] ys kept = refl
with_objects-append (x ∷ xs) ys kept = with_objects-append xs ys (fin.insert kept x.name x.bytes)

-- what is put under one name is found there, and what stood under another is still there
pub get_put : (kept : Objects) (name : ℕ) (bytes : List ℕ) → fin.get (fin.insert kept name bytes) name ≡ Some bytes
get_put kept name bytes =
    fin.get-insert nat_cmp_total kept name bytes name ∙ ap (λ (b : Bool). cond b (Some bytes) (fin.get kept name)) (unsigned_tied name name ∙ eq-eqb name name refl)

pub get_beside : (kept : Objects) (name : ℕ) (bytes : List ℕ) (other : ℕ) → name ≢ other → fin.get (fin.insert kept name bytes) other ≡ fin.get kept other
get_beside kept name bytes other apart =
    fin.get-insert nat_cmp_total kept name bytes other
    ∙ ap (λ (b : Bool). cond b (Some bytes) (fin.get kept other)) (unsigned_tied other name ∙ ne_eqb other name (λ e. apart (sym e)))

pub get_other : (xs : List Object) (kept : Objects) (name : ℕ) → IsOtherName xs name → fin.get (with_objects xs kept) name ≡ fin.get kept name
get_other [] kept name apart = refl
get_other (x ∷ xs) kept name apart = get_other xs (fin.insert kept x.name x.bytes) name apart.1 ∙ get_beside kept x.name x.bytes name apart.0

-- objects of different names are all kept
pub all_held : (xs : List Object) (kept : Objects) → NamesApart xs → Holds (fin.get (with_objects xs kept)) xs
all_held [] kept apart = tt
all_held (x ∷ xs) kept apart =
    (get_other xs (fin.insert kept x.name x.bytes) x.name apart.0 ∙ get_put kept x.name x.bytes, all_held xs (fin.insert kept x.name x.bytes) apart.1)

names_apart_with : (part : SegmentPart) (lists : Option ListFile) → NamesApart (insert_object part ∷ delete_object part ∷ list_objects part.sealed.number lists)
names_apart_with part None = (((λ e. omega arith), tt), (tt, tt))
names_apart_with part (Some file) = (((λ e. omega arith), ((λ e. omega arith), tt)), (((λ e. omega arith), tt), (tt, tt)))

-- the objects of a part have different names
pub names_apart : (part : SegmentPart) → NamesApart (objects_of part)
names_apart part = names_apart_with part part.sealed.lists
