-- What a keeper has of some objects.
use Rattle.std.specs.Prelude.{◌≡◌, ◌≢◌, ℕ, List, [], ◌∷◌, Option, Some}
use Rattle.std.specs.List.{AllByRecursion}
use Rattle.std.specs.FinMap as fin
use Rattle.manu_edge.specs.Objects.{Objects}
use Rattle.part_objects.specs.declared.objects.Object.{Object}

-- the bytes under each name, if there are any
abbrev pub Given : Type 0
Given = ℕ → Option (List ℕ)

-- an object stands under its name as it is spelled
abbrev pub IsIntact : Given → Object → Type 0
IsIntact given object = given object.name ≡ Some object.bytes

-- each of these objects does
abbrev pub Holds : Given → List Object → Type 0
Holds given objects = AllByRecursion (IsIntact given) objects

-- a name that none of these objects has
abbrev pub IsOtherName : List Object → ℕ → Type 0
IsOtherName objects name = AllByRecursion (λ object. object.name ≢ name) objects

-- what is kept with these objects put in, in turn
abbrev pub with_objects : List Object → Objects → Objects
with_objects [] kept = kept
with_objects (object ∷ objects) kept = with_objects objects (fin.insert kept object.name object.bytes)
