-- What storing objects leaves.
use Rattle.std.specs.Prelude.{◌≡◌, ◌⊎◌, ℕ, ◌≤◌, List, [], ◌∷◌, ◌++◌, Option, Result, Ok, Err}
use Rattle.std.specs.FinMap as fin
use Rattle.manu_edge.specs.Faults.{Rose}
use Rattle.manu_edge.specs.Objects.{Objects, WhereTold}
use Rattle.part_objects.specs.declared.objects.Object.{Object}
use Rattle.part_objects.specs.Keeping.{IsOtherName, with_objects}
use Rattle.data_index_node.specs.declared.refusals.FlushError.{FlushError}
use Rattle.data_index_node.specs.declared.refusals.FlushError.TheVariants.{KeepFault, Memory}

-- these objects were put, in turn, and nothing else changed
abbrev pub Puts : List Object → Option Objects → Option Objects → Type 0
Puts objects old new = WhereTold old new (λ before after. after ≡ with_objects objects before)

-- the object of this name failed: those before it were put, it was put or not, and nothing else changed
pub record FailsAt (objects : List Object) (name : ℕ) (old new : Option Objects) : Type 0 where
  pub before : List Object
  pub failed : Object
  pub after : List Object
  pub split : objects ≡ before ++ failed ∷ after
  pub named : failed.name ≡ name
  pub left : WhereTold old new (λ kept now. (now ≡ with_objects before kept) ⊎ (now ≡ with_objects (before ++ failed ∷ []) kept))

-- the first so many were put, and nothing else changed
pub record PutsSome (objects : List Object) (old new : Option Objects) : Type 0 where
  pub before : List Object
  pub after : List Object
  pub split : objects ≡ before ++ after
  pub left : Puts before old new

-- objects are stored in order, up to the first that fails
abbrev pub Stores : List Object → Option Objects → Option Objects → Result (Unit {0}) FlushError → Type 0
Stores objects old new (Ok done) = Puts objects old new
Stores objects old new (Err (KeepFault name)) = FailsAt objects name old new
Stores objects old new (Err Memory) = PutsSome objects old new

-- every name but those of these objects has what it had
abbrev pub LeavesOthers : List Object → Option Objects → Option Objects → Type 0
LeavesOthers objects old new = WhereTold old new (λ before after. (name : ℕ) → IsOtherName objects name → fin.get after name ≡ fin.get before name)

-- a fact that is owed where the keeper failed
abbrev pub OnFault : Result (Unit {0}) FlushError → Type 0 → Type 0
OnFault (Ok done) P = Unit {0}
OnFault (Err (KeepFault name)) P = P
OnFault (Err Memory) P = Unit {0}

-- the count of faults never falls, and rose where the keeper failed
pub record HasFlushCause (before now : ℕ) (result : Result (Unit {0}) FlushError) : Type 0 where
  pub later : before ≤ now
  pub failed : OnFault result (Rose before now)
