-- What fetching objects answers.
use Rattle.std.specs.Prelude.{◌≡◌, ◌≢◌, ◌⊎◌, ℕ, ◌≤◌, List, [], ◌∷◌, take, slice_get, Option, Some, None, Result, Ok, Err}
use Rattle.std.specs.Option.{IfSome}
use Rattle.std.specs.FinMap as fin
use Rattle.manu_edge.specs.Faults.{Rose}
use Rattle.manu_edge.specs.Objects.{Objects}
use Rattle.part_objects.specs.declared.objects.Object.{Object}
use Rattle.part_objects.specs.Keeping.{Given, IsIntact, Holds}
use Rattle.query_node.specs.declared.refusals.FetchError.{FetchError}
use Rattle.query_node.specs.declared.refusals.FetchError.TheVariants.{KeepFault, Lost, Damaged, Memory}

-- the first place at which bytes differ from those that are wanted, with what stands there on both sides, None behind an end
pub record IsFirstDifference (wanted found : List ℕ) (at : ℕ) (want got : Option ℕ) : Type 0 where
  pub same : take at wanted ≡ take at found
  pub want_is : want ≡ slice_get wanted at
  pub got_is : got ≡ slice_get found at
  pub differ : want ≢ got

-- an object is one of these, and those before it were got as they are spelled
abbrev pub IsReached : List Object → Given → Object → Type 0
IsReached [] given object = ⊥
IsReached (x ∷ xs) given object = (x ≡ object) ⊎ (IsIntact given x × IsReached xs given object)

-- the object of this name was reached
pub record Reaches (objects : List Object) (given : Given) (name : ℕ) : Type 0 where
  pub object : Object
  pub reached : IsReached objects given object
  pub named : object.name ≡ name

-- it was reached, and nothing was got
pub record IsLost (objects : List Object) (given : Given) (name : ℕ) : Type 0 where
  pub object : Object
  pub reached : IsReached objects given object
  pub named : object.name ≡ name
  pub nothing : given name ≡ None

-- it was reached, and other bytes were got
pub record IsDamaged (objects : List Object) (given : Given) (name at : ℕ) (want got : Option ℕ) : Type 0 where
  pub object : Object
  pub reached : IsReached objects given object
  pub named : object.name ≡ name
  pub bytes : List ℕ
  pub found : given name ≡ Some bytes
  pub first : IsFirstDifference object.bytes bytes at want got

-- objects are got in order, up to the first that is not got as it is spelled
abbrev pub Answers : {T : Type 0} → List Object → Given → Result T FetchError → Type 0
Answers objects given (Ok value) = Holds given objects
Answers objects given (Err (KeepFault name)) = Reaches objects given name
Answers objects given (Err (Lost name)) = IsLost objects given name
Answers objects given (Err (Damaged name at want got)) = IsDamaged objects given name at want got
Answers objects given (Err Memory) = Unit {0}

-- what a keeper gave is what it keeps, where it tells that
abbrev pub IsGivenBy : Option Objects → Given → Type 0
IsGivenBy kept given = IfSome kept (λ objects. (name : ℕ) → given name ≡ fin.get objects name)

-- the answer is the one for what the keeper gave
pub record Fetches {T : Type 0} (objects : List Object) (kept : Option Objects) (result : Result T FetchError) : Type 0 where
  pub given : Given
  pub told : IsGivenBy kept given
  pub answers : Answers objects given result

-- the answer speaks of no loss and no damage
abbrev pub IsUnharmed : {T : Type 0} → Result T FetchError → Type 0
IsUnharmed (Ok value) = Unit {0}
IsUnharmed (Err (KeepFault name)) = Unit {0}
IsUnharmed (Err (Lost name)) = ⊥
IsUnharmed (Err (Damaged name at want got)) = ⊥
IsUnharmed (Err Memory) = Unit {0}

-- a fact that is owed where the keeper failed
abbrev pub OnFault : {T : Type 0} → Result T FetchError → Type 0 → Type 0
OnFault (Ok value) P = Unit {0}
OnFault (Err (KeepFault name)) P = P
OnFault (Err (Lost name)) P = Unit {0}
OnFault (Err (Damaged name at want got)) P = Unit {0}
OnFault (Err Memory) P = Unit {0}

-- the count of faults never falls, and rose where the keeper failed
pub record HasFetchCause {T : Type 0} (before now : ℕ) (result : Result T FetchError) : Type 0 where
  pub later : before ≤ now
  pub failed : OnFault result (Rose before now)
