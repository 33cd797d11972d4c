-- Counts of faults, and what a failed call owes to them.
use Rattle.std.specs.Prelude.{◌≡◌, ℕ, ◌+◌, ◌-◌, ◌^◌, ◌≤◌, ◌==◌, min, Bool, Result, Ok, Err, OnErr, if◌then◌else◌}
use Rattle.std.specs.List.{list_any}
use Rattle.manu_edge.specs.declared.faults.KeepError.{KeepError}
use Rattle.manu_edge.specs.declared.faults.KeepError.TheVariants.{Failed, Memory}
use Rattle.manu_edge.specs.declared.faults.FailurePlan.{FailurePlan}

-- one more, in a count that stops at the greatest number of 64 bits
abbrev pub next : ℕ → ℕ
next count = min (count + 1) (2 ^ 64 - 1)

-- a count went up
abbrev pub Rose : ℕ → ℕ → Type 0
Rose before now = next before ≤ now

-- the count of faults never falls, and went up where the call failed
pub record HasCause {T E : Type 0} (before now : ℕ) (result : Result T E) : Type 0 where
  pub later : before ≤ now
  pub failed : OnErr result (Rose before now)

-- a fact that is owed where a call of a keeper failed, and not where it got no memory
abbrev pub OnFailed : {T : Type 0} → Result T KeepError → Type 0 → Type 0
OnFailed (Ok x) P = Unit {0}
OnFailed (Err Failed) P = P
OnFailed (Err Memory) P = Unit {0}

-- the same of a keeper
pub record HasKeepCause {T : Type 0} (before now : ℕ) (result : Result T KeepError) : Type 0 where
  pub later : before ≤ now
  pub failed : OnFailed result (Rose before now)

-- whether the next call is one that has to fail; calls are counted from 1
abbrev pub is_planned : FailurePlan → Bool
is_planned plan = list_any (λ number. number == next plan.calls) plan.failing.items

-- a call was counted, and where it failed a fault
pub record Counts (old new : FailurePlan) (failed : Bool) : Type 0 where
  pub calls : new.calls ≡ next old.calls
  pub faults : new.faults ≡ (if failed then next old.faults else old.faults)
  pub failing : new.failing.items ≡ old.failing.items
