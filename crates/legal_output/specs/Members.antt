-- What logs and tails grew by, known by its members. Nothing here need be believed: it helps to keep what a phase owes.
use Rattle.std.specs.Prelude.{◌≡◌, ℕ, ℤ, ◌<◌, ◌⊎◌, List, [], ◌∷◌, map, ⊤}
use Rattle.std.specs.List.{AllByRecursion as Each}
use Rattle.log_model.specs.declared.logs.Entry.{Entry}
use Rattle.log_model.specs.Logs.{key_of}
use Rattle.legal_output.specs.Lines.{channel_of}
use Rattle.legal_output.specs.Printed.{Event}
use Rattle.legal_output.specs.Legal.{Differ}
use Rattle.legal_output.specs.Phases.{of_key}

abbrev pub IsIn : {X : Type 0} → X → List X → Type 0
IsIn x [] = ⊥
IsIn x (y ∷ ys) = (x ≡ y) ⊎ IsIn x ys

-- timestamps rise strictly
abbrev pub Rises : {X : Type 0} → (X → ℕ) → List X → Type 0
Rises ts_of [] = ⊤
Rises ts_of (x ∷ xs) = Each (λ y. ts_of x < ts_of y) xs × Rises ts_of xs

-- the logs grew by some entries, in whatever order these are told: of each key they rise, and each stands in the
-- log of its key's channel
pub record GrewByEntries (channels : ℕ) (more : ℕ → List Entry) (entries : List Entry) : Type 0 where
  pub rises : (key : ℤ) → Rises (λ entry. entry.ts.0) (of_key key (more (channel_of channels key)))
  pub differ : (key : ℤ) → Differ (map (λ entry. entry.ts.0) (of_key key entries))
  pub noted : (channel : ℕ) → Each (λ entry. IsIn entry entries) (more channel)
  pub written : Each (λ entry. IsIn entry (more (channel_of channels (key_of entry.write)))) entries

-- a tail's events grew by some events, in whatever order these are told
pub record GrewByEvents (more events : List Event) : Type 0 where
  pub rises : Rises (λ event. event.ts) more
  pub differ : Differ (map (λ event. event.ts) events)
  pub noted : Each (λ event. IsIn event events) more
  pub written : Each (λ event. IsIn event more) events
