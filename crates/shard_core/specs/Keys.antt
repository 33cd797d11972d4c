-- Which channel a key belongs to, and which notes a channel has.
use Rattle.std.specs.Prelude.{◌≡◌, ℕ, ℤ, pos, List, unsigned_abs}
use Rattle.std.specs.Int.{int_rem_euclid}
use Rattle.std.specs.List.{AllByRecursion}
use Rattle.coarse_lists.specs.declared.collections.Collection.{Collection}
use Rattle.coarse_lists.specs.Collections.{IsRowOf}
use Rattle.journal_model.specs.declared.notes.Kind.{Kind}
use Rattle.journal_model.specs.declared.notes.Kind.TheVariants.{Put, Remove}
use Rattle.journal_model.specs.declared.notes.Note.{Note}

-- the channel of a key
abbrev pub channel_of : ℕ → ℤ → ℕ
channel_of channels key = unsigned_abs (int_rem_euclid key (pos channels))

-- a put is of a row of the collection
abbrev pub IsPutIn : Collection → Kind → Type 0
IsPutIn collection (Put ts how row) = IsRowOf collection row
IsPutIn collection _ = Unit {0}

-- a put and a remove are of a key of the channel
abbrev pub IsKeyIn : ℕ → ℕ → Kind → Type 0
IsKeyIn channels channel (Put ts how row) = channel_of channels row.key.0 ≡ channel
IsKeyIn channels channel (Remove ts key) = channel_of channels key.0 ≡ channel
IsKeyIn channels channel _ = Unit {0}

abbrev pub ArePutsIn : Collection → List Note → Type 0
ArePutsIn collection notes = AllByRecursion (λ note. IsPutIn collection note.kind) notes

abbrev pub AreKeysIn : ℕ → ℕ → List Note → Type 0
AreKeysIn channels channel notes = AllByRecursion (λ note. IsKeyIn channels channel note.kind) notes
