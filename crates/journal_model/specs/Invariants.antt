-- What the proofs keep inside about every lawful journal, beside what makes a state sound: numbers stand once, a
-- merge that was begun has a number of its own, and no node has a segment twice. A reader of a view can skip it.
use Rattle.std.specs.Prelude.{◌≡◌, ◌≢◌, ℕ, ◌≤◌, ◌<◌, List, [], ◌∷◌, length}
use Rattle.std.specs.List.{AllByRecursion, count_by}
use Rattle.journal_model.specs.declared.notes.Home.{Home}
use Rattle.journal_model.specs.declared.notes.Home.TheVariants.{Node}
use Rattle.journal_model.specs.declared.notes.Note.{Note}
use Rattle.journal_model.specs.Layouts.{Channel, Layout, Segment, BegunMerge, number_at, is_home}
use Rattle.journal_model.specs.Runs.{IsConsistent, Rise, IsSegment, all_rows}

-- no node stands twice
unfoldable pub Once : List Home → Type 0
Once homes = (node : ℕ) → count_by (is_home (Node node)) homes ≤ 1

-- numbers rise along the segments, so none stands twice
abbrev pub NumbersRise : List Segment → Type 0
NumbersRise [] = Unit {0}
NumbersRise (s ∷ segments) = AllByRecursion (λ other. s.number < other.number) segments × NumbersRise segments

abbrev pub BegunRise : List BegunMerge → Type 0
BegunRise [] = Unit {0}
BegunRise (b ∷ begun) = AllByRecursion (λ other. b.number < other.number) begun × BegunRise begun

-- a number of the channel among the first that were taken
abbrev pub IsTaken : Channel → ℕ → ℕ → Type 0
IsTaken channel taken number = (n : ℕ) × (n < taken) × (number ≡ number_at channel n)

-- a taken number that no segment has
abbrev pub IsFresh : Channel → Layout → ℕ → Type 0
IsFresh channel layout number = IsTaken channel layout.taken number × AllByRecursion (λ s. s.number ≢ number) layout.segments

pub record Numbered (channel : Channel) (layout : Layout) : Type 0 where
  pub rise : NumbersRise layout.segments
  pub taken : AllByRecursion (λ s. IsTaken channel layout.taken s.number) layout.segments
  pub begun : BegunRise layout.begun
  pub fresh : AllByRecursion (λ b. IsFresh channel layout b.number) layout.begun

-- the rows are consistent, the segments and the tail are well formed, and each merge began within the journal, at most at the floor
pub record IsValid (notes : List Note) (floor : ℕ) (layout : Layout) : Type 0 where
  pub rows : IsConsistent notes floor (all_rows layout)
  pub segments : AllByRecursion IsSegment layout.segments
  pub tail : Rise layout.tail
  pub begun : AllByRecursion (λ b. (b.floor ≤ floor) × (b.at ≤ length notes)) layout.begun
