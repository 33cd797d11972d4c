-- A journal and its floor: the steps that change them, and the states that every run keeps sound.
use Rattle.std.specs.Prelude.{◌≡◌, ℕ, ◌≤◌, ◌<◌, nat_eq, nat_le, Bool, true, false, ◌&&◌, if◌then◌else◌, List, [], ◌∷◌, ◌++◌, length, Some}
use Rattle.std.specs.List.{AllByRecursion, count_by}
use Rattle.log_model.specs.Places.{Placed}
use Rattle.journal_model.specs.declared.notes.Home.{Home}
use Rattle.journal_model.specs.declared.notes.Home.TheVariants.{Leader, Node}
use Rattle.journal_model.specs.declared.notes.Kind.{Kind}
use Rattle.journal_model.specs.declared.notes.Kind.TheVariants.{Number}
use Rattle.journal_model.specs.declared.notes.Note.{Note}
use Rattle.journal_model.specs.Notes.{tick_of}
use Rattle.journal_model.specs.Journals.{IsJournal, is_next}
use Rattle.journal_model.specs.Puts.{put_at, death, is_dead_by}
use Rattle.journal_model.specs.Layouts.{Channel, Layout, Segment, rows_in, layout_of}
use Rattle.journal_model.specs.Lawful.{is_lawful, IsLawful}
use Rattle.journal_model.specs.Lists.{IsIn}

-- ---- steps

-- the journal of a channel, and its floor
pub record State : Type 0 where
  pub notes : List Note
  pub floor : ℕ

-- a note is appended, or the floor is raised
pub data Act : Type 0 where
  Append : Note → Act
  Raise : ℕ → Act

-- a merge begins at the floor of the state
abbrev pub is_timely : ℕ → Kind → Bool
is_timely floor (Number segment begun) = nat_eq begun.0 floor
is_timely floor _ = true

-- the test of a note: it is in order and lawful, and its floor, if it has one, is the state's
abbrev pub is_step : Channel → State → Note → Bool
is_step channel s note = is_next s.notes note && (is_lawful channel s.notes note && is_timely s.floor note.kind)

-- the floor is raised up to the tick; an act whose test fails changes nothing
abbrev pub after_act : Channel → State → Act → State
after_act channel s (Append note) = if is_step channel s note then record { notes = s.notes ++ note ∷ []; floor = s.floor } else s
after_act channel s (Raise floor) = if nat_le s.floor floor && nat_le floor (tick_of s.notes) then record { notes = s.notes; floor = floor } else s

abbrev pub run : Channel → State → List Act → State
run channel s [] = s
run channel s (act ∷ acts) = run channel (after_act channel s act) acts

-- ---- rows against the journal

-- correct: each row is that of an effective put at its position
abbrev pub AreCorrect : List Note → List Placed → Type 0
AreCorrect notes rows = (x : Placed) → IsIn x rows → put_at notes x.position ≡ Some x

-- cover: each put row that is not dead at or before the floor is among these
abbrev pub Cover : List Note → ℕ → List Placed → Type 0
Cover notes floor rows = (x : Placed) → put_at notes x.position ≡ Some x → is_dead_by floor (death notes x) ≡ false → IsIn x rows

-- apart: no position stands twice
abbrev pub AreApart : List Placed → Type 0
AreApart rows = (position : ℕ) → count_by (λ x. nat_eq x.position position) rows ≤ 1

pub record IsConsistent (notes : List Note) (floor : ℕ) (rows : List Placed) : Type 0 where
  pub correct : AreCorrect notes rows
  pub cover : Cover notes floor rows
  pub apart : AreApart rows

-- the rows of all segments and of the tail
abbrev pub all_rows : Layout → List Placed
all_rows layout = rows_in layout.segments ++ layout.tail

-- ---- pieces and homes

-- positions rise
abbrev pub Rise : List Placed → Type 0
Rise [] = Unit {0}
Rise (x ∷ xs) = AllByRecursion (λ y. x.position < y.position) xs × Rise xs

abbrev pub IsNode : Home → Type 0
IsNode Leader = ⊥
IsNode (Node node) = Unit {0}

-- at least one home, and the leader only as the sole one
abbrev pub AreHomes : List Home → Type 0
AreHomes [] = ⊥
AreHomes (Leader ∷ homes) = homes ≡ []
AreHomes (Node node ∷ homes) = AllByRecursion IsNode homes

-- a segment has a home, and at least one row
pub record IsSegment (s : Segment) : Type 0 where
  pub homes : AreHomes s.homes
  pub rises : Rise s.piece
  pub some : 0 < length s.piece

-- ---- sound states

-- the floor of a Number note is up to this
abbrev pub IsFloorUpTo : ℕ → Kind → Type 0
IsFloorUpTo floor (Number segment begun) = begun.0 ≤ floor
IsFloorUpTo floor _ = Unit {0}

-- no merge began above the floor
abbrev pub FloorsUpTo : ℕ → List Note → Type 0
FloorsUpTo floor notes = AllByRecursion (λ note. IsFloorUpTo floor note.kind) notes

-- the journal is in order and lawful, no merge began above the floor, and the floor is up to the tick; tail and
-- pieces are correct, cover and are apart, each rises, and each segment has its homes
pub record IsSound (channel : Channel) (s : State) : Type 0 where
  pub journal : IsJournal s.notes
  pub lawful : IsLawful channel s.notes
  pub floors : FloorsUpTo s.floor s.notes
  pub floor : s.floor ≤ tick_of s.notes
  pub rows : IsConsistent s.notes s.floor (all_rows (layout_of channel s.notes))
  pub segments : AllByRecursion IsSegment (layout_of channel s.notes).segments
  pub tail : Rise (layout_of channel s.notes).tail
