-- Moves of segments from one home to another: what a move that was begun tells, and what its commits do.
use Rattle.std.specs.Prelude.{◌≡◌, ℕ, ◌-◌, true, List, ◌++◌, length, drop, map, None}
use Rattle.journal_model.specs.declared.notes.Home.{Home}
use Rattle.journal_model.specs.declared.notes.Note.{Note}
use Rattle.journal_model.specs.Layouts.{Channel, Segment, layout_of}
use Rattle.journal_model.specs.Lists.{IsIn}
use Rattle.journal_model.specs.Refusals.{move_refusal}
use Rattle.journal_model.specs.Runs.{is_step}
use Rattle.journal_model.specs.Views.{StandsFor, advanced}
use Rattle.seg_sealed.specs.Parts.{SegmentPart, shown_rows}
use Rattle.channel_journal.specs.Notes.{with_note}
use Rattle.shard_core.specs.Shards.{ChannelShard}

-- a move that was begun: the part of the segment as it was lent, the home that it is from, and how many notes
-- the journal had
pub record BegunMove : Type 0 where
  pub part : SegmentPart
  pub home : Home
  pub begun : ℕ

-- the move was begun behind the first of these notes: there its part stood for the piece of its segment, and the
-- segment had the home
pub record IsMoveOf (channel : Channel) (notes : List Note) (m : BegunMove) : Type 0 where
  pub before : List Note
  pub more : List Note
  pub is : notes ≡ before ++ more
  pub begun : m.begun ≡ length before
  pub applied : m.part.applied ≡ m.begun
  pub free : move_refusal (layout_of channel before) m.part.sealed.number m.home ≡ None
  pub segment : Segment
  pub there : IsIn segment (layout_of channel before).segments
  pub number : segment.number ≡ m.part.sealed.number
  pub stands : StandsFor before (shown_rows m.part) segment.piece

-- a part has the number, the rows and the marks of another
pub record IsLike (part other : SegmentPart) : Type 0 where
  pub number : part.sealed.number ≡ other.sealed.number
  pub rows : part.sealed.rows ≡ other.sealed.rows
  pub deaths : part.deaths ≡ other.deaths

-- with the marks of the notes from a position on, the part stands for the piece of its segment
abbrev pub StandsAt : Channel → List Note → ℕ → SegmentPart → Type 0
StandsAt channel notes begun part = (s : Segment) → IsIn s (layout_of channel notes).segments → s.number ≡ part.sealed.number
    → StandsFor notes (map (advanced (drop begun notes)) (shown_rows part)) s.piece

-- a note that changes homes is a step of the core, and stands behind all others; the collection, the channel and the
-- floor stay, and at most one note less is taken without memory
pub record Commits (old new : ChannelShard) (note : Note) : Type 0 where
  pub step : is_step old.channel old.state note ≡ true
  pub state : new.state ≡ with_note old.state note
  pub collection : new.collection ≡ old.collection
  pub channel : new.channel ≡ old.channel
  pub spare : new.spare ≡ old.spare - 1
