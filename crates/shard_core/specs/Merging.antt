-- Merges of segments: what a merge that was begun tells, and what it has to do with its journal.
use Rattle.std.specs.Prelude.{◌≡◌, ℕ, ◌^◌, ◌<◌, ◌≤◌, List, [], ◌∷◌, ◌++◌, map, length, None}
use Rattle.std.specs.List.{AllByRecursion}
use Rattle.journal_model.specs.declared.notes.Note.{Note}
use Rattle.journal_model.specs.Layouts.{Channel, BegunMerge, sources_in, layout_of}
use Rattle.journal_model.specs.Lawful.{IsBegun}
use Rattle.journal_model.specs.Refusals.{begin_merge_refusal}
use Rattle.journal_model.specs.Views.{shown}
use Rattle.seg_sealed.specs.Parts.{SegmentPart, shown_rows, kept_rows}
use Rattle.seg_merge.specs.Merges.{AreAlike, AreInOrder, all_rows}

-- numbers that strictly rise
abbrev pub AreRising : List ℕ → Type 0
AreRising [] = Unit {0}
AreRising (n ∷ numbers) = AllByRecursion (λ m. n < m) numbers × AreRising numbers

-- a merge that was begun: the parts of its sources as they were lent, the number that it took, the seat that began
-- it, its floor, and how many notes the journal had then, its own among them
pub record BegunMerging : Type 0 where
  pub parts : List SegmentPart
  pub number : ℕ
  pub by : ℕ
  pub floor : ℕ
  pub begun : ℕ

abbrev pub sources_of : BegunMerging → List ℕ
sources_of m = map (λ part. part.sealed.number) m.parts

abbrev pub begun_as : BegunMerging → BegunMerge
begun_as m = record { number = m.number; by = m.by; floor = m.floor; at = m.begun }

-- the merge was begun behind the first of these notes, of which the last is its own: there its sources were on nodes,
-- and its parts stood for their pieces; and its parts can be merged
pub record IsMergingOf (channel : Channel) (notes : List Note) (m : BegunMerging) : Type 0 where
  pub before : List Note
  pub more : List Note
  pub is : notes ≡ before ++ more
  pub begun : m.begun ≡ length before
  pub taken : IsBegun before (begun_as m)
  pub rise : AreRising (sources_of m)
  pub some : 0 < length m.parts
  pub free : begin_merge_refusal (layout_of channel before) (sources_of m) ≡ None
  pub stands : map shown_rows m.parts ≡ map (λ s. map (shown before) s.piece) (sources_in (sources_of m) (layout_of channel before).segments)
  pub applied : AllByRecursion (λ part. part.applied ≡ m.begun) m.parts
  pub low : m.number < 2 ^ 60
  pub few : length (kept_rows m.floor m.parts) ≤ channel.seal_rows
  pub alike : AreAlike m.parts
  pub order : AreInOrder (all_rows m.parts)
