-- What pieces that are brought up say of a segment that a call names.
use Rattle.std.proofs.Common.{◌≡◌, ℕ, Bool, true, false, not, List, [], map, length, Some, None, refl, sym, ap, subst, ◌∙◌, append-nil}
use Rattle.std.specs.Prelude.{is_some}
use Rattle.std.specs.List.{list_any}
use Rattle.std.specs.Option.{option_map}
use Rattle.std.proofs.lemmas.Bool.{and_parts}
use Rattle.journal_model.specs.declared.notes.Home.{Home}
use Rattle.journal_model.specs.declared.notes.Home.TheVariants.{Node}
use Rattle.journal_model.specs.declared.notes.Note.{Note}
use Rattle.journal_model.specs.Layouts.{Channel, is_home, layout_of}
use Rattle.journal_model.specs.Lawful as lawful
use Rattle.journal_model.specs.Lawful.{is_there, homes_in}
use Rattle.journal_model.specs.Refusals.{move_refusal, load_refusal, release_refusal}
use Rattle.journal_model.specs.Views.{shown}
use Rattle.journal_model.proofs.RefusalLaws.{load_allowed, release_allowed}
use Rattle.seg_sealed.specs.Parts.{SegmentPart, shown_rows}
use Rattle.channel_pieces.specs.Pieces.{MarkedSegment, MarkedLayout, segment_in, is_at, is_elsewhere}
use Rattle.shard_core.specs.Shelves.{Shelves, shelf_of, shelves_of, shelves_in_pieces}
use Rattle.shard_core.specs.Moves.{IsMoveOf}
use Rattle.shard_core.proofs.PlaceLaws.{there_moved, there_loaded, there_released, is_shown, homes_told}

not_true : (b : Bool) → not b ≡ true → b ≡ false
not_true true e = cc
not_true false e = refl

module _ (channel : Channel) (notes : List Note) (pieces : MarkedLayout) (shows : shelves_in_pieces pieces ≡ shelves_of channel notes) where
  segments_are : pieces.segments ≡ map (shelf_of notes) (layout_of channel notes).segments
  segments_are = ap (λ (z : Shelves). z.segments) shows

  -- a segment that is moved is one of the pieces
  pub moved_there : (segment : ℕ) (from : Home) → move_refusal (layout_of channel notes) segment from ≡ None → is_some (segment_in pieces.segments segment) ≡ true
  moved_there segment from free =
      ap (λ (l : List MarkedSegment). is_some (segment_in l segment)) segments_are
      ∙ ap is_some (is_shown notes (layout_of channel notes).segments segment (there_moved (layout_of channel notes) segment from free)).is

  -- its part is that of a move which begins here
  pub move_begun : (segment : ℕ) (from : Home) (begun : ℕ) (part : SegmentPart) → move_refusal (layout_of channel notes) segment from ≡ None → begun ≡ length notes
      → Some (shown_rows part) ≡ option_map (λ (s : MarkedSegment). s.rows) (segment_in pieces.segments segment) → part.sealed.number ≡ segment → part.applied ≡ begun
      → IsMoveOf channel notes (record { part = part; home = from; begun = begun })
  move_begun segment from begun part free len rows number applied =
      let s = is_shown notes (layout_of channel notes).segments segment (there_moved (layout_of channel notes) segment from free) in
      let all : Some (shown_rows part) ≡ Some (map (shown notes) s.segment.piece) =
      rows ∙ ap (λ (l : List MarkedSegment). option_map (λ (z : MarkedSegment). z.rows) (segment_in l segment)) segments_are ∙ ap (option_map (λ (z : MarkedSegment). z.rows)) s.is in
      record {
        before = notes;
        more = [];
        is = sym (append-nil notes);
        begun = len;
        applied = applied;
        free = subst (λ n. move_refusal (layout_of channel notes) n from ≡ None) (sym number) free;
        segment = s.segment;
        there = s.there;
        number = s.same ∙ sym number;
        stands = cc;
      }

  told : (segment : ℕ) (test : List Home → Bool) (b : Bool) → is_there (layout_of channel notes) segment ≡ true → test (homes_in (layout_of channel notes).segments segment) ≡ b
      → option_map (λ (s : MarkedSegment). test s.homes) (segment_in pieces.segments segment) ≡ Some b
  told segment test b there is =
      ap (λ (l : List MarkedSegment). option_map (λ (s : MarkedSegment). test s.homes) (segment_in l segment)) segments_are
      ∙ homes_told notes (layout_of channel notes).segments segment test b there is

  pub loaded_elsewhere : (segment : ℕ) (from : Home) (node : ℕ) → load_refusal (layout_of channel notes) segment from node ≡ None → option_map (is_at (Node node)) (segment_in pieces.segments segment) ≡ Some false
  loaded_elsewhere segment from node free =
      let there = there_loaded (layout_of channel notes) segment from node free in
      let allowed = and_parts (is_there (layout_of channel notes) segment) (not (lawful.is_at (layout_of channel notes) segment (Node node))) (load_allowed channel notes 0 (layout_of channel notes) segment from node free) in
      told segment (list_any (is_home (Node node))) false there (not_true (lawful.is_at (layout_of channel notes) segment (Node node)) allowed.1)

  pub released_there : (segment node : ℕ) → release_refusal (layout_of channel notes) segment node ≡ None → option_map (is_at (Node node)) (segment_in pieces.segments segment) ≡ Some true
  released_there segment node free =
      told segment (list_any (is_home (Node node))) true (there_released (layout_of channel notes) segment node free)
      (and_parts (lawful.is_at (layout_of channel notes) segment (Node node)) (lawful.is_elsewhere (layout_of channel notes) segment node) (release_allowed channel notes 0 (layout_of channel notes) segment node free)).0

  pub released_elsewhere : (segment node : ℕ) → release_refusal (layout_of channel notes) segment node ≡ None → option_map (is_elsewhere (Node node)) (segment_in pieces.segments segment) ≡ Some true
  released_elsewhere segment node free =
      told segment (list_any (λ home. not (is_home (Node node) home))) true (there_released (layout_of channel notes) segment node free)
      (and_parts (lawful.is_at (layout_of channel notes) segment (Node node)) (lawful.is_elsewhere (layout_of channel notes) segment node) (release_allowed channel notes 0 (layout_of channel notes) segment node free)).1
