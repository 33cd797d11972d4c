-- What a merge gives stands for its piece.
use Rattle.std.proofs.Common.{◌≡◌, ◌≤◌, ℕ, List, ◌++◌, None, true, length, map, drop, refl, sym, ap, ap₂, subst, ◌∙◌}
use Rattle.std.proofs.Math.Seq.{drop-append_seam}
use Rattle.journal_model.specs.declared.notes.Kind.TheVariants.{Merge}
use Rattle.journal_model.specs.declared.notes.Note.{Note}
use Rattle.journal_model.specs.Notes.{note_of}
use Rattle.journal_model.specs.Layouts.{Channel, sources_in, merged_piece, layout_of}
use Rattle.journal_model.specs.Lawful.{is_there, IsBegun, given_of}
use Rattle.journal_model.specs.Refusals.{is_on_node, merge_refusal}
use Rattle.journal_model.specs.Runs.{State, IsSound, is_step}
use Rattle.journal_model.specs.Views.{Shown, StandsFor, shown, advanced, merged_parts}
use Rattle.journal_model.proofs.CallLaws.{merge_step}
use Rattle.journal_model.proofs.PartLaws.{merged_stands}
use Rattle.journal_model.proofs.RefusalLaws.{none_without}
use Rattle.seg_sealed.specs.Parts.{SegmentPart, IsMergedPart, shown_rows, kept_rows}
use Rattle.shard_core.specs.Merging.{BegunMerging, IsMergingOf, sources_of, begun_as}
use Rattle.shard_core.proofs.CountLaws.{length_map}
use Rattle.shard_core.proofs.PlaceLaws.{on_nodes_there}

-- what a merge keeps of its parts stands for its piece while its sources are there, with the marks of all notes since it began
kept_at : (channel : Channel) (s : State) (m : BegunMerging) → IsSound channel s → IsMergingOf channel s.notes m → merge_refusal (layout_of channel s.notes) (sources_of m) ≡ None
    → StandsFor s.notes (map (advanced (drop m.begun s.notes)) (kept_rows m.floor m.parts)) (merged_piece s.notes (layout_of channel s.notes) (sources_of m) (begun_as m))
kept_at channel s m sound h none =
    let left : drop m.begun s.notes ≡ h.more = ap₂ drop h.begun h.is ∙ drop-append_seam h.before h.more in
    let rows : kept_rows m.floor m.parts ≡ merged_parts m.floor (map (λ t. map (shown h.before) t.piece) (sources_in (sources_of m) (layout_of channel h.before).segments)) = ap (merged_parts m.floor) h.stands in
    subst (λ ns. StandsFor ns (map (advanced (drop m.begun s.notes)) (kept_rows m.floor m.parts)) (merged_piece ns (layout_of channel ns) (sources_of m) (begun_as m))) (sym h.is)
    (subst (λ l. StandsFor (h.before ++ h.more) (map (advanced l) (kept_rows m.floor m.parts)) (merged_piece (h.before ++ h.more) (layout_of channel (h.before ++ h.more)) (sources_of m) (begun_as m))) (sym left)
    (subst (λ (rs : List Shown). StandsFor (h.before ++ h.more) (map (advanced h.more) rs) (merged_piece (h.before ++ h.more) (layout_of channel (h.before ++ h.more)) (sources_of m) (begun_as m))) (sym rows)
    (merged_stands channel s.floor h.before h.more (subst (λ (ns : List Note). IsSound channel (record { notes = ns; floor = s.floor })) h.is sound) (sources_of m) (begun_as m) h.begun
    (on_nodes_there (layout_of channel h.before) (sources_of m) (none_without (is_on_node (layout_of channel h.before)) (sources_of m) h.free))
    (none_without (is_there (layout_of channel (h.before ++ h.more))) (sources_of m) (subst (λ (ns : List Note). merge_refusal (layout_of channel ns) (sources_of m) ≡ None) h.is none)))))

pub merged_at : (channel : Channel) (s : State) (m : BegunMerging) (part : SegmentPart) → IsSound channel s → IsMergingOf channel s.notes m → IsMergedPart m.number m.begun m.floor m.parts part
    → merge_refusal (layout_of channel s.notes) (sources_of m) ≡ None
    → StandsFor s.notes (map (advanced (drop m.begun s.notes)) (shown_rows part)) (merged_piece s.notes (layout_of channel s.notes) (sources_of m) (begun_as m))
merged_at channel s m part sound h is none = ap (map (advanced (drop m.begun s.notes))) is.rows ∙ kept_at channel s m sound h none

-- ---- the note of its commit

same_length : (channel : Channel) (s : State) (m : BegunMerging) → IsSound channel s → IsMergingOf channel s.notes m → merge_refusal (layout_of channel s.notes) (sources_of m) ≡ None
    → length (merged_piece s.notes (layout_of channel s.notes) (sources_of m) (begun_as m)) ≡ length (kept_rows m.floor m.parts)
same_length channel s m sound h none =
    sym (sym (length_map (advanced (drop m.begun s.notes)) (kept_rows m.floor m.parts))
    ∙ ap length (kept_at channel s m sound h none)
    ∙ length_map (shown s.notes) (merged_piece s.notes (layout_of channel s.notes) (sources_of m) (begun_as m)))

-- it gives the segment exactly where rows are kept
pub commit_step : (channel : Channel) (s : State) (m : BegunMerging) (line node : ℕ) → IsSound channel s → IsMergingOf channel s.notes m → IsBegun s.notes (begun_as m) → merge_refusal (layout_of channel s.notes) (sources_of m) ≡ None
    → is_step channel s (note_of m.by line (Merge (sources_of m) (given_of m.number (length (kept_rows m.floor m.parts))) node)) ≡ true
commit_step channel s m line node sound h begun none =
    let e = same_length channel s m sound h none in
    subst (λ n. is_step channel s (note_of m.by line (Merge (sources_of m) (given_of m.number n) node)) ≡ true) e
    (merge_step channel s m.by line sound.lawful (begun_as m) begun refl (sources_of m) node none (subst (λ n. n ≤ channel.seal_rows) (sym e) h.few))
