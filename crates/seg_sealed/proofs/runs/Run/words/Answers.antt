use Rattle.std.proofs.Common.{◌≡◌, ◌≤◌, ◌*◌, ◌-◌, length, map, take, drop, sym, ap, subst, ◌∙◌}
use Rattle.log_model.specs.Places.{IsColumn, width_of, vector_of}
use Rattle.seg_sealed.specs.Segments.{SealedSegment}
use Rattle.seg_sealed.specs.Runs.{RowRun, run_rows}
use Rattle.seg_sealed.proofs.RunLaws.{words_within, run_words}
use Rattle.seg_sealed.proofs.runs.Run.words.Goals as goal

pub windows-requires-clause-within : goal.windows-requires-clause-within
windows-requires-clause-within c =
    let s : SealedSegment = c.self.inside.sealed.now in
    subst (λ w. c.self.inside.to * w ≤ length c.words.result.now) (sym c.width-width.ensures) (words_within (width_of s.dim) c.self.inside.to s.rows c.words.result.now c.words.ensures c.self.invariant.within)

pub returns : goal.returns
returns c =
    let s : SealedSegment = c.self.inside.sealed.now in
    let window : c.windows.result.now ≡ take (c.self.inside.to * width_of s.dim - c.self.inside.from * width_of s.dim) (drop (c.self.inside.from * width_of s.dim) c.words.result.now) =
    c.windows.ensures ∙ ap (λ w. take (c.self.inside.to * w - c.self.inside.from * w) (drop (c.self.inside.from * w) c.words.result.now)) c.width-width.ensures in
    subst (λ (r : RowRun). IsColumn (width_of r.segment.dim) (map vector_of (run_rows r)) c.windows.result.now) c.self.view_is
    (run_words s.dim (record { segment = s; begin = c.self.inside.from; end = c.self.inside.to }) c.words.result.now c.windows.result.now c.words.ensures window)
