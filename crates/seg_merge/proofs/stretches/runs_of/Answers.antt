use Rattle.std.proofs.Common.{◌≡◌, ◌≤◌, ◌+◌, List, length, sym, subst}
use Rattle.seg_sealed.specs.Segments.{SealedSegment}
use Rattle.seg_sealed.specs.Parts.{SegmentPart}
use Rattle.seg_sealed.specs.Runs.{RowRun}
use Rattle.seg_merge.specs.declared.kept.Kept.{Kept}
use Rattle.seg_merge.proofs.StretchLaws.{IsTaken, taken_front, taken_within, run_is, runs_next}
use Rattle.seg_merge.proofs.stretches.runs_of.Goals as goal

pub new-requires-clause-within : goal.new-requires-clause-within
new-requires-clause-within c =
    let parts : List SegmentPart = c.args.parts.now in
    let rest : List Kept = c.runs.rest.now in
    let first : Kept = c.in-Some.first.now in
    let part : SegmentPart = c.index-parts-first.result in
    let taken : IsTaken parts rest first c.stretch_len-count.result part =
    taken_front parts rest first c.stretch_len-count.result part c.runs.invariant.valid c.in-Some.ensures.value c.index-parts-first.is c.stretch_len-count.ensures.some c.stretch_len-count.ensures.within c.stretch_len-count.ensures.stretch in
    subst (λ (s : SealedSegment). first.row + c.stretch_len-count.result ≤ length s.rows) (sym c.sealed-sealed.ensures.sealed) (taken_within parts rest first c.stretch_len-count.result part c.runs.invariant.valid taken)

pub runs-preserved : goal.runs-preserved
runs-preserved c =
    let parts : List SegmentPart = c.args.parts.now in
    let rest : List Kept = c.runs.rest.now in
    let first : Kept = c.in-Some.first.now in
    let part : SegmentPart = c.index-parts-first.result in
    let count = c.stretch_len-count.result in
    let taken : IsTaken parts rest first c.stretch_len-count.result part =
    taken_front parts rest first c.stretch_len-count.result part c.runs.invariant.valid c.in-Some.ensures.value c.index-parts-first.is c.stretch_len-count.ensures.some c.stretch_len-count.ensures.within c.stretch_len-count.ensures.stretch in
    let run : c.new.result ≡ record { segment = part.sealed; begin = first.row; end = first.row + count } =
    run_is c.sealed-sealed.result.now part.sealed first.row (first.row + count) c.new.result c.new.ensures.segment c.sealed-sealed.ensures.sealed c.new.ensures.begin c.new.ensures.end in
    runs_next parts c.args.kept.now rest c.behind-rest.result.now c.runs.runs.items c.push.new.self.items first count part c.new.result c.runs.invariant taken run c.in_ok-push.ensures.items c.behind-rest.ensures
