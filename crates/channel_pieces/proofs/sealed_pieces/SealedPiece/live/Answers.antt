use Rattle.std.proofs.Common.{◌≡◌, ◌+◌, ◌-◌, ◌≤◌, ◌++◌, length, ap, ◌∙◌, arith}
use Rattle.std.specs.Arc.{arc_value}
use Rattle.std.specs.List.{count_by}
use Rattle.seg_sealed.specs.Segments.{SealedSegment}
use Rattle.seg_sealed.specs.Parts.{shown_from}
use Rattle.channel_pieces.specs.Counting.{is_unmarked}
use Rattle.channel_pieces.specs.Fields.{Piece}
use Rattle.channel_pieces.proofs.CountLaws.{live_marked}
use Rattle.channel_pieces.proofs.sealed_pieces.SealedPiece.live.Goals as goal

pub overflow_sub-result : goal.overflow_sub-result
overflow_sub-result c =
    let s : SealedSegment = arc_value c.self.inside.sealed in
    let split : count_by is_unmarked (shown_from c.self.inside.marks.deaths 0 s.rows) + length c.self.inside.marks.deaths ≡ length s.rows =
    live_marked (c.deaths-deaths.result.sorted.now ++ c.deaths-deaths.result.latest.now) c.self.inside.marks.deaths s.rows c.deaths-deaths.ensures.all c.self.invariant.marks_fit.now in
    let all : c.from.result ≡ length s.rows = c.from.ensures ∙ c.len.ensures ∙ ap (λ (z : SealedSegment). length z.rows) c.deref.ensures in
    let dead : c.len-2.result ≡ length c.self.inside.marks.deaths = c.len-2.ensures in
    let less : c.len-2.result ≤ c.from.result = omega arith in
    less

pub returns : goal.returns
returns c =
    let s : SealedSegment = arc_value c.self.inside.sealed in
    let split : count_by is_unmarked (shown_from c.self.inside.marks.deaths 0 s.rows) + length c.self.inside.marks.deaths ≡ length s.rows =
    live_marked (c.deaths-deaths.result.sorted.now ++ c.deaths-deaths.result.latest.now) c.self.inside.marks.deaths s.rows c.deaths-deaths.ensures.all c.self.invariant.marks_fit.now in
    let all : c.from.result ≡ length s.rows = c.from.ensures ∙ c.len.ensures ∙ ap (λ (z : SealedSegment). length z.rows) c.deref.ensures in
    let dead : c.len-2.result ≡ length c.self.inside.marks.deaths = c.len-2.ensures in
    let live : c.from.result - c.len-2.result ≡ count_by is_unmarked (shown_from c.self.inside.marks.deaths 0 s.rows) = omega arith in
    live ∙ ap (λ (p : Piece). count_by is_unmarked p.rows) c.self.view_is
