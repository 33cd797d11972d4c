use Rattle.std.proofs.Common.{◌≡◌, ◌+◌, ◌-◌, ◌≤◌, ℕ, nat_le, length, map, ap, ◌∙◌, arith}
use Rattle.std.specs.Arc.{arc_value}
use Rattle.std.specs.List.{count_by}
use Rattle.hybrid_time.specs.declared.times.Timestamp.{Timestamp}
use Rattle.binlog_format.specs.declared.objects.DeleteLog.{DeleteLog}
use Rattle.seg_sealed.specs.Marks.{mark_of}
use Rattle.seg_sealed.specs.Segments.{SealedSegment}
use Rattle.seg_sealed.specs.Parts.{shown_from}
use Rattle.channel_pieces.specs.Keeping.{outlives}
use Rattle.channel_pieces.specs.Fields.{Piece}
use Rattle.channel_pieces.proofs.KeepLaws.{kept_marked}
use Rattle.channel_pieces.proofs.sealed_pieces.SealedPiece.kept.Goals as goal

pub overflow_sub-result : goal.overflow_sub-result
overflow_sub-result c =
    let s : SealedSegment = arc_value c.self.inside.sealed in
    let marks : c.in_ok-log.log.marks ≡ map mark_of c.self.inside.marks.deaths = ap (λ (l : DeleteLog). l.marks) c.in_ok-log.ensures.log in
    let sum : count_by (outlives c.args.floor.0) (shown_from c.self.inside.marks.deaths 0 s.rows) + count_by (λ (mark : ℕ × Timestamp). nat_le mark.1.0 c.args.floor.0) c.in_ok-log.log.marks ≡ length s.rows =
    kept_marked c.args.floor.0 c.in_ok-log.log.marks c.self.inside.marks.deaths s.rows marks c.in_ok-log.ensures.rise c.self.invariant.marks_fit.now in
    let all : c.from.result ≡ length s.rows = c.from.ensures ∙ c.len.ensures ∙ ap (λ (z : SealedSegment). length z.rows) c.deref-2.ensures in
    let dead : c.count_dead-dead.result ≡ count_by (λ (mark : ℕ × Timestamp). nat_le mark.1.0 c.args.floor.0) c.in_ok-log.log.marks =
    c.count_dead-dead.ensures ∙ ap (count_by (λ (mark : ℕ × Timestamp). nat_le mark.1.0 c.args.floor.0)) c.as_slice.ensures in
    let less : c.count_dead-dead.result ≤ c.from.result = omega arith in
    less

pub returns : goal.returns
returns c =
    let s : SealedSegment = arc_value c.self.inside.sealed in
    let marks : c.in_ok-log.log.marks ≡ map mark_of c.self.inside.marks.deaths = ap (λ (l : DeleteLog). l.marks) c.in_ok-log.ensures.log in
    let sum : count_by (outlives c.args.floor.0) (shown_from c.self.inside.marks.deaths 0 s.rows) + count_by (λ (mark : ℕ × Timestamp). nat_le mark.1.0 c.args.floor.0) c.in_ok-log.log.marks ≡ length s.rows =
    kept_marked c.args.floor.0 c.in_ok-log.log.marks c.self.inside.marks.deaths s.rows marks c.in_ok-log.ensures.rise c.self.invariant.marks_fit.now in
    let all : c.from.result ≡ length s.rows = c.from.ensures ∙ c.len.ensures ∙ ap (λ (z : SealedSegment). length z.rows) c.deref-2.ensures in
    let dead : c.count_dead-dead.result ≡ count_by (λ (mark : ℕ × Timestamp). nat_le mark.1.0 c.args.floor.0) c.in_ok-log.log.marks =
    c.count_dead-dead.ensures ∙ ap (count_by (λ (mark : ℕ × Timestamp). nat_le mark.1.0 c.args.floor.0)) c.as_slice.ensures in
    let left : c.from.result - c.count_dead-dead.result ≡ count_by (outlives c.args.floor.0) (shown_from c.self.inside.marks.deaths 0 s.rows) = omega arith in
    left ∙ ap (λ (p : Piece). count_by (outlives c.args.floor.0) p.rows) c.self.view_is
