use Rattle.std.proofs.Common.{length, sym, ap, ◌∙◌}
use Rattle.std.specs.Arc.{arc_value}
use Rattle.seg_sealed.specs.Segments.{SealedSegment}
use Rattle.channel_pieces.specs.Fields.{Piece}
use Rattle.channel_pieces.proofs.MarkLaws.{length-shown}
use Rattle.channel_pieces.proofs.sealed_pieces.SealedPiece.len.Goals as goal

pub returns : goal.returns
returns c =
    c.len.ensures ∙ ap (λ (s : SealedSegment). length s.rows) c.deref.ensures
    ∙ sym (length-shown c.self.inside.marks.deaths 0 (arc_value c.self.inside.sealed).rows)
    ∙ ap (λ (s : Piece). length s.rows) c.self.view_is
