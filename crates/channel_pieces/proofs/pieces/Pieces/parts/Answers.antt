use Rattle.std.proofs.Common.{List, Some, sym, subst, ◌∙◌}
use Rattle.std.specs.Arc.{arc_value}
use Rattle.std.specs.Global.{Vec}
use Rattle.std.specs.List.{AllByRecursion}
use Rattle.seg_sealed.specs.Parts.{SegmentPart}
use Rattle.channel_pieces.specs.Pieces.{MarkedLayout, HasShape}
use Rattle.channel_pieces.specs.Fields.{Piece, KeepsAll}
use Rattle.channel_pieces.proofs.pieces.Pieces.parts.Goals as goal

pub invariant_of-self-2 : goal.invariant_of-self-2
invariant_of-self-2 c =
    subst (λ (pieces : List Piece). KeepsAll c.self.inside.kinds c.self.inside.tail pieces c.self.inside.places (Some (arc_value c.in_ok-list.list))) (sym c.parts_of.ensures.same)
    (subst (λ (parts : Vec SegmentPart). KeepsAll c.self.inside.kinds c.self.inside.tail c.self.inside.segments.items c.self.inside.places (Some parts)) (sym c.in_ok-list.ensures.ok)
    (record {
      kept = c.self.invariant.kept;
      listed = record {
        rows_are = c.in_ok-parts.ensures.rows;
        shapes = c.in_ok-parts.ensures.shapes c.self.inside.tail.dim c.self.inside.kinds c.self.invariant.kept.pieces_fit;
      };
    }))

pub returns-clause-shapes : goal.returns-clause-shapes
returns-clause-shapes c =
    subst (λ (parts : Vec SegmentPart). AllByRecursion (HasShape c.args.self.now.dim c.args.self.now.kinds) parts.items) (sym (c.in_ok-shared.ensures ∙ c.in_ok-list.ensures.ok))
    (subst (λ (l : MarkedLayout). AllByRecursion (HasShape l.dim l.kinds) c.in_ok-parts.parts.items) c.self.view_is
    (c.in_ok-parts.ensures.shapes c.self.inside.tail.dim c.self.inside.kinds c.self.invariant.kept.pieces_fit))
