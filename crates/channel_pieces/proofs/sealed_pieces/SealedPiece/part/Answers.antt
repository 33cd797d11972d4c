use Rattle.std.proofs.Common.{◌∙◌}
use Rattle.std.specs.Arc.{arc_value}
use Rattle.channel_pieces.proofs.MarkLaws.{piece_same}
use Rattle.channel_pieces.proofs.sealed_pieces.SealedPiece.part.Goals as goal

pub returns-clause-same : goal.returns-clause-same
returns-clause-same c = piece_same (arc_value c.self.inside.sealed) c.self.inside.marks c.new_part.new.marks c.self.inside.next c.new_part.ensures.same ∙ c.self.view_is
