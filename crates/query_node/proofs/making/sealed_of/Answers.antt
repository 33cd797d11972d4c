use Rattle.std.proofs.Common.{sym}
use Rattle.seg_sealed.specs.Segments.{log_of}
use Rattle.query_node.proofs.making.sealed_of.Goals as goal

pub returns-in-Ok : goal.returns-in-Ok
returns-in-Ok c = λ s valid spells. c.of_log.ensures.back s valid (sym (c.in-Ok.ensures.only (log_of s) spells))
