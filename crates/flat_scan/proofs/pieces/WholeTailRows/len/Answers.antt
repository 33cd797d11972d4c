use Rattle.std.proofs.Common.{sym, ◌∙◌}
use Rattle.flat_scan.proofs.MarkedRows.{shown-length}
use Rattle.flat_scan.proofs.pieces.WholeTailRows.len.Goals as goal

pub returns : goal.returns
returns c = c.len.ensures ∙ sym (shown-length c.args.self.now.marks.now.deaths 0 c.args.self.now.tail.now.rows)
