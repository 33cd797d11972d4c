use Rattle.std.proofs.Common.{sym}
use Rattle.flat_scan.proofs.MarkedRows.{shown-length}
use Rattle.flat_scan.proofs.pieces.PieceRows.len.Goals as goal

pub returns : goal.returns
returns c = sym (shown-length c.args.self.now.marks.now.deaths c.args.self.now.from c.args.self.now.rows.now)
