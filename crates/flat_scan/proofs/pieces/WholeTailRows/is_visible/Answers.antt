use Rattle.std.proofs.Common.{◌≡◌, arith}
use Rattle.journal_model.specs.Views.{is_visible}
use Rattle.flat_scan.proofs.MarkedRows.{shown-length, shown_if_first}
use Rattle.flat_scan.proofs.pieces.WholeTailRows.is_visible.Goals as goal

pub is_shown-requires : goal.is_shown-requires
is_shown-requires c = omega (arith, c.requires, shown-length c.args.self.now.marks.now.deaths 0 c.args.self.now.tail.now.rows)

pub returns : goal.returns
returns c = shown_if_first (λ s. c.is_shown.result ≡ is_visible c.args.ts.0 s) c.args.self.now.marks.now.deaths c.args.self.now.tail.now.rows c.args.i c.is_shown.ensures
