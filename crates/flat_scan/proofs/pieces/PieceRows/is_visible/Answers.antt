use Rattle.std.proofs.Common.{◌≡◌, arith}
use Rattle.journal_model.specs.Views.{is_visible}
use Rattle.flat_scan.proofs.MarkedRows.{shown-length, shown_if}
use Rattle.flat_scan.proofs.pieces.PieceRows.is_visible.Goals as goal

pub is_visible-requires : goal.is_visible-requires
is_visible-requires c = record { few = c.args.self.now.few; below = omega (arith, c.requires, shown-length c.args.self.now.marks.now.deaths c.args.self.now.from c.args.self.now.rows.now) }

pub returns : goal.returns
returns c = shown_if (λ s. c.is_visible.result ≡ is_visible c.args.ts.0 s) c.args.self.now.marks.now.deaths c.args.self.now.from c.args.self.now.rows.now c.args.i c.is_visible.ensures
