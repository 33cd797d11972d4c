use Rattle.std.proofs.Common.{◌≡◌, ap, ◌∙◌, arith}
use Rattle.log_model.specs.Scans.{passes_filter}
use Rattle.flat_scan.proofs.MarkedRows.{shown-length, shown_if, row_if}
use Rattle.flat_scan.proofs.pieces.PieceRows.passes.Goals as goal

pub row_of-requires : goal.row_of-requires
row_of-requires c = omega (arith, c.requires, shown-length c.args.self.now.marks.now.deaths c.args.self.now.from c.args.self.now.rows.now)

pub returns : goal.returns
returns c =
    shown_if (λ s. c.passes.result ≡ passes_filter c.args.query.now.filter s.row) c.args.self.now.marks.now.deaths c.args.self.now.from c.args.self.now.rows.now c.args.i
    (row_if (λ r. c.passes.result ≡ passes_filter c.args.query.now.filter r) c.args.self.now.rows.now c.args.i (c.passes.ensures ∙ ap (passes_filter c.args.query.now.filter) c.row_of.ensures))
