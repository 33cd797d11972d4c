use Rattle.std.proofs.Common.{◌≡◌, ap, arith}
use Rattle.row_types.specs.declared.rows.Row.{Row}
use Rattle.flat_scan.proofs.MarkedRows.{shown-length, shown_if, row_if}
use Rattle.flat_scan.proofs.pieces.PieceRows.key.Goals as goal

pub row_of-requires : goal.row_of-requires
row_of-requires c = omega (arith, c.requires, shown-length c.args.self.now.marks.now.deaths c.args.self.now.from c.args.self.now.rows.now)

pub returns : goal.returns
returns c =
    shown_if (λ s. c.row_of.result.now.key ≡ s.row.key) c.args.self.now.marks.now.deaths c.args.self.now.from c.args.self.now.rows.now c.args.i
    (row_if (λ r. c.row_of.result.now.key ≡ r.key) c.args.self.now.rows.now c.args.i (ap (λ (r : Row). r.key) c.row_of.ensures))
