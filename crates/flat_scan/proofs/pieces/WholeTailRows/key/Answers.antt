use Rattle.std.proofs.Common.{◌≡◌, slice_get, ap, arith}
use Rattle.row_types.specs.declared.rows.Row.{Row}
use Rattle.flat_scan.proofs.MarkedRows.{shown-length, shown_if_first, if_map}
use Rattle.flat_scan.proofs.pieces.WholeTailRows.key.Goals as goal

pub row_in-requires : goal.row_in-requires
row_in-requires c = omega (arith, c.requires, shown-length c.args.self.now.marks.now.deaths 0 c.args.self.now.tail.now.rows)

pub returns : goal.returns
returns c =
    shown_if_first (λ s. c.row_in.result.now.key ≡ s.row.key) c.args.self.now.marks.now.deaths c.args.self.now.tail.now.rows c.args.i
    (if_map (λ x. c.row_in.result.now ≡ x.row) (λ x. c.row_in.result.now.key ≡ x.row.key) (slice_get c.args.self.now.tail.now.rows c.args.i) (λ x e. ap (λ (r : Row). r.key) e) c.row_in.ensures)
