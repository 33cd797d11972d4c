use Rattle.std.proofs.Common.{◌≡◌, slice_get, ap, ◌∙◌, arith}
use Rattle.log_model.specs.Scans.{passes_filter}
use Rattle.flat_scan.proofs.MarkedRows.{shown-length, shown_if_first, if_map}
use Rattle.flat_scan.proofs.pieces.WholeTailRows.passes.Goals as goal

pub row_in-requires : goal.row_in-requires
row_in-requires c = omega (arith, c.requires, shown-length c.args.self.now.marks.now.deaths 0 c.args.self.now.tail.now.rows)

pub returns : goal.returns
returns c =
    shown_if_first (λ s. c.passes.result ≡ passes_filter c.args.query.now.filter s.row) c.args.self.now.marks.now.deaths c.args.self.now.tail.now.rows c.args.i
    (if_map (λ x. c.row_in.result.now ≡ x.row) (λ x. c.passes.result ≡ passes_filter c.args.query.now.filter x.row) (slice_get c.args.self.now.tail.now.rows c.args.i)
    (λ x e. c.passes.ensures ∙ ap (passes_filter c.args.query.now.filter) e) c.row_in.ensures)
