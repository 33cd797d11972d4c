use Rattle.std.proofs.Common.{◌≡◌, arith}
use Rattle.log_model.specs.Scans.{passes_filter}
use Rattle.flat_scan.proofs.MarkedRows.{shown-length, shown_if_first}
use Rattle.flat_scan.proofs.parts.PartRows.passes.Goals as goal

pub passes-requires : goal.passes-requires
passes-requires c = omega (arith, c.requires, shown-length c.args.self.now.deaths 0 c.args.self.now.sealed.rows)

pub returns : goal.returns
returns c = shown_if_first (λ s. c.passes.result ≡ passes_filter c.args.query.now.filter s.row) c.args.self.now.deaths c.args.self.now.sealed.rows c.args.i c.passes.ensures
