use Rattle.std.proofs.Common.{◌≡◌, arith}
use Rattle.journal_model.specs.Views.{is_visible}
use Rattle.flat_scan.proofs.MarkedRows.{shown-length, shown_if_first}
use Rattle.flat_scan.proofs.parts.PartRows.is_visible.Goals as goal

pub is_visible-requires : goal.is_visible-requires
is_visible-requires c = omega (arith, c.requires, shown-length c.args.self.now.deaths 0 c.args.self.now.sealed.rows)

pub returns : goal.returns
returns c = shown_if_first (λ s. c.is_visible.result ≡ is_visible c.args.ts.0 s) c.args.self.now.deaths c.args.self.now.sealed.rows c.args.i c.is_visible.ensures
