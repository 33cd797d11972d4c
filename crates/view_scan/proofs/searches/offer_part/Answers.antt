use Rattle.std.proofs.Common.{subst, arith}
use Rattle.seg_sealed.specs.Segments.{IsSealed}
use Rattle.flat_scan.proofs.MarkedRows.{shown-length}
use Rattle.view_scan.proofs.Found.{dim_same}
use Rattle.view_scan.proofs.searches.offer_part.Goals as goal

pub scan-requires : goal.scan-requires
scan-requires g c =
    let s = c.args.part.now.sealed in
    let own : IsSealed s = subst IsSealed c.sealed.ensures.sealed c.number-number.ensures.sealed in
    dim_same _ s.dim s.kinds s.rows own.some own.rows c.requires

pub returns-clause-steps : goal.returns-clause-steps
returns-clause-steps g c = omega (arith, c.scan.ensures.steps, shown-length c.args.part.now.deaths 0 c.args.part.now.sealed.rows)
