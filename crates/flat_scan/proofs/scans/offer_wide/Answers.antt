use Rattle.std.proofs.Common.{◌≡◌, ◌*◌, length, ap, arith}
use Rattle.flat_scan.proofs.WordColumns.{column-length, holds_wide}
use Rattle.flat_scan.proofs.scans.offer_wide.Goals as goal

pub invariant_of-column-clause-few : goal.invariant_of-column-clause-few
invariant_of-column-clause-few g c = omega (arith, c.requires.query.packed.few, c.requires.query.packed.within)

pub invariant_of-column-clause-fits : goal.invariant_of-column-clause-fits
invariant_of-column-clause-fits g c =
    let long = column-length (length c.args.query.now) (g.R.Rows.shown c.args.rows.now) c.args.words.now c.requires.column in
    let count : c.len.result * length c.args.query.now ≡ length (g.R.Rows.shown c.args.rows.now) * length c.args.query.now = ap (λ n. n * length c.args.query.now) c.len.ensures in
    omega (arith, long, count)

pub offer_column-requires : goal.offer_column-requires
offer_column-requires g c = holds_wide c.args.asked.now.query.now (g.R.Rows.shown c.args.rows.now) c.len.result c.args.query.now c.args.words.now c.len.ensures c.requires.query c.requires.fits c.requires.column
