use Rattle.std.proofs.Common.{◌≡◌, ◌+◌, ◌*◌, ◌-◌, ◌≤◌, IfSome}
use Rattle.row_types.specs.Hits.{least}
use Rattle.top_list.specs.Kept.{IsBehindAll}
use Rattle.flat_scan.specs.Rows.{AreOffered}
use Rattle.flat_scan.proofs.scans.offer_fours.Given as goal

abbrev pub invariant-fours : goal.invariant-fours
invariant-fours g l = record {
  own : l.gather.hits ≡ least l.gather.k l.gather.hits;
  bar : IfSome l.bar.hit (IsBehindAll l.gather);
  within : l.from ≤ l.fours;
  offered : AreOffered l.asked.ts.0 l.asked.plan.now l.asked.query.now (g.R.Rows.shown l.rows) 0 (4 * l.from) l.fn.gather l.gather;
  steps : l.steps ≡ l.fn.steps + 4 * l.from;
}

abbrev pub decreases-fours : goal.decreases-fours
decreases-fours g l = l.fours - l.from
