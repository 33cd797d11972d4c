use Rattle.std.proofs.Common.{◌≡◌, ◌+◌, ◌*◌, IfSome}
use Rattle.row_types.specs.Hits.{least}
use Rattle.top_list.specs.Kept.{IsBehindAll}
use Rattle.flat_scan.specs.Rows.{AreOffered, shown_at}
use Rattle.flat_scan.proofs.scans.offer_four.Given as goal

abbrev pub ghost-offer_near : goal.ghost-offer_near
ghost-offer_near g a = shown_at (g.R.Rows.shown a.rows.now) a.near.i

abbrev pub invariant-four : goal.invariant-four
invariant-four g l = record {
  own : l.gather.hits ≡ least l.gather.k l.gather.hits;
  bar : IfSome l.bar.hit (IsBehindAll l.gather);
  offered : AreOffered l.asked.ts.0 l.asked.plan.now l.asked.query.now (g.R.Rows.shown l.rows) (4 * l.four.turn) (4 * l.four.turn + l.j) l.fn.gather l.gather;
}
