use Rattle.std.proofs.Common.{◌≡◌, sym, subst}
use Rattle.row_types.specs.Hits.{least}
use Rattle.row_types.proofs.Least.{least-again}
use Rattle.top_list.specs.Kept.{Kept}
use Rattle.top_list.proofs.Fills.{Offered-none, Offered-next}
use Rattle.top_list.proofs.filling.Gather.offer_all.Goals as goal

pub loop-hit-init : goal.loop-hit-init
loop-hit-init c = Offered-none c.args.self.now (subst (λ (t : Kept). t.hits ≡ least t.k t.hits) c.self.view_is (sym (least-again c.self.inside.k c.self.inside.hits.items)))

pub loop-hit-preserved : goal.loop-hit-preserved
loop-hit-preserved c = Offered-next _ _ _ _ _ _ c.loop-hit.invariant c.loop-hit-test.true c.offer.ensures.k c.offer.ensures.hits
