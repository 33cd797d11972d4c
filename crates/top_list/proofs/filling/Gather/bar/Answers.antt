use Rattle.std.proofs.Common.{◌≡◌, IfSome, sym, subst}
use Rattle.row_types.specs.Hits.{least}
use Rattle.row_types.proofs.Least.{least-again}
use Rattle.top_list.specs.Kept.{Kept, IsBehindAll}
use Rattle.top_list.proofs.Fills.{behind_bar}
use Rattle.top_list.proofs.filling.Gather.bar.Goals as goal

pub returns-clause-own : goal.returns-clause-own
returns-clause-own c = subst (λ (t : Kept). t.hits ≡ least t.k t.hits) c.self.view_is (sym (least-again c.self.inside.k c.self.inside.hits.items))

pub returns-clause-behind : goal.returns-clause-behind
returns-clause-behind c = subst (λ (t : Kept). IfSome c.self.inside.last (IsBehindAll t)) c.self.view_is (behind_bar _ _ _ c.self.invariant.last)
