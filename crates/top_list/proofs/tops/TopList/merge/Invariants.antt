use Rattle.std.proofs.Common.{[], take}
use Rattle.top_list.specs.Kept.{Offered, hits_of}
use Rattle.top_list.proofs.tops.TopList.merge.Given as goal

abbrev pub invariant-lists : goal.invariant-lists
invariant-lists l = Offered (record { k = l.k; hits = [] }) l.gather (hits_of (take l.list-index l.lists))
