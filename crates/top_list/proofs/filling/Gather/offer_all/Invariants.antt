use Rattle.std.proofs.Common.{take}
use Rattle.top_list.specs.Kept.{Offered}
use Rattle.top_list.proofs.filling.Gather.offer_all.Given as goal

abbrev pub invariant-loop-hit : goal.invariant-loop-hit
invariant-loop-hit l = Offered l.fn.self l.self (take l.hit-index l.hits)
