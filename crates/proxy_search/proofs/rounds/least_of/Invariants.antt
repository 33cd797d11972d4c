use Rattle.std.proofs.Common.{◌≡◌, take}
use Rattle.proxy_search.specs.Rounds.{least_after}
use Rattle.proxy_search.proofs.rounds.least_of.Given as goal

abbrev pub invariant-views : goal.invariant-views
invariant-views l = l.least.0 ≡ least_after l.fn.ts.0 (take l.view-index l.views)
