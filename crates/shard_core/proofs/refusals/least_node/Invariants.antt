use Rattle.std.proofs.Common.{◌≡◌, drop}
use Rattle.journal_model.specs.Refusals as refusals
use Rattle.shard_core.specs.Least.{least_after}
use Rattle.shard_core.proofs.refusals.least_node.Given as goal

abbrev pub invariant-homes : goal.invariant-homes
invariant-homes l = least_after l.least (drop l.home-index l.homes) ≡ refusals.least_node l.homes
