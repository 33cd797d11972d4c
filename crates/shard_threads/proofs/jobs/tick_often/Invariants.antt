use Rattle.std.specs.Prelude.{◌≡◌, ◌++◌, List, length}
use Rattle.shard_calls.specs.Fronts.{Spends}
use Rattle.shard_threads.specs.Jobs.{Ticked}
use Rattle.shard_threads.proofs.jobs.tick_often.Given as goal

abbrev pub invariant-loop : goal.invariant-loop
invariant-loop g l = (numbers : List _) × Ticked l.call.line l.channel numbers l.initial.seat l.seat × (length numbers ≡ l.counter) × (l.answers.items ≡ l.initial.answers.items ++ numbers) × Spends l.counter l.initial.seat l.seat
