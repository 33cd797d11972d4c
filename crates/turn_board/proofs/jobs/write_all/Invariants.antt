use Rattle.std.proofs.Common.{◌≡◌, List, length}
use Rattle.turn_board.specs.Jobs.{Wrote}
use Rattle.turn_board.proofs.jobs.write_all.Given as goal

abbrev pub invariant-loop : goal.invariant-loop
invariant-loop g l = (numbers : List _) × Wrote numbers l.slot l.initial.seat l.seat × (length numbers ≡ l.counter)
