use Rattle.std.proofs.Common.{rules}
use Rattle.turn_board.proofs.Entries.{one_empty}
use Rattle.turn_board.proofs.tests.two_threads_write_with_rising_numbers.Goals as goal

pub new-requires-2-clause-above : goal.new-requires-2-clause-above
new-requires-2-clause-above g c = one_empty c.new.result c.push.new.self.items (search rules) c.new.ensures.0
