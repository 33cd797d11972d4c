use Rattle.std.proofs.Common.{rules}
use Rattle.turn_board.proofs.Entries.{two_empty}
use Rattle.turn_board.proofs.tests.two_slots_are_inside_at_once.Goals as goal

pub new-requires-3-clause-above : goal.new-requires-3-clause-above
new-requires-3-clause-above g c = two_empty c.new.result c.new-2.result c.push-2.new.self.items (search rules) c.new.ensures.0 c.new-2.ensures.0
