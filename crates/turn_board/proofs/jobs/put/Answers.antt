use Rattle.std.proofs.Common.{rules}
use Rattle.turn_board.proofs.Entries.{adds_entry}
use Rattle.turn_board.proofs.jobs.put.Goals as goal

pub returns-clause-notes : goal.returns-clause-notes
returns-clause-notes c = adds_entry c.args.seat.now c.draw-at.new.seat c.args.turn.now.slot record { by = c.number-by.result; at = c.draw-at.result } c.args.turn.now.value.entries c.add.new.self.entries c.draw-at.ensures.seat c.requires.seat.2 c.number-by.ensures c.requires.entries (search rules)
