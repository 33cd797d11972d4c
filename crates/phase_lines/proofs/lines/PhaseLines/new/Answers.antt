use Rattle.std.proofs.Common.{refl}
use Rattle.phase_lines.proofs.Holding.{held_none}
use Rattle.phase_lines.proofs.lines.PhaseLines.new.Goals as goal

pub returns : goal.returns
returns c = held_none c.args.first _ refl c.new.ensures.items c.in_ok-places.ensures.many c.in_ok-places.ensures.none
