use Rattle.phase_lines.proofs.Working.{works_are}
use Rattle.phase_lines.proofs.lines.PhaseLines.into_works.Goals as goal

pub returns-clause-works : goal.returns-clause-works
returns-clause-works c first reads held = works_are first reads c.args.self c.args.mine.now c.in_ok-works.works.items held c.in_ok-works.ensures
