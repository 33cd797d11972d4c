use Rattle.phase_engine.proofs.Taking.{begun}
use Rattle.phase_engine.proofs.running.Running.new.Goals as goal

pub returns : goal.returns
returns c = record { begun = begun c.args.collection c.in_ok-channels.channels c.in_ok-lines.lines c.in_ok-channels.ensures.rest c.in_ok-channels.ensures.same c.in_ok-lines.ensures }
