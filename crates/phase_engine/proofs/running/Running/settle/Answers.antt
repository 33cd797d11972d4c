use Rattle.std.proofs.Common.{refl, arith}
use Rattle.hybrid_time.specs.Times.{of_moment}
use Rattle.phase_engine.proofs.Settling.{ran_rest, has_settled}
use Rattle.phase_engine.proofs.running.Running.settle.Goals as goal

pub meet-requires-clause-known : goal.meet-requires-clause-known
meet-requires-clause-known g c =
    let can = c.requires.ready in
    let h = c.in_ok-ran.ensures.ran can.rest can.first can.reads can.lines in
    (h.2.new, ran_rest _ can.first can.reads can.rest c.args.self.channels c.in_ok-ran.ran h.0 can.lines.journals h.2, h.2.rest)

pub returns : goal.returns
returns g c rest first reads can =
    has_settled _ c.now.result first reads rest c.args.self c.in_ok-ran.ran _ _ can (omega (arith, c.now.ensures)) c.new-text.ensures.items (c.in_ok-ran.ensures.ran rest first reads can) c.in_ok-channels.ensures.met c.in_ok-ran.ensures.low c.in_ok-channels.ensures.low c.next-number.ensures
