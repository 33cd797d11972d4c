use Rattle.std.proofs.Common.{◌≡◌}
use Rattle.std.specs.Prelude.{Some}
use Rattle.phase_engine.proofs.Coming.{can_hold}
use Rattle.phase_engine.proofs.Keeping.{can_take}
use Rattle.phase_engine.proofs.engine.PhaseEngineEngine.take.Goals as goal

pub take-requires-2 : goal.take-requires-2
take-requires-2 g c =
    let is : c.args.self.now.running ≡ Some c.in-Some.running = cc (c.in-Some.ensures.value) in
    record { ready = can_hold _ c.in-Some.running (can_take c.in-Some.running is c.requires.ready) }
