use Rattle.std.proofs.Common.{◌≡◌, Ok}
use Rattle.std.specs.Prelude.{Some}
use Rattle.phase_engine.proofs.Coming.{run_settles, run_came}
use Rattle.phase_engine.proofs.Settling.{ran, next_fits}
use Rattle.phase_engine.proofs.Keeping.{can_run, ran_kept}
use Rattle.phase_engine.proofs.engine.PhaseEngineEngine.run.Goals as goal

pub settle-requires : goal.settle-requires
settle-requires g c =
    let is : c.args.self.now.running ≡ Some c.in-Some.running = cc (c.in-Some.ensures.value) in
    c.requires.ready.told.may_settle c.in-Some.running (run_settles _ c.in-Some.running (can_run c.in-Some.running is c.requires.ready))

pub meet-requires : goal.meet-requires
meet-requires g c =
    let is : c.args.self.now.running ≡ Some c.in-Some.running = cc (c.in-Some.ensures.value) in
    let can = run_settles _ c.in-Some.running (can_run c.in-Some.running is c.requires.ready) in
    let tells = c.requires.ready.told.settles c.in-Some.running (Ok c.in-Ok.settled) can c.in-Ok.ensures in
    record { room = next_fits _ c.in-Some.running c.in-Ok.settled can tells }

pub returns-clause-answered : goal.returns-clause-answered
returns-clause-answered g c =
    let is : c.args.self.now.running ≡ Some c.in-Some.running = cc (c.in-Some.ensures.value) in
    let ready = can_run c.in-Some.running is c.requires.ready in
    let can = run_settles _ c.in-Some.running ready in
    let tells = c.requires.ready.told.settles c.in-Some.running (Ok c.in-Ok.settled) can c.in-Ok.ensures in
    ran_kept c.in-Some.running c.in-Ok-meet.running c.in-Ok-meet.text.items is
    (ran _ c.in-Some.running c.in-Ok-meet.running c.in-Ok.settled c.in-Ok-meet.text.items can (run_came _ c.in-Some.running ready) tells c.in-Ok-meet.ensures)
