use Rattle.std.proofs.Common.{◌≡◌, Ok}
use Rattle.std.specs.Prelude.{Some}
use Rattle.hybrid_time.specs.Times.{of_moment}
use Rattle.phase_engine.specs.Outputs.{whole_at}
use Rattle.phase_engine.proofs.Coming.{end_settles, end_none_came}
use Rattle.phase_engine.proofs.Settling.{ended}
use Rattle.phase_engine.proofs.Keeping.{can_end, ended_kept}
use Rattle.phase_engine.proofs.engine.PhaseEngineEngine.end.Goals as goal

pub settle-requires : goal.settle-requires
settle-requires g c =
    let is : c.args.self.now.running ≡ Some c.in-Some.running = cc (c.in-Some.ensures.value) in
    c.requires.ready.told.may_settle c.in-Some.running (end_settles _ c.in-Some.running (can_end c.in-Some.running is c.requires.ready))

pub returns-in-Ok-end-clause-answered : goal.returns-in-Ok-end-clause-answered
returns-in-Ok-end-clause-answered g c =
    let is : c.args.self.now.running ≡ Some c.in-Some.running = cc (c.in-Some.ensures.value) in
    let ready = can_end c.in-Some.running is c.requires.ready in
    let can = end_settles _ c.in-Some.running ready in
    let tells = c.requires.ready.told.settles c.in-Some.running (Ok c.in-Ok.settled) can c.in-Ok.ensures in
    ended_kept (whole_at (of_moment (g.M.Moments.least c.args.self.now.moments.now))) c.in-Some.running c.in-Ok-end.text.items is
    (ended _ c.in-Some.running c.in-Ok.settled c.in-Ok-end.text.items can (end_none_came _ c.in-Some.running ready) tells c.in-Ok-end.ensures)
