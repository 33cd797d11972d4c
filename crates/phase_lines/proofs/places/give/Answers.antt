use Rattle.std.proofs.Common.{◌<◌, length, arith}
use Rattle.phase_lines.proofs.Holding.{at_read, set_gains, set_stays, on_err_any}
use Rattle.phase_lines.proofs.places.give.Goals as goal

pub returns-in_err-push-clause-kept : goal.returns-in_err-push-clause-kept
returns-in_err-push-clause-kept c =
    let low : c.args.request.caller < length c.args.places.now.items = (let m = c.requires.many in let l = c.requires.may.0 in omega arith) in
    on_err_any c.from_residual.result
    (set_stays c.args.request.caller c.args.places.now.items c.index_mut-place.result.now c.push.new.self
    (at_read c.args.places.now.items c.args.request.caller c.index_mut-place.result.now low c.index_mut-place.ensures.value) c.in_err-push.ensures.items)

pub returns-clause-given : goal.returns-clause-given
returns-clause-given c =
    let low : c.args.request.caller < length c.args.places.now.items = (let m = c.requires.many in let l = c.requires.may.0 in omega arith) in
    set_gains c.args.number c.args.request c.args.places.now.items c.index_mut-place.result.now c.push.new.self c.requires.may
    (at_read c.args.places.now.items c.args.request.caller c.index_mut-place.result.now low c.index_mut-place.ensures.value) c.in_ok-push.ensures.items
