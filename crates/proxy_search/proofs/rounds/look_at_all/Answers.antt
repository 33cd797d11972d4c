use Rattle.std.proofs.Common.{◌≡◌, ◌+◌, ◌<◌, ◌≤◌, [], ◌∷◌, ◌++◌, Ok, sym, ap, subst, ◌∙◌, arith}
use Rattle.row_types.specs.declared.allocation.Memory.{Memory}
use Rattle.coarse_lists.specs.declared.collections.Collection.{Collection}
use Rattle.shard_core.specs.declared.replies.Looked.{Looked}
use Rattle.shard_core.specs.declared.replies.Looked.TheVariants as looks
use Rattle.proxy_search.specs.Rounds.{IsRound}
use Rattle.proxy_search.proofs.Stepping.{if_err, spends_more, HasLooked, LooksOnce, steps_on, served_next, ends_pending}
use Rattle.proxy_search.proofs.rounds.look_at_all.Goals as goal

pub returns-in_err-view-clause-did : goal.returns-in_err-view-clause-did
returns-in_err-view-clause-did g c =
    let on = steps_on c.args.front.now c.args.call.now.line c.args.guarantee.0 c.args.wait c.args.seat.now c.channels.seat c.look.new.seat c.channels.channel c.channels.views.items c.channels.invariant.spends.number c.channels.invariant.did c.look.result c.look.ensures.did in
    (on.0, on.1, if_err c.from_residual.result (IsRound c.args.front.now c.args.seat.now.number c.args.call.now.line c.args.guarantee.0 c.args.wait on.0) c.from_residual.ensures.0)

pub returns-in_err-push-in-Served-clause-did : goal.returns-in_err-push-in-Served-clause-did
returns-in_err-push-in-Served-clause-did g c =
    let on = steps_on c.args.front.now c.args.call.now.line c.args.guarantee.0 c.args.wait c.args.seat.now c.channels.seat c.look.new.seat c.channels.channel c.channels.views.items c.channels.invariant.spends.number c.channels.invariant.did c.look.result c.look.ensures.did in
    (on.0, on.1, if_err c.from_residual-in_err-push-in-Served.result (IsRound c.args.front.now c.args.seat.now.number c.args.call.now.line c.args.guarantee.0 c.args.wait on.0) c.from_residual-in_err-push-in-Served.ensures.0)

pub returns-in-Pending-clause-did : goal.returns-in-Pending-clause-did
returns-in-Pending-clause-did g c =
    let is : c.look.result ≡ Ok (looks.Pending c.in-Pending.tick) = c.in_ok-view.was ∙ ap (λ (l : Looked). Ok l) c.in-Pending.is in
    let within : c.channels.channel < c.args.front.now.collection.channels = subst (λ (d : Collection). c.channels.channel < d.channels) c.collection.ensures.collection c.channels-test.true in
    ends_pending c.args.front.now c.args.call.now.line c.args.guarantee.0 c.args.wait c.args.seat.now c.channels.seat c.look.new.seat c.channels.channel c.channels.views.items c.channels.invariant.spends.number c.channels.invariant.did Memory c.in-Pending.tick within
    (subst (LooksOnce c.args.front.now c.args.call.now.line c.args.guarantee.0 c.args.wait c.channels.seat c.look.new.seat c.channels.channel) is c.look.ensures.did)

pub channels-preserved : goal.channels-preserved
channels-preserved g c =
    let is : c.look.result ≡ Ok (looks.Served c.in-Served.view) = c.in_ok-view.was ∙ ap (λ (l : Looked). Ok l) c.in-Served.is in
    let pushed : c.push.new.self.items ≡ c.channels.views.items ++ c.in-Served.view ∷ [] = c.in_ok-push-in-Served.ensures.items in
    let fits : c.channels.channel + 1 ≤ c.channels.channel + 1 = omega arith in
    record {
      did = subst (HasLooked c.args.front.now c.args.call.now.line c.args.guarantee.0 c.args.wait c.args.seat.now c.look.new.seat (c.channels.channel + 1)) (sym pushed)
          (served_next c.args.front.now c.args.call.now.line c.args.guarantee.0 c.args.wait c.args.seat.now c.channels.seat c.look.new.seat c.channels.channel c.channels.views.items c.channels.invariant.spends.number c.channels.invariant.did Memory c.in-Served.view
          (subst (LooksOnce c.args.front.now c.args.call.now.line c.args.guarantee.0 c.args.wait c.channels.seat c.look.new.seat c.channels.channel) is c.look.ensures.did));
      spends = spends_more c.channels.channel 1 (c.channels.channel + 1) c.args.seat.now c.channels.seat c.look.new.seat c.channels.invariant.spends c.look.ensures.spends fits;
    }
