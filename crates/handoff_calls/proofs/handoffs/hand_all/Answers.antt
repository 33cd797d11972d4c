use Rattle.std.proofs.Common.{◌≡◌, ℕ, ◌+◌, ◌≤◌, List, ◌++◌, take, refl, subst, arith}
use Rattle.std.proofs.lemmas.List.{take_all}
use Rattle.call_model.specs.Calls.{channel_at}
use Rattle.handoff_calls.specs.Handoffs.{as_left, all_front, all_vault, AreHands}
use Rattle.handoff_calls.proofs.Turning.{spends_none, spends_on, stays_none, stays_on}
use Rattle.handoff_calls.proofs.Handing.{if_err, IsDone, done_on, left_most, handed_none, handed_next}
use Rattle.handoff_calls.proofs.handoffs.hand_all.Goals as goal

pub segments-init : goal.segments-init
segments-init g c = record {
  handed = handed_none (channel_at c.args.front.now.collection c.args.channel) c.args.front.now.collection.nodes c.args.call.now.line c.args.seats.now.front c.args.seats.now.vault;
  front = spends_none c.args.seats.now.front;
  vault = stays_none c.args.seats.now.vault;
  few = omega arith;
}

pub segments-preserved : goal.segments-preserved
segments-preserved g c =
    let i = c.segments.invariant in
    let d = c.in_ok-more.ensures.did in
    let done : IsDone c.args.call.now.line c.segments.seats.front c.hand.new.seats.front c.segments.seats.vault c.hand.new.seats.vault d.0 d.1 = record { front = d.2; vault = d.3; lines = d.4 } in
    let few : c.segments.left ≤ c.segments.k = i.few in
    let one : as_left c.in_ok-more.more ≤ 1 = left_most c.in_ok-more.more in
    let sum : c.with_left-left.result ≡ c.segments.left + as_left c.in_ok-more.more = c.with_left-left.ensures in
    record {
      handed = handed_next (channel_at c.args.front.now.collection c.args.channel) c.args.front.now.collection.nodes c.args.call.now.line c.args.seats.now.front c.segments.seats.front c.hand.new.seats.front c.args.seats.now.vault c.segments.seats.vault c.hand.new.seats.vault
          c.args.segments.now c.segments.k _ c.segments.left c.with_left-left.result c.in_ok-more.more d.0 d.1 (omega (arith, c.segments-test.true)) i.handed done d.5 i.front.number i.vault.number sum;
      front = spends_on c.args.seats.now.front c.segments.seats.front c.hand.new.seats.front i.front c.hand.ensures.front;
      vault = stays_on c.args.seats.now.vault c.segments.seats.vault c.hand.new.seats.vault i.vault c.hand.ensures.vault;
      few = omega arith;
    }

pub returns-in_err-more-clause-did : goal.returns-in_err-more-clause-did
returns-in_err-more-clause-did g c =
    let h = c.segments.invariant.handed in
    let d = c.hand.ensures.did in
    let done : IsDone c.args.call.now.line c.segments.seats.front c.hand.new.seats.front c.segments.seats.vault c.hand.new.seats.vault d.0 d.1 = record { front = d.2; vault = d.3; lines = d.4 } in
    let all : IsDone c.args.call.now.line c.args.seats.now.front c.hand.new.seats.front c.args.seats.now.vault c.hand.new.seats.vault (all_front h.hands ++ d.0) (all_vault h.hands ++ d.1) =
    done_on c.args.call.now.line c.args.seats.now.front c.segments.seats.front c.hand.new.seats.front c.args.seats.now.vault c.segments.seats.vault c.hand.new.seats.vault (all_front h.hands) d.0 (all_vault h.hands) d.1 h.did done in (
      all_front h.hands ++ d.0,
      all_vault h.hands ++ d.1,
      all.front,
      all.vault,
      all.lines,
      if_err c.from_residual.result _ c.from_residual.ensures.0,
    )

pub returns-clause-did : goal.returns-clause-did
returns-clause-did g c =
    let h = c.segments.invariant.handed in
    let whole : take c.segments.k c.args.segments.now ≡ c.args.segments.now = take_all c.segments.k c.args.segments.now (omega (arith, c.segments-test.false)) in
    let each : AreHands (channel_at c.args.front.now.collection c.args.channel) c.args.front.now.collection.nodes c.args.seats.now.front.number c.args.seats.now.vault.number c.args.call.now.line c.args.segments.now h.hands =
    subst (λ (l : List ℕ). AreHands (channel_at c.args.front.now.collection c.args.channel) c.args.front.now.collection.nodes c.args.seats.now.front.number c.args.seats.now.vault.number c.args.call.now.line l h.hands) whole h.each in (
      all_front h.hands,
      all_vault h.hands,
      h.did.front,
      h.did.vault,
      h.did.lines,
      (h.hands, refl, refl, h.left_is, each),
    )
