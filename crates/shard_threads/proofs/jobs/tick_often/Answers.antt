use Rattle.std.proofs.Common.{◌≡◌, ℕ, ◌+◌, ◌<◌, List, [], ◌∷◌, ◌++◌, length, length-append, ap, ◌∙◌, arith, rules, append_assoc}
use Rattle.shard_threads.proofs.Ticking.{one_more, spends_more}
use Rattle.shard_threads.proofs.jobs.tick_often.Goals as goal

pub returns-in_err-push-clause-ticked : goal.returns-in_err-push-clause-ticked
returns-in_err-push-clause-ticked g c =
    let xs : List ℕ = c.loop.invariant.0 in
    let ts : ℕ = c.in_ok-ts.ts.0 in
    let did = c.in_ok-ts.ensures.did in
    let few : length xs ≡ c.loop.counter = c.loop.invariant.2 in
    let long : length (xs ++ ts ∷ []) ≡ length xs + 1 = length-append xs (ts ∷ []) in
    let below : c.loop.counter < c.args.times = c.loop-test.true in
    (xs ++ ts ∷ [], one_more c.args.call.now.line c.args.channel ts xs c.args.seat.now c.loop.seat c.tick.new.seat did.0 c.loop.invariant.1 did.1 did.2 did.3, omega arith, search rules)

pub loop-preserved : goal.loop-preserved
loop-preserved g c =
    let xs : List ℕ = c.loop.invariant.0 in
    let ts : ℕ = c.in_ok-ts.ts.0 in
    let did = c.in_ok-ts.ensures.did in
    let few : length xs ≡ c.loop.counter = c.loop.invariant.2 in
    let long : length (xs ++ ts ∷ []) ≡ length xs + 1 = length-append xs (ts ∷ []) in (
      xs ++ ts ∷ [],
      one_more c.args.call.now.line c.args.channel ts xs c.args.seat.now c.loop.seat c.tick.new.seat did.0 c.loop.invariant.1 did.1 did.2 did.3,
      omega arith,
      c.in_ok-push.ensures.items ∙ ap (λ (l : List ℕ). l ++ ts ∷ []) c.loop.invariant.3 ∙ append_assoc c.args.answers.now.items xs (ts ∷ []),
      spends_more c.loop.counter 1 c.args.seat.now c.loop.seat c.tick.new.seat c.loop.invariant.4 c.in_ok-ts.ensures.spends,
    )
