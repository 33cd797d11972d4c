use Rattle.std.proofs.Common.{◌≡◌, ◌+◌, ◌<◌, ◌++◌, List, [], ◌∷◌, length, refl, sym, subst, arith, rules}
use Rattle.std.proofs.lemmas.List.{length_push}
use Rattle.std.proofs.lemmas.Iterator.Adapters.{YieldsList-from_vec}
use Rattle.std.proofs.lemmas.Iterator.Consumers.{YieldsList-turn}
use Rattle.phase_run.specs.declared.works.Work.{Work}
use Rattle.phase_lines.specs.Steps.{AreWorksOf}
use Rattle.phase_lines.proofs.Holding.{at_default}
use Rattle.phase_lines.proofs.Working.{works_none, works_next}
use Rattle.phase_lines.proofs.places.works_of.Goals as goal

pub loop-requests-init : goal.loop-requests-init
loop-requests-init c = record { works = subst (λ (l : List Work). AreWorksOf [] c.args.mine.now l) (sym c.in_ok-works.ensures.items) (works_none c.args.mine.now); caller = refl }

pub loop-requests-preserved : goal.loop-requests-preserved
loop-requests-preserved c =
    let number : c.loop-requests.caller ≡ length c.loop-requests.yielded = c.loop-requests.invariant.caller in
    let t = YieldsList-turn (YieldsList-from_vec {s = c.into_iter-requests-iterator.result} c.args.places.items (cc) (search rules)) c.loop-requests.yielded c.loop-requests.requests-iterator c.loop-requests.yielded_by c.next.result c.next.new.self c.in-Some.requests c.in-Some.is c.next.ensures.steps in
    let low : c.loop-requests.caller < length c.args.mine.now = (let below : length c.loop-requests.yielded < length c.args.places.items = t.0 in let a : length c.args.places.items ≡ 16 = c.requires.many.0 in let b : length c.args.mine.now ≡ 16 = c.requires.many.1 in omega arith) in
    record {
      works = works_next c.loop-requests.yielded c.in-Some.requests c.args.mine.now c.loop-requests.works.items c.add_work.new.works.items c.loop-requests.caller _ number (at_default c.args.mine.now c.loop-requests.caller _ low) c.in_ok-add_work.ensures.asks c.in_ok-add_work.ensures.silent c.loop-requests.invariant.works;
      caller = (let more : length (c.loop-requests.yielded ++ c.in-Some.requests ∷ []) ≡ length c.loop-requests.yielded + 1 = length_push c.loop-requests.yielded c.in-Some.requests in omega arith);
    }
