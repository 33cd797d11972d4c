use Rattle.std.proofs.Common.{◌≡◌, ◌<◌, List, length, sym, ◌∙◌, subst, arith, rules}
use Rattle.std.proofs.lemmas.List.{length-set, map-id}
use Rattle.std.proofs.lemmas.Iterator.Adapters.{YieldsList-from_vec}
use Rattle.std.proofs.lemmas.Iterator.Consumers.{YieldsList-turn, YieldsList-end}
use Rattle.phase_run.specs.declared.works.Done.{Done}
use Rattle.phase_lines.specs.Steps.{StandAt}
use Rattle.phase_lines.proofs.Telling.{stand_more}
use Rattle.phase_lines.proofs.texts.answers_of.Goals as goal

pub loop-did-preserved : goal.loop-did-preserved
loop-did-preserved c =
    let t = YieldsList-turn (YieldsList-from_vec {s = c.into_iter-did-iterator.result} c.args.done.items (cc) (search rules)) c.loop-did.yielded c.loop-did.did-iterator c.loop-did.yielded_by c.next.result c.next.new.self c.in-Some.did c.in-Some.is c.next.ensures.steps in
    let few : c.in-Some.did.caller < 16 = subst (λ (d : Done). d.caller < 16) (sym t.1) (c.requires (length c.loop-did.yielded) c.in-Some.did t.0) in
    let many : length c.loop-did.answers.items ≡ 16 = c.loop-did.invariant.many in
    record {
      many = length-set c.loop-did.answers.items c.in-Some.did.caller c.in-Some.did.answers ∙ many;
      stand = stand_more c.loop-did.yielded c.in-Some.did c.loop-did.answers.items (omega arith) c.loop-did.invariant.stand;
    }

pub returns-clause-each : goal.returns-clause-each
returns-clause-each c =
    let t = YieldsList-end (YieldsList-from_vec {s = c.into_iter-did-iterator.result} c.args.done.items (cc) (search rules)) c.loop-did.yielded c.loop-did.did-iterator c.loop-did.yielded_by c.next.result c.next.new.self c.in-None.is c.next.ensures.steps in
    subst (λ (dones : List Done). StandAt dones c.loop-did.answers.items) (sym (map-id c.loop-did.yielded) ∙ t.0) c.loop-did.invariant.stand
