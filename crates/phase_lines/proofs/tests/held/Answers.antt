use Rattle.std.proofs.Common.{List, sym, ◌∙◌, subst, rules}
use Rattle.std.proofs.lemmas.List.{map-id}
use Rattle.std.proofs.lemmas.Iterator.Adapters.{YieldsList-from_vec}
use Rattle.std.proofs.lemmas.Iterator.Consumers.{YieldsList-end}
use Rattle.phase_lines.specs.Waiting.{Read, AreHeld}
use Rattle.phase_lines.proofs.tests.held.Goals as goal

pub loop-read-preserved : goal.loop-read-preserved
loop-read-preserved c = c.in_ok-add.ensures.added c.args.first c.loop-read.yielded c.loop-read.invariant

pub returns : goal.returns
returns c =
    let t = YieldsList-end (YieldsList-from_vec {s = c.into_iter-read-iterator.result} c.args.reads.items (cc) (search rules)) c.loop-read.yielded c.loop-read.read-iterator c.loop-read.yielded_by c.next.result c.next.new.self c.in-None.is c.next.ensures.steps in
    subst (λ (l : List Read). AreHeld c.args.first l c.loop-read.lines) (sym (map-id c.loop-read.yielded) ∙ t.0) c.loop-read.invariant
