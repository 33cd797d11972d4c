use Rattle.std.proofs.Common.{◌≡◌, ◌+◌, length, ap, ◌∙◌, arith}
use Rattle.std.proofs.lemmas.List.{length_push}
use Rattle.phase_lines.proofs.Testing.{done_more}
use Rattle.phase_lines.proofs.tests.done_all.Goals as goal

pub loop-work-preserved : goal.loop-work-preserved
loop-work-preserved c =
    let many : length c.loop-work.dones.items ≡ c.loop-work.work-index = c.loop-work.invariant.many in
    let more : length c.push.new.self.items ≡ length c.loop-work.dones.items + 1 = ap length c.in_ok-push.ensures.items ∙ length_push c.loop-work.dones.items c.in_ok-done_of.field-0 in
    record {
      many = omega arith;
      each = done_more c.args.works.now c.loop-work.dones.items c.push.new.self.items c.loop-work.work-index c.work-item.result c.in_ok-done_of.field-0 c.in_ok-push.ensures.items many c.loop-work-test.true c.work-item.is
          (c.in_ok-done_of.ensures.done, c.in_ok-done_of.ensures.answered) c.loop-work.invariant.each;
    }

pub returns-clause-done : goal.returns-clause-done
returns-clause-done c =
    let many : length c.loop-work.dones.items ≡ c.loop-work.work-index = c.loop-work.invariant.many in
    let end = c.loop-work.auto.work-index-end in
    let past = c.loop-work-test.false in
    record { many = omega arith; each = λ i work done at_w at_d. (c.loop-work.invariant.each i work done at_w at_d).0 }

pub returns-clause-answered : goal.returns-clause-answered
returns-clause-answered c i work done at_w at_d = (c.loop-work.invariant.each i work done at_w at_d).1
