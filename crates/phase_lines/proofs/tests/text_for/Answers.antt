use Rattle.std.proofs.Common.{List, ◌∙◌, subst}
use Rattle.hybrid_time.specs.declared.times.Timestamp.{Timestamp}
use Rattle.phase_run.specs.declared.works.Work.{Work}
use Rattle.phase_run.specs.Phases.{AreDone, AreAnswered}
use Rattle.phase_lines.specs.Waiting.{AreHeld, AreWorks}
use Rattle.phase_lines.proofs.tests.text_for.Goals as goal

pub append_lines-requires-clause-known : goal.append_lines-requires-clause-known
append_lines-requires-clause-known c =
    let first = c.args.first in
    let reads = c.args.reads.items in
    let mine = c.in_ok-mine.mine.items in
    let works = c.in_ok-slots.works.items in
    let held : AreHeld first reads c.in_ok-lines.lines = c.in_ok-lines.ensures in
    let done : AreDone works c.in_ok-done.done.items = subst (λ (l : List Work). AreDone l c.in_ok-done.done.items) c.as_slice-2.ensures.value c.in_ok-done.ensures.done in
    let answered : AreAnswered works c.in_ok-done.done.items = subst (λ (l : List Work). AreAnswered l c.in_ok-done.done.items) c.as_slice-2.ensures.value c.in_ok-done.ensures.answered in (
      reads,
      mine,
      works,
      record {
        slots_are = c.as_slice-3.ensures.value ∙ c.in_ok-slots.ensures.slots first reads held;
        may = held.may;
        works_are = subst (λ (l : List Timestamp). AreWorks first reads l works) c.as_slice.ensures.value (c.in_ok-slots.ensures.works first reads held);
        done = done;
        answered = answered;
      },
    )
