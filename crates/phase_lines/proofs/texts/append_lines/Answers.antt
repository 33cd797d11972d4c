use Rattle.std.proofs.Common.{ℕ, ◌++◌, List, ap, sym, ◌∙◌, subst}
use Rattle.std.specs.Global.{Vec}
use Rattle.std.proofs.lemmas.Result.{on_ok_weaker}
use Rattle.answer_lines.specs.declared.answers.Answer.{Answer}
use Rattle.phase_lines.specs.Steps.{items_at, text_of_slots, HaveAnswers}
use Rattle.phase_lines.proofs.Blocking.{dones_low, have_answers, block_is}
use Rattle.phase_lines.proofs.texts.append_lines.Goals as goal

pub answers_of-requires : goal.answers_of-requires
answers_of-requires c = let k = c.requires.known in dones_low c.args.first c.args.slots.now c.args.done.items k.0 k.1 k.2 k.3

pub append_slots-requires-clause-answers : goal.append_slots-requires-clause-answers
append_slots-requires-clause-answers c =
    let k = c.requires.known in
    subst (λ (l : List (Vec (ℕ × Answer))). HaveAnswers c.args.slots.now (items_at l)) (sym c.as_slice.ensures.value)
    (have_answers c.args.first c.args.slots.now c.args.done.items k.0 k.1 k.2 k.3 c.in_ok-answers.answers.items c.in_ok-answers.ensures.each)

pub returns : goal.returns
returns c =
    on_ok_weaker c.append_slots.result
    (λ written reads mine works can.
    block_is c.args.first c.args.slots.now c.args.done.items reads mine works can c.in_ok-answers.answers.items c.in_ok-answers.ensures.each c.args.text.now.items c.append_slots.new.text.items
    (written ∙ ap (λ (l : List (Vec (ℕ × Answer))). c.args.text.now.items ++ text_of_slots c.args.first c.args.slots.now (items_at l)) c.as_slice.ensures.value))
    c.append_slots.ensures
