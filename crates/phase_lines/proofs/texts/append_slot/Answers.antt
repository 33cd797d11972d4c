use Rattle.std.proofs.Common.{◌≡◌, ℕ, ◌+◌, ◌^◌, ◌<◌, ◌++◌, length, get_or, set, ap, sym, ◌∙◌, arith}
use Rattle.std.proofs.lemmas.List.{get_or_read}
use Rattle.std.proofs.lemmas.Result.{on_ok_weaker}
use Rattle.answer_lines.specs.declared.answers.Answer.{Answer}
use Rattle.answer_lines.specs.Lines.{text_of}
use Rattle.phase_lines.specs.declared.lines.Slot.{Slot}
use Rattle.phase_lines.specs.Steps.{left_of, answer_at, left_behind}
use Rattle.phase_lines.proofs.Telling.{asked_has, next_small, next_low, next_answer, left_more}
use Rattle.phase_lines.proofs.texts.append_slot.Goals as goal

pub overflow_add-next : goal.overflow_add-next
overflow_add-next c =
    let caller = c.in-Asked.caller in
    let told = c.args.told.now.items in
    let has = asked_has c.args.slot caller (left_of c.args.answers.now told) c.in-Asked.is c.requires.answer in
    let low : caller < length told = (let many : length told ≡ 16 = c.requires.many.1 in let one : caller < 16 = has.0 in omega arith) in
    let n_is : c.index-next.result.now ≡ get_or told caller 0 = get_or_read told caller c.index-next.result.now low c.index-next.ensures 0 in
    let small : get_or told caller 0 + 1 < 2 ^ 64 = next_small c.args.answers.now caller (get_or told caller 0) has.1 in
    omega arith

pub index-requires : goal.index-requires
index-requires c =
    let caller = c.in-Asked.caller in
    let told = c.args.told.now.items in
    let has = asked_has c.args.slot caller (left_of c.args.answers.now told) c.in-Asked.is c.requires.answer in
    let one : caller < 16 = has.0 in
    let low : caller < length told = (let many : length told ≡ 16 = c.requires.many.1 in omega arith) in
    let there : caller < length c.args.answers.now = (let many : length c.args.answers.now ≡ 16 = c.requires.many.0 in omega arith) in
    let n_is : c.index-next.result.now ≡ get_or told caller 0 = get_or_read told caller c.index-next.result.now low c.index-next.ensures 0 in
    let within : c.index-next.result.now < length c.index-answers-at.result.items = next_low c.args.answers.now told caller c.index-answers-at.result c.index-next.result.now there c.index-answers-at.is n_is has.1 in
    let long = c.index-answers-at.result.ok.0 in
    omega arith

pub returns-in-Asked-clause-text : goal.returns-in-Asked-clause-text
returns-in-Asked-clause-text c =
    let caller = c.in-Asked.caller in
    let told = c.args.told.now.items in
    let left = left_of c.args.answers.now told in
    let has = asked_has c.args.slot caller left c.in-Asked.is c.requires.answer in
    let one : caller < 16 = has.0 in
    let low : caller < length told = (let many : length told ≡ 16 = c.requires.many.1 in omega arith) in
    let there : caller < length c.args.answers.now = (let many : length c.args.answers.now ≡ 16 = c.requires.many.0 in omega arith) in
    let n_is : c.index-next.result.now ≡ get_or told caller 0 = get_or_read told caller c.index-next.result.now low c.index-next.ensures 0 in
    let shown : answer_at c.args.slot left ≡ c.index.result.now.1 =
    ap (λ (s : Slot). answer_at s left) c.in-Asked.is
    ∙ next_answer c.args.answers.now told caller c.index-answers-at.result c.index-next.result.now there c.index-answers-at.is n_is has.1 c.index.result.now c.index.ensures in
    on_ok_weaker c.append_line-in-Asked.result (λ e. e ∙ ap (λ (answer : Answer). c.args.text.now.items ++ text_of c.args.number answer) (sym shown)) c.append_line-in-Asked.ensures

pub returns-in-Asked-clause-left : goal.returns-in-Asked-clause-left
returns-in-Asked-clause-left c =
    let caller = c.in-Asked.caller in
    let told = c.args.told.now.items in
    let left = left_of c.args.answers.now told in
    let has = asked_has c.args.slot caller left c.in-Asked.is c.requires.answer in
    let low : caller < length told = (let many : length told ≡ 16 = c.requires.many.1 in let one : caller < 16 = has.0 in omega arith) in
    let n_is : c.index-next.result.now ≡ get_or told caller 0 = get_or_read told caller c.index-next.result.now low c.index-next.ensures 0 in
    ap (λ (n : ℕ). left_of c.args.answers.now (set told caller (n + 1))) n_is
    ∙ left_more c.args.answers.now told caller low
    ∙ ap (λ (s : Slot). left_behind s left) (sym c.in-Asked.is)
