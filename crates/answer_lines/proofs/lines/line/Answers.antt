use Rattle.std.proofs.Common.{ap, ◌∙◌, [], ◌∷◌, ◌++◌, ◌≤◌, subst, sym, Some}
use Rattle.serde_json.specs.Data.{depth}
use Rattle.serde_json.specs.Read.{max_depth}
use Rattle.serde_json.specs.Written.{has_float, compact_text}
use Rattle.answer_lines.proofs.Depths.{shallow}
use Rattle.answer_lines.proofs.Floats.{no_float}
use Rattle.answer_lines.proofs.lines.line.Goals as goal

pub returns-clause-text : goal.returns-clause-text
returns-clause-text c =
    let same = c.in_ok-answer_value.ensures in
    c.in_ok-push.ensures.items ∙ ap (λ text. text ++ 10 ∷ []) (c.in_ok-text.ensures.text (ap has_float same ∙ no_float c.args.number c.args.answer.now) ∙ ap compact_text same)

pub returns-clause-reads_back : goal.returns-clause-reads_back
returns-clause-reads_back c =
    let same = c.in_ok-answer_value.ensures in
    let deep = subst (λ d. depth d ≤ max_depth) (sym same) (shallow c.args.number c.args.answer.now) in
    (c.in_ok-text.text.items, c.in_ok-push.ensures.items, c.in_ok-text.ensures.reads_back deep ∙ ap Some same)
