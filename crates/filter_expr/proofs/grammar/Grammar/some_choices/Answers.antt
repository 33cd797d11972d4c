use Rattle.std.proofs.Common.{[], drop, sym, ◌∙◌, rules, arith}
use Rattle.std.proofs.lemmas.Grind.{common_steps}
use Rattle.filter_expr.proofs.Rules.{choices_literal, choices_comma, choices_end}
use Rattle.filter_expr.proofs.grammar.Grammar.some_choices.Goals as goal

pub returns-in_err-first : goal.returns-in_err-first
returns-in_err-first c =
    let e = choices_literal c.args.self.now.end c.args.kind [] c.args.tokens.now in
    first_of (search rules, grind (arith, common_steps))

pub list-init : goal.list-init
list-init c =
    let e = choices_literal c.args.self.now.end c.args.kind [] c.args.tokens.now in
    first_of (search rules, grind (arith, common_steps))

pub returns-in_err-field : goal.returns-in_err-field
returns-in_err-field c =
    let e1 = choices_comma c.args.self.now.end c.args.kind c.list.found.items c.list.tokens (sym c.eat.ensures.found ∙ c.list-test.true) in
    let e2 = choices_literal c.args.self.now.end c.args.kind c.list.found.items (drop 1 c.list.tokens) in
    first_of (search rules, grind (arith, common_steps))

pub list-preserved : goal.list-preserved
list-preserved c =
    let e1 = choices_comma c.args.self.now.end c.args.kind c.list.found.items c.list.tokens (sym c.eat.ensures.found ∙ c.list-test.true) in
    let e2 = choices_literal c.args.self.now.end c.args.kind c.list.found.items (drop 1 c.list.tokens) in
    first_of (search rules, grind (arith, common_steps))

pub returns-in_err-expect : goal.returns-in_err-expect
returns-in_err-expect c =
    let e = choices_end c.args.self.now.end c.args.kind c.list.found.items c.list.tokens (sym c.eat.ensures.found ∙ c.list-test.false) in
    first_of (search rules, grind (arith, common_steps))

pub returns : goal.returns
returns c =
    let e = choices_end c.args.self.now.end c.args.kind c.list.found.items c.list.tokens (sym c.eat.ensures.found ∙ c.list-test.false) in
    first_of (search rules, grind (arith, common_steps))
