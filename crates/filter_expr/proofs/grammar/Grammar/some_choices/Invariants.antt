use Rattle.std.proofs.Common.{◌≡◌, [], length}
use Rattle.filter_expr.specs.Grammar.{choices_from, choices_after}
use Rattle.filter_expr.proofs.grammar.Grammar.some_choices.Given as goal

-- what is found, and what the rest gives behind a literal, makes the whole list
abbrev pub invariant-list : goal.invariant-list
invariant-list l = choices_after l.self.end l.kind l.found.items l.tokens ≡ choices_from l.self.end l.kind [] l.fn.tokens

abbrev pub decreases-list : goal.decreases-list
decreases-list l = length l.tokens
