use Rattle.std.proofs.Common.{rules, arith}
use Rattle.std.proofs.lemmas.Grind.{common_steps}
use Rattle.filter_expr.specs.Tokens.{token_at}
use Rattle.filter_expr.proofs.lexer.front.Goals as goal

pub returns-then-is_letter-clause-value : goal.returns-then-is_letter-clause-value
unfolding token_at
returns-then-is_letter-clause-value c = first_of (search rules, grind (arith, common_steps))

pub returns-then-is_ascii_digit-clause-value : goal.returns-then-is_ascii_digit-clause-value
unfolding token_at
returns-then-is_ascii_digit-clause-value c = first_of (search rules, grind (arith, common_steps))

pub returns-then-b-eq34-clause-value : goal.returns-then-b-eq34-clause-value
unfolding token_at
returns-then-b-eq34-clause-value c = first_of (search rules, grind (arith, common_steps))

pub returns-clause-value : goal.returns-clause-value
unfolding token_at
returns-clause-value c = first_of (search rules, grind (arith, common_steps))
