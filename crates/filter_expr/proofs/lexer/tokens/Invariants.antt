use Rattle.std.proofs.Common.{◌≡◌, ◌-◌, ◌≤◌, length, drop}
use Rattle.filter_expr.specs.Tokens.{tokens_of, tokens_from}
use Rattle.filter_expr.proofs.lexer.tokens.Given as goal

-- what was found, and what the rest of the text gives, makes all tokens
abbrev pub invariant-loop-at : goal.invariant-loop-at
invariant-loop-at l = record {
  found : tokens_from l.found.items l.at 0 (drop l.at l.text) ≡ tokens_of l.text;
  within : l.at ≤ length l.text;
}

abbrev pub decreases-loop-at : goal.decreases-loop-at
decreases-loop-at l = length l.text - l.at
