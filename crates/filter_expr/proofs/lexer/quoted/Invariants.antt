use Rattle.std.proofs.Common.{◌≡◌, ◌+◌, drop, []}
use Rattle.std.proofs.Common.{false}
use Rattle.filter_expr.specs.Tokens.{quoted_from}
use Rattle.filter_expr.proofs.lexer.quoted.Given as goal

-- what was read, and what the rest gives, makes the whole text
abbrev pub invariant-loop-i : goal.invariant-loop-i
invariant-loop-i l = quoted_from l.is_escaped l.content.items (l.i + 1) (drop l.i (drop 1 l.text)) ≡ quoted_from false [] 1 (drop 1 l.text)
