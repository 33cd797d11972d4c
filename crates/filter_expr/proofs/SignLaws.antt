-- What reading a sign leaves.
use Rattle.std.proofs.Common.{◌≡◌, ◌<◌, true, [], ◌∷◌, length, drop, arith}
use Rattle.filter_expr.specs.declared.tokens.Sign.{Sign}
use Rattle.filter_expr.specs.Grammar.{Tokens, sees}

pub sees_shortens : (sign : Sign) (ts : Tokens) → sees sign ts ≡ true → length (drop 1 ts) < length ts
unfolding sees
sees_shortens sign [] h = cc
sees_shortens sign (t ∷ ts) h = omega arith
