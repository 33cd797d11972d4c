use Rattle.std.proofs.Common.{rules}
use Rattle.filter_expr.specs.Grammar.{same_sign}
use Rattle.filter_expr.proofs.reading.same_sign.Goals as goal

pub returns : goal.returns
unfolding same_sign
returns c = search rules
