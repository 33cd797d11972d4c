use Rattle.std.proofs.Common.{◌≡◌, ◌++◌, drop}
use Rattle.filter_expr.specs.Printing.{escaped}
use Rattle.filter_expr.proofs.printing.escaped.Given as goal

abbrev pub invariant-loop-b : goal.invariant-loop-b
invariant-loop-b l = l.bytes.items ++ escaped (drop l.b-index l.b-items) ≡ escaped l.b-items
