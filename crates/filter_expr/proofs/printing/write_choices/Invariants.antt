use Rattle.std.proofs.Common.{◌≡◌, ◌++◌, drop, map, codes, string_bytes}
use Rattle.filter_expr.specs.Printing.{each_behind, separated, literal_text}
use Rattle.filter_expr.proofs.printing.write_choices.Given as goal

abbrev pub invariant-loop-choice : goal.invariant-loop-choice
invariant-loop-choice l =
    string_bytes l.out ++ each_behind (codes ", ") (map literal_text (drop l.choice-index l.others)) ≡ string_bytes l.fn.out ++ separated (codes ", ") (map literal_text l.choices)
