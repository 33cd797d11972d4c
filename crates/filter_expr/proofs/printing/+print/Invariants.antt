use Rattle.std.proofs.Common.{◌≡◌, ◌++◌, drop, string_bytes}
use Rattle.filter_expr.specs.Printing.{members_behind, members_text}
use Rattle.filter_expr.proofs.printing.+print.Given as goal

abbrev pub invariant-write_members-loop-member : goal.invariant-write_members-loop-member
invariant-write_members-loop-member l =
    string_bytes l.out ++ members_behind l.columns l.sign l.least (drop l.member-index l.others) ≡ string_bytes l.fn.out ++ members_text l.columns l.sign l.least l.members
