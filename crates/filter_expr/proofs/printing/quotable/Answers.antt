use Rattle.std.proofs.Common.{◌≡◌, true, false, IsUtf8, subst, sym}
use Rattle.filter_expr.proofs.EscapeLaws.{utf8_escaped}
use Rattle.filter_expr.proofs.printing.quotable.Goals as goal

pub unreachable-requires : goal.unreachable-requires
unreachable-requires c =
    let bad : false ≡ true = c.in_default.ensures.succeeds (subst IsUtf8 (sym c.in_ok-bytes.ensures) (utf8_escaped c.args.text.now c.utf8.text)) in
    cc bad
