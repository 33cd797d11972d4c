use Rattle.std.proofs.Common.{◌∙◌, ap}
use Rattle.std.specs.Char.{is_ascii_digit}
use Rattle.std.specs.List.{prefix_len}
use Rattle.filter_expr.proofs.Lexing.{spells}
use Rattle.filter_expr.proofs.lexer.number.Goals as goal

pub int_of-requires-clause-numeral : goal.int_of-requires-clause-numeral
int_of-requires-clause-numeral c =
    (spells c.args.text.now c.sign_len-sign_len.result c.digits_len-digits_len.result c.sign_len-sign_len.ensures.value (c.digits_len-digits_len.ensures.value ∙ ap (prefix_len is_ascii_digit) c.split_at.ensures.back) c.if-digits_len-eq0.false).0

pub int_of-requires-clause-utf8 : goal.int_of-requires-clause-utf8
int_of-requires-clause-utf8 c =
    (spells c.args.text.now c.sign_len-sign_len.result c.digits_len-digits_len.result c.sign_len-sign_len.ensures.value (c.digits_len-digits_len.ensures.value ∙ ap (prefix_len is_ascii_digit) c.split_at.ensures.back) c.if-digits_len-eq0.false).1
