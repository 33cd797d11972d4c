use Rattle.filter_expr.proofs.Lexing.{utf8_name}
use Rattle.filter_expr.proofs.lexer.word.Goals as goal

pub word_of-requires : goal.word_of-requires
word_of-requires c = rw c.name_len-len.ensures.value (utf8_name c.args.text.now)
