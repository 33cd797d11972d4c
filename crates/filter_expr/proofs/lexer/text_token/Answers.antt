use Rattle.std.proofs.Common.{ap, subst}
use Rattle.std.specs.Str.{IsUtf8}
use Rattle.std.proofs.lemmas.Str.{IsUtf8-string_bytes}
use Rattle.filter_expr.proofs.Lexing.{text_kept, no_text}
use Rattle.filter_expr.proofs.lexer.text_token.Goals as goal

pub returns-in-Ok-clause-value : goal.returns-in-Ok-clause-value
returns-in-Ok-clause-value c =
    let same = ap (λ v. v.items) c.in-Ok.ensures.ok in
    rw (c.of.ensures, same) (text_kept _ _ c.args.len (subst IsUtf8 same (IsUtf8-string_bytes c.in-Ok.text)) (λ i. c.args.content.items))

pub returns-clause-value : goal.returns-clause-value
returns-clause-value c = no_text c.args.content.items c.args.len c.in-Err.ensures.succeeds
