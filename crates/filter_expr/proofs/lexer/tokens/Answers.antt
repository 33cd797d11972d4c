use Rattle.std.proofs.Common.{◌≤◌, ◌∙◌, length, refl, sym, ap, arith}
use Rattle.filter_expr.specs.Tokens.{tokens_of, token_at}
use Rattle.filter_expr.proofs.Lexing.{goes_on}
use Rattle.filter_expr.proofs.lexer.tokens.Goals as goal

pub loop-at-init : goal.loop-at-init
unfolding tokens_of
loop-at-init c = record { found = rw c.new-found.ensures.items refl; within = omega arith }

pub loop-at-preserved : goal.loop-at-preserved
loop-at-preserved c =
    let long : 1 ≤ c.in-Some.len = grind arith in
    let fits : c.in-Some.len ≤ length c.split_at.result.1.now = grind arith in
    record {
      found = goes_on c.loop-at.found.items _ c.loop-at.at c.in-Some.len c.args.text.now c.in-Some.token c.loop-at-test.true c.if-text-at-eq32.false
          (ap token_at (sym c.split_at.ensures.back) ∙ sym c.in_ok-token.ensures.value ∙ c.in-Some.is) long c.in_ok-push.ensures.items ∙ c.loop-at.invariant.found;
      within = omega (arith, fits, c.split_at.ensures.back_len);
    }
