use Rattle.std.proofs.Common.{◌≡◌, Ok, ap, rules, arith}
use Rattle.std.proofs.lemmas.Grind.{common_steps}
use Rattle.filter_expr.specs.declared.tokens.Sign.TheVariants.{Or, And}
use Rattle.filter_expr.specs.Grammar.{and_then, any_of, all_of, more, joined, any, all, one, negation_at, bracket_at, negated, bracketed, one_by}
use Rattle.filter_expr.proofs.Rules.{one_is}
use Rattle.filter_expr.proofs.Turns.{one_turn, no_turn, deeper}
use Rattle.filter_expr.proofs.grammar.Grammar.+grammar.Goals as goal

pub all-returns-in_err-first : goal.all-returns-in_err-first
unfolding all joined
all-returns-in_err-first t c = first_of (search rules, grind (arith, common_steps))

pub all-loop-turn-init : goal.all-loop-turn-init
unfolding all joined
all-loop-turn-init t c = first_of (search rules, grind (arith, common_steps))

pub all-returns-then-not-eat : goal.all-returns-then-not-eat
unfolding more
all-returns-then-not-eat t c =
    let reads = one c.args.self.now.end c.args.self.now.columns.now c.args.depth in
    let e = one_turn (λ n. and_then (more c.args.self.now.end And reads n c.loop-turn.members c.loop-turn.tokens) (λ r. Ok (all_of r.0, r.1))) _ c.loop-turn._turn c.loop-turn-test.true c.loop-turn.invariant in
    first_of (search rules, grind (arith, common_steps))

pub all-returns-in_err-member : goal.all-returns-in_err-member
unfolding more
all-returns-in_err-member t c =
    let reads = one c.args.self.now.end c.args.self.now.columns.now c.args.depth in
    let e = one_turn (λ n. and_then (more c.args.self.now.end And reads n c.loop-turn.members c.loop-turn.tokens) (λ r. Ok (all_of r.0, r.1))) _ c.loop-turn._turn c.loop-turn-test.true c.loop-turn.invariant in
    first_of (search rules, grind (arith, common_steps))

pub all-loop-turn-preserved : goal.all-loop-turn-preserved
unfolding more
all-loop-turn-preserved t c =
    let reads = one c.args.self.now.end c.args.self.now.columns.now c.args.depth in
    let e = one_turn (λ n. and_then (more c.args.self.now.end And reads n c.loop-turn.members c.loop-turn.tokens) (λ r. Ok (all_of r.0, r.1))) _ c.loop-turn._turn c.loop-turn-test.true c.loop-turn.invariant in
    first_of (search rules, grind (arith, common_steps))

pub all-returns : goal.all-returns
unfolding more
all-returns t c =
    let reads = one c.args.self.now.end c.args.self.now.columns.now c.args.depth in
    let e = no_turn (λ n. and_then (more c.args.self.now.end And reads n c.loop-turn.members c.loop-turn.tokens) (λ r. Ok (all_of r.0, r.1))) _ c.loop-turn._turn c.loop-turn-test.false c.loop-turn.invariant in
    first_of (search rules, grind (arith, common_steps))

pub any-returns-in_err-first : goal.any-returns-in_err-first
unfolding any joined
any-returns-in_err-first t c = first_of (search rules, grind (arith, common_steps))

pub any-loop-turn-init : goal.any-loop-turn-init
unfolding any joined
any-loop-turn-init t c = first_of (search rules, grind (arith, common_steps))

pub any-returns-then-not-eat : goal.any-returns-then-not-eat
unfolding more
any-returns-then-not-eat t c =
    let reads = one c.args.self.now.end c.args.self.now.columns.now c.args.depth in
    let e = one_turn (λ n. and_then (more c.args.self.now.end Or (all c.args.self.now.end reads) n c.loop-turn.members c.loop-turn.tokens) (λ r. Ok (any_of r.0, r.1))) _ c.loop-turn._turn c.loop-turn-test.true c.loop-turn.invariant in
    first_of (search rules, grind (arith, common_steps))

pub any-returns-in_err-member : goal.any-returns-in_err-member
unfolding more
any-returns-in_err-member t c =
    let reads = one c.args.self.now.end c.args.self.now.columns.now c.args.depth in
    let e = one_turn (λ n. and_then (more c.args.self.now.end Or (all c.args.self.now.end reads) n c.loop-turn.members c.loop-turn.tokens) (λ r. Ok (any_of r.0, r.1))) _ c.loop-turn._turn c.loop-turn-test.true c.loop-turn.invariant in
    first_of (search rules, grind (arith, common_steps))

pub any-loop-turn-preserved : goal.any-loop-turn-preserved
unfolding more
any-loop-turn-preserved t c =
    let reads = one c.args.self.now.end c.args.self.now.columns.now c.args.depth in
    let e = one_turn (λ n. and_then (more c.args.self.now.end Or (all c.args.self.now.end reads) n c.loop-turn.members c.loop-turn.tokens) (λ r. Ok (any_of r.0, r.1))) _ c.loop-turn._turn c.loop-turn-test.true c.loop-turn.invariant in
    first_of (search rules, grind (arith, common_steps))

pub any-returns : goal.any-returns
unfolding more
any-returns t c =
    let reads = one c.args.self.now.end c.args.self.now.columns.now c.args.depth in
    let e = no_turn (λ n. and_then (more c.args.self.now.end Or (all c.args.self.now.end reads) n c.loop-turn.members c.loop-turn.tokens) (λ r. Ok (any_of r.0, r.1))) _ c.loop-turn._turn c.loop-turn-test.false c.loop-turn.invariant in
    first_of (search rules, grind (arith, common_steps))

pub negated-returns-then-depth-eq0 : goal.negated-returns-then-depth-eq0
unfolding negation_at
negated-returns-then-depth-eq0 t c =
    let none : c.args.depth ≡ 0 = omega arith in
    let e = ap (λ n. negation_at c.args.self.now.end c.args.self.now.columns.now n c.args.at c.args.tokens.now) none in
    first_of (search rules, grind (arith, common_steps))

pub negated-returns-in_err-inner : goal.negated-returns-in_err-inner
unfolding negation_at negated
negated-returns-in_err-inner t c =
    let e = deeper (λ n. negation_at c.args.self.now.end c.args.self.now.columns.now n c.args.at c.args.tokens.now) c.args.depth (omega arith) in
    first_of (search rules, grind (arith, common_steps))

pub negated-returns : goal.negated-returns
unfolding negation_at negated
negated-returns t c =
    let e = deeper (λ n. negation_at c.args.self.now.end c.args.self.now.columns.now n c.args.at c.args.tokens.now) c.args.depth (omega arith) in
    first_of (search rules, grind (arith, common_steps))

pub bracketed-returns-then-depth-eq0 : goal.bracketed-returns-then-depth-eq0
unfolding bracket_at
bracketed-returns-then-depth-eq0 t c =
    let none : c.args.depth ≡ 0 = omega arith in
    let e = ap (λ n. bracket_at c.args.self.now.end c.args.self.now.columns.now n c.args.at c.args.tokens.now) none in
    first_of (search rules, grind (arith, common_steps))

pub bracketed-returns-in_err-inner : goal.bracketed-returns-in_err-inner
unfolding bracket_at bracketed
bracketed-returns-in_err-inner t c =
    let e = deeper (λ n. bracket_at c.args.self.now.end c.args.self.now.columns.now n c.args.at c.args.tokens.now) c.args.depth (omega arith) in
    first_of (search rules, grind (arith, common_steps))

pub bracketed-returns-in_err-expect : goal.bracketed-returns-in_err-expect
unfolding bracket_at bracketed
bracketed-returns-in_err-expect t c =
    let e = deeper (λ n. bracket_at c.args.self.now.end c.args.self.now.columns.now n c.args.at c.args.tokens.now) c.args.depth (omega arith) in
    first_of (search rules, grind (arith, common_steps))

pub bracketed-returns : goal.bracketed-returns
unfolding bracket_at bracketed
bracketed-returns t c =
    let e = deeper (λ n. bracket_at c.args.self.now.end c.args.self.now.columns.now n c.args.at c.args.tokens.now) c.args.depth (omega arith) in
    first_of (search rules, grind (arith, common_steps))

pub one-returns-in_default : goal.one-returns-in_default
unfolding one_by
one-returns-in_default t c =
    let e = ap (λ read. read c.args.tokens.now) (one_is c.args.self.now.end c.args.self.now.columns.now c.args.depth) in
    first_of (search rules, grind (arith, common_steps))

pub one-returns-in-Some-name_in : goal.one-returns-in-Some-name_in
unfolding one_by
one-returns-in-Some-name_in t c =
    let e = ap (λ read. read c.args.tokens.now) (one_is c.args.self.now.end c.args.self.now.columns.now c.args.depth) in
    first_of (search rules, grind (arith, common_steps))

pub one-returns-then-is_sign : goal.one-returns-then-is_sign
unfolding one_by
one-returns-then-is_sign t c =
    let e = ap (λ read. read c.args.tokens.now) (one_is c.args.self.now.end c.args.self.now.columns.now c.args.depth) in
    first_of (search rules, grind (arith, common_steps))

pub one-returns-then-is_sign-2 : goal.one-returns-then-is_sign-2
unfolding one_by
one-returns-then-is_sign-2 t c =
    let e = ap (λ read. read c.args.tokens.now) (one_is c.args.self.now.end c.args.self.now.columns.now c.args.depth) in
    first_of (search rules, grind (arith, common_steps))

pub one-returns : goal.one-returns
unfolding one_by
one-returns t c =
    let e = ap (λ read. read c.args.tokens.now) (one_is c.args.self.now.end c.args.self.now.columns.now c.args.depth) in
    first_of (search rules, grind (arith, common_steps))
