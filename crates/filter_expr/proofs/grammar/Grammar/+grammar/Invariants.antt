use Rattle.std.proofs.Common.{◌≡◌, ◌+◌, ◌-◌, ◌*◌, Ok}
use Rattle.filter_expr.specs.declared.tokens.Sign.TheVariants.{Or, And}
use Rattle.filter_expr.specs.Grammar.{and_then, any_of, all_of, more, any, all, one}
use Rattle.filter_expr.proofs.grammar.Grammar.+grammar.Given as goal

abbrev pub decreases-any : goal.decreases-any
decreases-any l = 4 * l.depth + 3

abbrev pub decreases-all : goal.decreases-all
decreases-all l = 4 * l.depth + 2

abbrev pub decreases-one : goal.decreases-one
decreases-one l = 4 * l.depth + 1

abbrev pub decreases-negated : goal.decreases-negated
decreases-negated l = 4 * l.depth

abbrev pub decreases-bracketed : goal.decreases-bracketed
decreases-bracketed l = 4 * l.depth

-- the members so far, and those that the turns left may give, make the whole
abbrev pub invariant-any-loop-turn : goal.invariant-any-loop-turn
invariant-any-loop-turn l =
    let reads = one l.self.end l.self.columns.now l.depth in
    any l.self.end reads l.fn.tokens ≡ and_then (more l.self.end Or (all l.self.end reads) (l._turn-end - l._turn) l.members l.tokens) (λ r. Ok (any_of r.0, r.1))

abbrev pub invariant-all-loop-turn : goal.invariant-all-loop-turn
invariant-all-loop-turn l =
    let reads = one l.self.end l.self.columns.now l.depth in
    all l.self.end reads l.fn.tokens ≡ and_then (more l.self.end And reads (l._turn-end - l._turn) l.members l.tokens) (λ r. Ok (all_of r.0, r.1))
