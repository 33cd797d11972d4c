use Rattle.std.proofs.Common.{rules, refl, ap, subst, ◌∙◌, []}
use Rattle.atomic_table.specs.Table.{rest}
use Rattle.turn_lock.proofs.Steps.{passes_again}
use Rattle.turn_lock.proofs.locks.TurnLock.leave_as.Goals as goal

pub store-requires : goal.store-requires
store-requires g c = let t = c.args.turn in (
  search rules,
  search rules,
  passes_again _ g.M.Leaves.gave _ _ c.args.pass.now.id _ c.args.pass.now.me.0 t.slot t.number _ _ t.value [] (rest c.args.pass.now.me.1) c.exchange.ensures.1 c.exchange.ensures.3 c.requires.turn.2 (search rules) refl c.requires.rule,
)

pub returns-clause-pass : goal.returns-clause-pass
returns-clause-pass g c = let t = c.args.turn in let now = c.exchange.ensures.3 in
    let told = c.store.ensures.2 t.slot t.number t.value [] (rest c.args.pass.now.me.1) (ap (λ m. m.0.tickets) now ∙ c.requires.turn.2) (ap (λ m. m.1) now) in
    ((search rules, search rules), (told.0, told.1 ∙ ap rest c.requires.turn.3))

pub returns-clause-rule : goal.returns-clause-rule
returns-clause-rule g c = let t = c.args.turn in let now = c.exchange.ensures.3 in
    let told = c.store.ensures.2 t.slot t.number t.value [] (rest c.args.pass.now.me.1) (ap (λ m. m.0.tickets) now ∙ c.requires.turn.2) (ap (λ m. m.1) now) in
    subst (λ v. g.M.Leaves.gave v t.slot t.value c.store.new.seat.me.0.client) (ap (λ m. m.0.client) now) told.2
