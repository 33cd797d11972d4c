use Rattle.std.proofs.Common.{rules, ◌≡◌, ◌∙◌, length, ap, vec_len, arith}
use Rattle.std.specs.List.{insert}
use Rattle.top_list.specs.Kept.{Standing}
use Rattle.top_list.proofs.Moves.{inserted_in_front}
use Rattle.top_list.proofs.windows.Window.insert_forwards.Goals as goal

pub returns-clause-hits : goal.returns-clause-hits
returns-clause-hits c =
    let count : vec_len c.self.inside.buffer ≡ length c.self.inside.buffer.items = search rules in
    inserted_in_front _ _ _ _ _ _ _ _ _ (omega arith) (omega arith) (omega (arith, c.self.invariant)) count c.deref_mut.ensures.value c.replace_first.ensures c.replace_first.auto.hits
    ∙ ap (λ (w : Standing). insert w.hits c.args.at c.args.hit) c.self.view_is
