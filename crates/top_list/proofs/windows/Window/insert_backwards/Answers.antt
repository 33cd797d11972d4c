use Rattle.std.proofs.Common.{rules, ◌≡◌, ◌≤◌, ◌∙◌, length, ap, drop, vec_len, arith}
use Rattle.std.specs.List.{insert}
use Rattle.top_list.specs.Kept.{Standing}
use Rattle.top_list.proofs.Moves.{inserted_behind}
use Rattle.top_list.proofs.windows.Window.insert_backwards.Goals as goal

pub returns-clause-hits : goal.returns-clause-hits
returns-clause-hits c =
    let count : length c.self.inside.buffer.items ≡ vec_len c.self.inside.buffer = search rules in
    let within : c.self.inside.from ≤ length c.self.inside.buffer.items = omega (arith, c.self.invariant) in
    ap (drop c.self.inside.from) c.insert_hit.ensures.items
    ∙ inserted_behind _ _ _ _ within
    ∙ ap (λ (w : Standing). insert w.hits c.args.at c.args.hit) c.self.view_is
