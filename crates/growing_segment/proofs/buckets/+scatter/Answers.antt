use Rattle.std.proofs.Common.{◌≡◌, ℕ, ℤ, ◌∷◌, cond, Some, length, rules, arith, sym, ap, ◌∙◌, length-append}
use Rattle.std.specs.Ordering.{int_cmp, int_eq}
use Rattle.std.specs.Cmp.{int_cmp_total}
use Rattle.std.specs.FinMap as fin
use Rattle.std.specs.FinMap.{find}
use Rattle.growing_segment.specs.declared.trees.Node.{Node}
use Rattle.growing_segment.specs.Buckets.{or_else}
use Rattle.growing_segment.proofs.SlotLaws.{find-append, or_else_middle}
use Rattle.growing_segment.proofs.buckets.+scatter.Goals as goal

pub push_reserved-requires : goal.push_reserved-requires
push_reserved-requires t c =
    let room = c.requires.room in
    let few = c.requires.few in
    let nodes = c.scatter.ensures.nodes in
    let least = c.scatter.ensures.least in
    let most = c.scatter.ensures.most in
    let capacity = c.scatter.ensures.capacity in
    let whole = ap length c.in-Some.ensures.list in
    let parts = length-append c.in-Some.field-0.left.list ((c.in-Some.field-0.node.value.key.0, c.in-Some.field-0.node.value.position) ∷ c.in-Some.field-0.right.list) in
    omega arith

pub scatter-requires-2 : goal.scatter-requires-2
scatter-requires-2 t c =
    let room = c.requires.room in
    let few = c.requires.few in
    let nodes = c.scatter.ensures.nodes in
    let least = c.scatter.ensures.least in
    let most = c.scatter.ensures.most in
    let capacity = c.scatter.ensures.capacity in
    let whole = ap length c.in-Some.ensures.list in
    let parts = length-append c.in-Some.field-0.left.list ((c.in-Some.field-0.node.value.key.0, c.in-Some.field-0.node.value.position) ∷ c.in-Some.field-0.right.list) in
    let pushed = c.push_reserved.ensures.len in
    let kept = c.push_reserved.ensures.capacity in
    let set_nodes = c.set.ensures.nodes in
    let set_most = c.set.ensures.most in
    let set_least = c.set.ensures.least in
    let set_capacity = c.set.ensures.capacity in
    (search rules, (omega arith, omega arith))

pub returns-clause-found : goal.returns-clause-found
returns-clause-found t c = λ q.
    let key : c.deref.result.now.key.0 ≡ c.in-Some.field-0.node.value.key.0 = ap (λ (n : Node). n.key.0) c.deref.ensures in
    let position : c.deref-2.result.now.position ≡ c.in-Some.field-0.node.value.position = ap (λ (n : Node). n.position) c.deref-2.ensures in
    let set = ap (λ (m : fin.FinMap int_cmp ℕ). fin.get m q) c.set.ensures.map ∙ fin.get-insert int_cmp_total c.scatter.new.into.map c.deref.result.now.key.0 c.deref-2.result.now.position q in
    let b = int_eq q c.in-Some.field-0.node.value.key.0 in
    c.scatter-2.ensures.found q
    ∙ ap (or_else (find int_cmp q c.in-Some.field-0.left.list))
    (set
    ∙ ap (λ (k : ℤ). cond (int_eq q k) (Some c.deref-2.result.now.position) (fin.get c.scatter.new.into.map q)) key
    ∙ ap (λ (p : ℕ). cond (int_eq q c.in-Some.field-0.node.value.key.0) (Some p) (fin.get c.scatter.new.into.map q)) position
    ∙ ap (cond (int_eq q c.in-Some.field-0.node.value.key.0) (Some c.in-Some.field-0.node.value.position)) (c.scatter.ensures.found q))
    ∙ or_else_middle (int_eq q c.in-Some.field-0.node.value.key.0) c.in-Some.field-0.node.value.position (find int_cmp q c.in-Some.field-0.left.list) (find int_cmp q c.in-Some.field-0.right.list) (fin.get c.args.into.now.map q)
    ∙ ap (λ o. or_else o (fin.get c.args.into.now.map q))
    (sym (ap (find int_cmp q) c.in-Some.ensures.list ∙ find-append q c.in-Some.field-0.left.list ((c.in-Some.field-0.node.value.key.0, c.in-Some.field-0.node.value.position) ∷ c.in-Some.field-0.right.list)))
