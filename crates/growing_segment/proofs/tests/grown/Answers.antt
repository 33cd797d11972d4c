use Rattle.std.proofs.Common.{◌≡◌, ◌*◌, ◌/◌, ◌<◌, ◌≤◌, ◌++◌, ◌∷◌, [], length, arith, ap, ◌∙◌, length-append}
use Rattle.log_model.specs.Places.{Placed, placed}
use Rattle.growing_segment.proofs.Columns.{all_append, all_map}
use Rattle.growing_segment.proofs.tests.grown.Goals as goal

pub push-requires-clause-last : goal.push-requires-clause-last
push-requires-clause-last c =
    let i : c.from.result ≡ c.rows.i = c.from.ensures in
    let third : c.from-in-rows.result ≡ c.rows.i / 3 = c.from-in-rows.ensures in
    rw c.reserve.ensures.rows
    (all_map (λ (x : Placed). (x.position < 2 * c.rows.i) × (x.ts ≤ c.rows.i / 3)) _
    (λ x low. let position : x.position < 2 * c.rows.i = low.0 in let ts : x.ts ≤ c.rows.i / 3 = low.1 in record { lower = omega arith; not_later = omega arith })
    c.rows.tail.rows c.rows.invariant.below)

pub rows-preserved : goal.rows-preserved
rows-preserved c =
    let i : c.from.result ≡ c.rows.i = c.from.ensures in
    let third : c.from-in-rows.result ≡ c.rows.i / 3 = c.from-in-rows.ensures in
    let rows = c.push.ensures.rows ∙ ap (λ xs. xs ++ placed (2 * c.from.result) c.from-in-rows.result c.in_ok-row.row ∷ []) c.reserve.ensures.rows in
    let many = c.rows.invariant.many in
    let long = ap length rows in
    record {
      many = omega (arith, length-append c.rows.tail.rows (placed (2 * c.from.result) c.from-in-rows.result c.in_ok-row.row ∷ []));
      dim = c.push.ensures.dim ∙ c.reserve.ensures.dim ∙ c.rows.invariant.dim;
      below = rw rows
          (all_append _ c.rows.tail.rows _
          (all_map (λ (x : Placed). (x.position < 2 * c.rows.i) × (x.ts ≤ c.rows.i / 3)) _
          (λ x low. let position : x.position < 2 * c.rows.i = low.0 in let ts : x.ts ≤ c.rows.i / 3 = low.1 in (omega arith, omega arith))
          c.rows.tail.rows c.rows.invariant.below)
          ((omega arith, omega arith), tt));
    }
