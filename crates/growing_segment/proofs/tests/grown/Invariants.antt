use Rattle.std.proofs.Common.{◌≡◌, ◌*◌, ◌/◌, ◌<◌, ◌≤◌, length}
use Rattle.std.specs.List.{AllByRecursion}
use Rattle.log_model.specs.Places.{Placed}
use Rattle.growing_segment.proofs.tests.grown.Given as goal

abbrev pub invariant-rows : goal.invariant-rows
invariant-rows l = record {
  many : length l.tail.rows ≡ l.i;
  dim : l.tail.dim ≡ 64;
  below : AllByRecursion (λ (x : Placed). (x.position < 2 * l.i) × (x.ts ≤ l.i / 3)) l.tail.rows;
}
