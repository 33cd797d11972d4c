use Rattle.std.proofs.Common.{◌≡◌, [], length, All}
use Rattle.phase_lines.proofs.places.empty_places.Given as goal

abbrev pub invariant-callers : goal.invariant-callers
invariant-callers g l = record {
  many : length l.places.items ≡ l.counter;
  none : All (λ place. place.items ≡ []) l.places.items;
}
