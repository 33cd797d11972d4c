use Rattle.std.proofs.Common.{ℕ, ◌<◌, ◌≤◌, ◌≢◌, get_or}
use Rattle.input_lines.proofs.cutting.find_end.Given as goal

abbrev pub invariant-bytes : goal.invariant-bytes
invariant-bytes l = (k : ℕ) → l.from ≤ k → k < l.i → get_or l.bytes k 0 ≢ 10
