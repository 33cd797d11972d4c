use Rattle.std.proofs.Common.{ℕ, ◌<◌, ◌≤◌, List, get_or}
use Rattle.place_table.proofs.places.least.Given as goal

pub record IsLeastOf (loads : List ℕ) (upto best : ℕ) : Type 0 where
  pub below : best < upto
  pub fewest : (other : ℕ) → other < upto → get_or loads best 0 ≤ get_or loads other 0
  pub first : (other : ℕ) → other < best → get_or loads best 0 < get_or loads other 0

abbrev pub invariant-nodes : goal.invariant-nodes
invariant-nodes l = IsLeastOf l.loads l.node l.best
