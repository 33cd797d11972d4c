use Rattle.std.proofs.Common.{◌≡◌, ℕ, ◌-◌, ◌<◌, ◌≤◌, List, length, get_or}
use Rattle.place_table.specs.Tables.{rows_if, is_on, Placement}
use Rattle.place_table.proofs.places.unload.Given as goal

pub record IsUnloaded (old now : List ℕ) (p : Placement) (upto : ℕ) : Type 0 where
  pub len : length now ≡ length old
  pub done : (node : ℕ) → node < upto → get_or now node 0 ≡ get_or old node 0 - rows_if (is_on node p) p.rows
  pub left : (node : ℕ) → upto ≤ node → get_or now node 0 ≡ get_or old node 0

abbrev pub invariant-nodes : goal.invariant-nodes
invariant-nodes l = IsUnloaded l.fn.loads.items l.loads.items l.entry l.node
