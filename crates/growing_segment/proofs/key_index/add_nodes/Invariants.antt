use Rattle.std.proofs.Common.{◌≡◌, ◌+◌, vec_len, vec_capacity}
use Rattle.growing_segment.proofs.key_index.add_nodes.Given as goal

abbrev pub invariant-nodes : goal.invariant-nodes
invariant-nodes l = (vec_len l.spare ≡ vec_len l.fn.spare + l.counter) × (vec_capacity l.spare ≡ vec_capacity l.fn.spare)
