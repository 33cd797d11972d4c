use Rattle.std.proofs.Common.{◌≡◌, take}
use Rattle.growing_segment.proofs.shared_tail.share_rows.Given as goal

abbrev pub invariant-rows : goal.invariant-rows
invariant-rows l = l.owners.items ≡ take l.at l.rows.items
