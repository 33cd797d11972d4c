use Rattle.std.proofs.Common.{◌≡◌, take}
use Rattle.shard_core.specs.Kept.{kinds_in}
use Rattle.shard_core.proofs.kinds.column_kinds.Given as goal

abbrev pub invariant-columns : goal.invariant-columns
invariant-columns l = l.kinds.items ≡ kinds_in (take l.column-index l.columns)
