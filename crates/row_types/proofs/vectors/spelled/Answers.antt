use Rattle.std.proofs.Common.{rules}
use Rattle.row_types.proofs.BitLists.{length_from_bytes}
use Rattle.row_types.proofs.vectors.spelled.Goals as goal

pub returns-in-Ok-from_bytes-clause-dim : goal.returns-in-Ok-from_bytes-clause-dim
returns-in-Ok-from_bytes-clause-dim c = length_from_bytes c.in-Ok-from_bytes.vector _ _ c.in-Ok-from_bytes.ensures (search rules)
