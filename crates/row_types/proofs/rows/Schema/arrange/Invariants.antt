use Rattle.std.proofs.Common.{◌≡◌, drop}
use Rattle.row_types.specs.Schemas.{arranged, arranged_after}
use Rattle.row_types.proofs.rows.Schema.arrange.Given as goal

-- what is left to arrange, after what is arranged, makes the whole
abbrev pub invariant-loop-column : goal.invariant-loop-column
invariant-loop-column l = arranged_after l.fields.items (drop l.column-index l.column-items) l.given.items ≡ arranged l.column-items l.fn.given.items
