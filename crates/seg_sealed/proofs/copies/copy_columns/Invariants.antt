use Rattle.std.proofs.Common.{◌≡◌, take}
use Rattle.seg_sealed.proofs.copies.copy_columns.Given as goal

abbrev pub invariant-columns : goal.invariant-columns
invariant-columns l = l.copies.items ≡ take l.column-index l.columns
