use Rattle.std.proofs.Common.{◌≡◌, map, take}
use Rattle.seg_sealed.specs.Fields.{value_in}
use Rattle.seg_sealed.proofs.rows.fields_in.Given as goal

abbrev pub invariant-columns : goal.invariant-columns
invariant-columns l = l.fields.items ≡ map (value_in l.at) (take l.column-index l.columns)
