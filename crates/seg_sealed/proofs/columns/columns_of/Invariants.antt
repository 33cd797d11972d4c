use Rattle.std.proofs.Common.{◌≡◌, map, take}
use Rattle.seg_sealed.specs.Segments.{kind_of, fields_of, columns_from}
use Rattle.seg_sealed.proofs.columns.columns_of.Given as goal

abbrev pub invariant-columns : goal.invariant-columns
invariant-columns g l = l.columns.items ≡ columns_from 0 (map kind_of (take l.at l.first)) (map fields_of (g.T.TailRows.rows l.from))
