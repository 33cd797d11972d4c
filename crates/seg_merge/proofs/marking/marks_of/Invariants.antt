use Rattle.std.proofs.Common.{◌≡◌, take}
use Rattle.seg_merge.specs.KeptRows.{marks_of_kept}
use Rattle.seg_merge.proofs.marking.marks_of.Given as goal

abbrev pub invariant-rows : goal.invariant-rows
invariant-rows l = l.marks.items ≡ marks_of_kept 0 (take l.i l.kept)
