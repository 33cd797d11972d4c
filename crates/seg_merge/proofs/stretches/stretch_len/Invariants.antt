use Rattle.std.proofs.Common.{take}
use Rattle.seg_merge.specs.KeptRows.{IsStretch}
use Rattle.seg_merge.proofs.stretches.stretch_len.Given as goal

abbrev pub invariant-rows : goal.invariant-rows
invariant-rows l = IsStretch l.first.part l.first.row (take l.i l.kept)
