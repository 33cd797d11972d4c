use Rattle.std.proofs.Common.{◌≡◌, ◌≤◌, ◌+◌, take, length}
use Rattle.seg_sealed.proofs.latest.Latest.of.Given as goal

abbrev pub invariant-marks : goal.invariant-marks
invariant-marks l = record {
  made : l.latest.marks ≡ take l.mark-index l.marks;
  left : l.room + length l.marks ≤ l.latest.spare + l.mark-index;
}
