use Rattle.std.proofs.Common.{◌≡◌, ◌++◌, take, drop}
use Rattle.std.specs.List.{AllByRecursion}
use Rattle.seg_sealed.specs.Segments.{IsSealed}
use Rattle.seg_sealed.specs.Parts.{SegmentPart}
use Rattle.seg_merge.specs.KeptRows.{kept_of_parts}
use Rattle.seg_merge.proofs.leaving.left_in.Given as goal

abbrev pub invariant-parts : goal.invariant-parts
invariant-parts l = record {
  same : l.kept.items ++ kept_of_parts l.floor.0 l.i (drop l.i l.parts) ≡ kept_of_parts l.floor.0 0 l.parts;
  sealed : AllByRecursion (λ (part : SegmentPart). IsSealed part.sealed) (take l.i l.parts);
}
