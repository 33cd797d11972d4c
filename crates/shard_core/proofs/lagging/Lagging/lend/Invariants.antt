use Rattle.std.proofs.Common.{◌≡◌, map, take}
use Rattle.std.specs.List.{AllByRecursion}
use Rattle.seg_sealed.specs.Parts.{SegmentPart}
use Rattle.channel_pieces.specs.Pieces.{HasShape}
use Rattle.shard_core.specs.Found.{rows_found, found_of}
use Rattle.shard_core.proofs.lagging.Lagging.lend.Given as goal

abbrev pub invariant-numbers : goal.invariant-numbers
invariant-numbers l = record {
  rows : found_of l.parts.items ≡ map (rows_found l.fn.self.pieces.segments) (take l.number-index l.numbers);
  numbers : map (λ (p : SegmentPart). p.sealed.number) l.parts.items ≡ take l.number-index l.numbers;
  applied : AllByRecursion (λ (p : SegmentPart). p.applied ≡ l.applied) l.parts.items;
  shapes : AllByRecursion (HasShape l.fn.self.pieces.dim l.fn.self.pieces.kinds) l.parts.items;
  same : l.self ≡ l.fn.self;
}
