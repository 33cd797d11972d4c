use Rattle.std.proofs.Common.{◌-◌}
use Rattle.seg_sealed.proofs.WordLaws.{IsUnpacked}
use Rattle.seg_sealed.proofs.copies.unpack.Given as goal

abbrev pub invariant-rows : goal.invariant-rows
invariant-rows l = IsUnpacked l.dim l.count l.words l.vectors.items (l.count - l.counter) l.rest
