use Rattle.std.proofs.Common.{◌≡◌, take}
use Rattle.log_model.specs.Places.{IsColumn, width_of}
use Rattle.seg_sealed.proofs.copies.pack.Given as goal

abbrev pub invariant-vectors : goal.invariant-vectors
invariant-vectors l = IsColumn (width_of l.dim) (take l.vector-index l.vectors) l.words.items
