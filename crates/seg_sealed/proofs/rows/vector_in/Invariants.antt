use Rattle.std.proofs.Common.{◌≡◌, take}
use Rattle.row_types.proofs.BitLists.{bytes_in}
use Rattle.seg_sealed.proofs.rows.vector_in.Given as goal

abbrev pub invariant-words : goal.invariant-words
invariant-words l = l.bytes.items ≡ bytes_in (take l.word-index l.words)
