use Rattle.std.proofs.Common.{◌≡◌, ◌+◌, ◌-◌, ◌*◌, ◌≤◌, ◌++◌, length, take, vec_len, vec_capacity}
use Rattle.row_types.proofs.BitLists.{bytes_in}
use Rattle.row_types.proofs.vectors.BitVector.append_bytes.Given as goal

abbrev pub invariant-words : goal.invariant-words
invariant-words l = record {
  items : l.bytes.items ≡ l.fn.bytes.items ++ bytes_in (take l.word-index l.word-items);
  room : vec_len l.bytes + 8 * (length l.word-items - l.word-index) ≤ vec_capacity l.bytes;
}
