-- One number for a number of bits and a key; only proofs need it.
use Rattle.std.specs.Prelude.{ℕ, ℤ, pos, ◌+ℤ◌, ◌*ℤ◌, ◌^◌}

-- it rises with the bits, and with the key where the bits are equal, since a key has 64 bits
abbrev pub rank_of : ℕ → ℤ → ℤ
rank_of bits key = pos bits *ℤ pos (2 ^ 64) +ℤ key
