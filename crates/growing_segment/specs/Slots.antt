-- Which of several trees a key belongs to; no caller needs it.
use Rattle.std.specs.Prelude.{ℕ, ℤ, ◌*◌, ◌/◌, ◌%◌, ◌^◌, bit_xor}
use Rattle.std.specs.Int.{cast_unsigned, w64}

-- a number below 2 ^ 32 that depends on every bit of the key
unfoldable pub mixed_of : ℤ → ℕ
mixed_of key = bit_xor (cast_unsigned w64 key) (cast_unsigned w64 key / 2 ^ 32) * 11400714819323198485 % 2 ^ 64 / 2 ^ 32

-- where a key belongs among `count` trees
unfoldable pub slot_of : ℤ → ℕ → ℕ
slot_of key count = mixed_of key * count / 2 ^ 32
