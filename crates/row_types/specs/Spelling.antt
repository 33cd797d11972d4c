-- Vectors as hexadecimal text: two digits a byte, in either case where they are read and in lower case where they are written.
use Rattle.std.specs.Prelude.{ℕ, ◌/◌, ◌==◌, if◌then◌else◌, Bool, List, length, Result, Ok, Err}
use Rattle.hex.specs.Hex.{decode_of, encode_lower}
use Rattle.hex.specs.declared.error.FromHexError.{FromHexError}
use Rattle.hex.specs.declared.error.FromHexError.TheVariants.{InvalidHexCharacter, OddLength, InvalidStringLength, OutOfMemory}
use Rattle.row_types.specs.declared.refusals.VectorError.{VectorError}
use Rattle.row_types.specs.declared.refusals.VectorError.TheVariants.{WrongLength, NotHex, Memory}
use Rattle.row_types.specs.Bits.{bits_in, bytes_of}

-- the bits of the decoded bytes, or where the first byte stands that is no digit; a text of whole bytes
-- is refused for nothing else
abbrev pub of_decoded : Result (List ℕ) FromHexError → Result (List Bool) VectorError
of_decoded (Ok bytes) = Ok (bits_in 8 bytes)
of_decoded (Err (InvalidHexCharacter digit at)) = Err (NotHex at)
of_decoded (Err OddLength) = Err Memory
of_decoded (Err InvalidStringLength) = Err Memory
of_decoded (Err OutOfMemory) = Err Memory

-- the vector of `dim` bits that a text spells, or why it spells none
abbrev pub vector_of : List ℕ → ℕ → Result (List Bool) VectorError
vector_of text dim = if length text == dim / 4 then of_decoded (decode_of text) else Err (WrongLength (length text))

-- the text of a vector
abbrev pub hex_of : List Bool → List ℕ
hex_of bits = encode_lower (bytes_of bits)
