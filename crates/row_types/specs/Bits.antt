-- Lists of bits, how they are packed, and the number of positions at which two of them agree to a test.
use Rattle.std.specs.Prelude.{◌≡◌, ℕ, zero, suc, ◌+◌, ◌-◌, ◌*◌, ◌/◌, ◌%◌, ◌<◌, ◌≤◌, ◌==◌, Bool, true, false, not, cond, List, [], ◌∷◌, ◌++◌, length, take, drop, replicate}

-- the k lowest bits of a number, the lowest first
unfoldable pub bits_of : ℕ → ℕ → List Bool
bits_of zero n = []
bits_of (suc k) n = (n % 2 == 1) ∷ bits_of k (n / 2)

-- the bits of numbers of k bits each, one number after another
abbrev pub bits_in : ℕ → List ℕ → List Bool
bits_in k [] = []
bits_in k (n ∷ ns) = bits_of k n ++ bits_in k ns

-- what a vector of `dim` bits keeps of its words: as few as hold the bits, and no bit set behind them
pub record IsPacked (dim : ℕ) (words : List ℕ) : Type 0 where
  pub clear : drop dim (bits_in 64 words) ≡ replicate (64 * length words - dim) false
  pub enough : dim ≤ 64 * length words
  pub few : 64 * length words < dim + 64
  pub within : dim ≤ 4096

-- words that hold some bytes, eight bytes a word, with no bit set behind them
pub record HoldBytes (bytes words : List ℕ) : Type 0 where
  pub same : bits_in 64 words ≡ bits_in 8 bytes ++ replicate (64 * length words - 8 * length bytes) false
  pub enough : 8 * length bytes ≤ 64 * length words
  pub few : 64 * length words < 8 * length bytes + 64

-- the words that a vector of these bits keeps
pub record AreWordsOf (bits : List Bool) (words : List ℕ) : Type 0 where
  pub packed : IsPacked (length bits) words
  pub same : take (length bits) (bits_in 64 words) ≡ bits

-- the number of positions at which two lists of bits pass a test of two bits
abbrev pub count_pairs : (Bool → Bool → Bool) → List Bool → List Bool → ℕ
count_pairs f [] ys = 0
count_pairs f (x ∷ xs) [] = 0
count_pairs f (x ∷ xs) (y ∷ ys) = cond (f x y) 1 0 + count_pairs f xs ys

abbrev pub differ : Bool → Bool → Bool
differ true y = not y
differ false y = y

abbrev pub either : Bool → Bool → Bool
either true y = true
either false y = y

abbrev pub both : Bool → Bool → Bool
both true y = y
both false y = false

-- the number of positions at which two lists of bits differ
abbrev pub hamming_of : List Bool → List Bool → ℕ
hamming_of = count_pairs differ

-- the number of positions at which at least one bit is set
abbrev pub union_of : List Bool → List Bool → ℕ
union_of = count_pairs either

-- the number of positions at which both bits are set
abbrev pub common_of : List Bool → List Bool → ℕ
common_of = count_pairs both

-- the dimensions that a vector may have
pub record IsDimension (dim : ℕ) : Type 0 where
  pub bytes : dim % 8 ≡ 0
  pub least : 8 ≤ dim
  pub most : dim ≤ 4096

-- the number of which these are the bits, the lowest first
abbrev pub number_of : List Bool → ℕ
number_of [] = 0
number_of (bit ∷ bits) = cond bit 1 0 + 2 * number_of bits

-- the bytes of which these are the bits, eight bits a byte; fewer than eight at the end are left out
unfoldable pub bytes_of : List Bool → List ℕ
bytes_of (a ∷ b ∷ c ∷ d ∷ e ∷ f ∷ g ∷ h ∷ bits) = number_of (a ∷ b ∷ c ∷ d ∷ e ∷ f ∷ g ∷ h ∷ []) ∷ bytes_of bits
bytes_of bits = []
