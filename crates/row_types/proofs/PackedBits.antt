-- Laws of words that hold bytes, and of the words that a vector keeps.
use Rattle.std.proofs.Common.{◌≡◌, ℕ, zero, suc, ◌+◌, ◌-◌, ◌*◌, ◌/◌, ◌%◌, ◌<◌, ◌≤◌, Bool, false, List, [], ◌∷◌, ◌++◌, length, take, drop, replicate, get_or, refl, ap, ap₂, sym, ◌∙◌, subst, arith, append_assoc, append-nil, length-append, length-drop, length-take-le, take_all, take_at, drop_at, take-append-drop, zero-mul, suc-mul}
use Rattle.std.proofs.Math.Seq.{take-append-add, take-add}
use Rattle.std.proofs.lemmas.Nat.{le_bytes_8}
use Rattle.std.proofs.lemmas.List.{length-replicate, drop-drop, take_more}
use Rattle.std.specs.Int.{w64, to_le_bytes, from_le_bytes}
use Rattle.std.specs.Simd.{first_chunks}
use Rattle.hex.specs.Hex.{IsBytes}
use Rattle.row_types.specs.Bits.{bits_of, bits_in, bytes_of, IsPacked, HoldBytes, AreWordsOf}
use Rattle.row_types.proofs.BitLists.{length-bits_in, bits_in-append, bits_in-zeros, bits-to_le_bytes, bytes_in, bytes_in-push, bytes_of-words, IsBytes-take, IsBytes-drop, IsBytes-append, IsBytes-zeros}

-- ---- one word of bytes

pub word_of_bytes : (eight : List ℕ) (n : ℕ) → length eight ≡ 8 → IsBytes eight → n ≡ from_le_bytes w64 eight → bits_of 64 n ≡ bits_in 8 eight
word_of_bytes eight n len bytes e = bits-to_le_bytes n ∙ ap (λ t. bits_in 8 t) (le_bytes_8 eight n len bytes e)

pub last_word_of_bytes : (bs : List ℕ) (n : ℕ) → length bs < 8 → IsBytes bs → n ≡ from_le_bytes w64 (bs ++ replicate (8 - length bs) 0)
    → bits_of 64 n ≡ bits_in 8 bs ++ replicate (64 - 8 * length bs) false
last_word_of_bytes bs n few bytes e =
    let count : 8 * (8 - length bs) ≡ 64 - 8 * length bs = omega arith in
    let len : length (bs ++ replicate (8 - length bs) 0) ≡ 8 = omega (arith, length-append bs (replicate (8 - length bs) 0), length-replicate {A = ℕ} (8 - length bs) 0) in
    word_of_bytes (bs ++ replicate (8 - length bs) 0) n len (IsBytes-append bs (replicate (8 - length bs) 0) bytes (IsBytes-zeros (8 - length bs))) e
    ∙ bits_in-append 8 bs (replicate (8 - length bs) 0)
    ∙ ap (λ t. bits_in 8 bs ++ t) (bits_in-zeros 8 (8 - length bs) ∙ ap (λ m. replicate m false) count)

-- the chunk at a place
pub chunk_at : (n k i : ℕ) (xs d : List ℕ) → i < k → get_or (first_chunks n k xs) i d ≡ take n (drop (i * n) xs)
chunk_at n zero i xs d h = absurd (omega arith)
chunk_at n (suc k) zero xs d h = rw zero-mul refl
chunk_at n (suc k) (suc i) xs d h =
    let before : i < k = omega arith in
    let count : n + i * n ≡ suc i * n = omega (arith, suc-mul i n) in
    chunk_at n k i (drop n xs) d before ∙ ap (λ t. take n t) (drop-drop (i * n) n xs ∙ ap (λ m. drop m xs) count)

-- ---- packing

-- the first i words are packed
pub record AreFilled (bytes words : List ℕ) (i : ℕ) : Type 0 where
  pub same : bits_in 64 words ≡ bits_in 8 (take (8 * i) bytes)
  pub count : length words ≡ i

pub filled_none : (bytes : List ℕ) → AreFilled bytes [] 0
filled_none bytes = record { same = refl; count = refl }

pub filled_more : (bytes words : List ℕ) (i w : ℕ) → AreFilled bytes words i → bits_of 64 w ≡ bits_in 8 (take 8 (drop (8 * i) bytes)) → AreFilled bytes (words ++ w ∷ []) (i + 1)
filled_more bytes words i w f e =
    let split : take (8 * (i + 1)) bytes ≡ take (8 * i) bytes ++ take 8 (drop (8 * i) bytes) =
    let m : 8 * (i + 1) ≡ 8 * i + 8 = omega arith in ap (λ n. take n bytes) m ∙ take-add (8 * i) 8 bytes in
    record {
      same = bits_in-append 64 words (w ∷ []) ∙ ap₂ (λ (xs ys : List Bool). xs ++ ys) f.same (append-nil (bits_of 64 w) ∙ e)
          ∙ sym (bits_in-append 8 (take (8 * i) bytes) (take 8 (drop (8 * i) bytes))) ∙ ap (λ t. bits_in 8 t) (sym split);
      count = omega (arith, length-append words (w ∷ []), f.count);
    }

-- a whole chunk of bytes more
pub filled_chunk : (bytes words chunk : List ℕ) (i w : ℕ) → IsBytes bytes → AreFilled bytes words i → i < length bytes / 8 → chunk ≡ take 8 (drop (i * 8) bytes)
    → w ≡ from_le_bytes w64 chunk → AreFilled bytes (words ++ w ∷ []) (i + 1)
filled_chunk bytes words chunk i w h f lt e v =
    let behind : chunk ≡ take 8 (drop (8 * i) bytes) = let m : i * 8 ≡ 8 * i = omega arith in e ∙ ap (λ k. take 8 (drop k bytes)) m in
    let left : 8 ≤ length (drop (8 * i) bytes) = omega (arith, length-drop (8 * i) bytes) in
    let long : length (take 8 (drop (8 * i) bytes)) ≡ 8 = length-take-le 8 (drop (8 * i) bytes) left in
    filled_more bytes words i w f
    (word_of_bytes (take 8 (drop (8 * i) bytes)) w long (IsBytes-take 8 (drop (8 * i) bytes) (IsBytes-drop (8 * i) bytes h)) (v ∙ ap (λ t. from_le_bytes w64 t) behind))

pub filled_whole : (bytes words : List ℕ) (i : ℕ) → AreFilled bytes words i → i ≡ length bytes / 8 → length bytes % 8 ≡ 0 → HoldBytes bytes words
filled_whole bytes words i f at h =
    let none : 64 * length words - 8 * length bytes ≡ 0 = omega (arith, f.count) in
    let all : take (8 * i) bytes ≡ bytes = take_all (8 * i) bytes (omega arith) in
    record {
      same = f.same ∙ ap (λ t. bits_in 8 t) all ∙ sym (append-nil (bits_in 8 bytes)) ∙ ap (λ m. bits_in 8 bytes ++ replicate m false) (sym none);
      enough = omega (arith, f.count);
      few = omega (arith, f.count);
    }

pub filled_rest : (bytes words rest : List ℕ) (i w : ℕ) → AreFilled bytes words i → i ≡ length bytes / 8 → rest ≡ drop (length bytes / 8 * 8) bytes → 0 < length rest
    → bits_of 64 w ≡ bits_in 8 rest ++ replicate (64 - 8 * length rest) false → HoldBytes bytes (words ++ w ∷ [])
filled_rest bytes words rest i w f at r h e =
    let behind : rest ≡ drop (8 * i) bytes = let m : length bytes / 8 * 8 ≡ 8 * i = omega arith in r ∙ ap (λ k. drop k bytes) m in
    let all : take (8 * i) bytes ++ rest ≡ bytes = ap (λ t. take (8 * i) bytes ++ t) behind ∙ take-append-drop (8 * i) bytes in
    let left : length rest ≡ length bytes - 8 * i = ap (λ (t : List ℕ). length t) behind ∙ length-drop (8 * i) bytes in
    let one_more : length (words ++ w ∷ []) ≡ i + 1 = omega (arith, length-append words (w ∷ []), f.count) in
    let zeros : 64 - 8 * length rest ≡ 64 * length (words ++ w ∷ []) - 8 * length bytes = omega (arith, left, one_more) in
    record {
      same = bits_in-append 64 words (w ∷ []) ∙ ap₂ (λ (xs ys : List Bool). xs ++ ys) f.same (append-nil (bits_of 64 w) ∙ e)
          ∙ sym (append_assoc (bits_in 8 (take (8 * i) bytes)) (bits_in 8 rest) (replicate (64 - 8 * length rest) false))
          ∙ ap₂ (λ (xs ys : List Bool). xs ++ ys) (sym (bits_in-append 8 (take (8 * i) bytes) rest) ∙ ap (λ t. bits_in 8 t) all) (ap (λ m. replicate m false) zeros);
      enough = omega (arith, one_more);
      few = omega (arith, one_more, left);
    }

-- ---- vectors

pub packed_from_bytes : (bytes words : List ℕ) → length bytes ≤ 512 → HoldBytes bytes words → IsPacked (8 * length bytes) words
packed_from_bytes bytes words few h = record {
  clear = ap (λ t. drop (8 * length bytes) t) h.same ∙ drop_at (bits_in 8 bytes) (replicate (64 * length words - 8 * length bytes) false) (8 * length bytes) (length-bits_in 8 bytes);
  enough = h.enough;
  few = h.few;
  within = omega arith;
}

pub bits_from_bytes : (bytes words : List ℕ) → HoldBytes bytes words → take (8 * length bytes) (bits_in 64 words) ≡ bits_in 8 bytes
bits_from_bytes bytes words h = ap (λ t. take (8 * length bytes) t) h.same ∙ take_at (bits_in 8 bytes) (replicate (64 * length words - 8 * length bytes) false) (8 * length bytes) (length-bits_in 8 bytes)

pub length-packed : (dim : ℕ) (words : List ℕ) → IsPacked dim words → length (take dim (bits_in 64 words)) ≡ dim
length-packed dim words p = length-take-le dim (bits_in 64 words) (omega (arith, length-bits_in 64 words, p.enough))

pub words_of_packed : (dim : ℕ) (words : List ℕ) → IsPacked dim words → AreWordsOf (take dim (bits_in 64 words)) words
words_of_packed dim words p =
    let e : length (take dim (bits_in 64 words)) ≡ dim = length-packed dim words p in
    record {
      packed = let P : ℕ → Type 0 = λ n. IsPacked n words in subst P (sym e) p;
      same = ap (λ n. take n (bits_in 64 words)) e;
    }

-- the bytes of one word more
pub appended_more : (old now words : List ℕ) (i w : ℕ) → i < length words → w ≡ get_or words i w → now ≡ old ++ bytes_in (take i words)
    → now ++ to_le_bytes w64 w ≡ old ++ bytes_in (take (i + 1) words)
appended_more old now words i w lt e h =
    ap (λ t. t ++ to_le_bytes w64 w) h ∙ append_assoc old (bytes_in (take i words)) (to_le_bytes w64 w)
    ∙ ap (λ t. old ++ t) (sym (bytes_in-push (take i words) w) ∙ ap (λ t. bytes_in t) (ap (λ v. take i words ++ v ∷ []) e ∙ sym (take_more words i w lt)))

-- the bytes of all words, cut off behind a vector's own
pub appended : (old now words : List ℕ) (bits : List Bool) (dim i n : ℕ) → now ≡ old ++ bytes_in (take i words) → length words ≤ i
    → n ≡ length old + dim / 8 → take dim (bits_in 64 words) ≡ bits → take n now ≡ old ++ bytes_of bits
appended old now words bits dim i n h all e same =
    let whole : now ≡ old ++ bytes_in words = h ∙ ap (λ t. old ++ bytes_in t) (take_all i words all) in
    ap₂ (λ (m : ℕ) (t : List ℕ). take m t) e whole ∙ take-append-add old (bytes_in words) (dim / 8) ∙ ap (λ t. old ++ t) (sym (bytes_of-words dim words) ∙ ap (λ t. bytes_of t) same)
