-- Vectors in a column of words.
use Rattle.std.proofs.Common.{◌≡◌, ℕ, zero, suc, ◌+◌, ◌≤◌, Bool, List, [], ◌∷◌, ◌++◌, ◌<◌, ◌*◌, ◌/◌, ◌%◌, get_or, append_assoc, length, map, take, drop, slice_get, Some, None, length-append, length-drop, refl, sym, ap, subst, ◌∙◌, arith}
use Rattle.std.specs.List.{AllByRecursion}
use Rattle.std.proofs.lemmas.List.{take-append-le, drop-append-le, drop-drop, take_more}
use Rattle.std.proofs.Math.Seq.{take-length, drop-length}
use Rattle.std.proofs.Math.Nat.{zero-mul, suc-mul}
use Rattle.std.specs.Int.{w64, to_le_bytes}
use Rattle.row_types.proofs.BitLists.{bytes_in, bytes_in-push, bits-bytes_in, take-bits_in}
use Rattle.row_types.specs.Bits.{bits_in, AreWordsOf}
use Rattle.log_model.specs.Places.{IsColumn, width_of}
use Rattle.seg_sealed.specs.Fields.{vectors_in}

cons_same : {A : Type 0} {x y : A} {xs ys : List A} → x ≡ y → xs ≡ ys → x ∷ xs ≡ y ∷ ys
cons_same p q i = p i ∷ q i

-- vectors that stand in a column are the vectors of the column
pub vectors_are : (dim : ℕ) (vectors : List (List Bool)) (words : List ℕ) → AllByRecursion (λ vector. length vector ≡ dim) vectors → IsColumn (width_of dim) vectors words → vectors_in dim (length vectors) words ≡ vectors
vectors_are dim [] words all is = refl
vectors_are dim (vector ∷ vectors) words all is =
    cons_same (subst (λ n. take n (bits_in 64 (take (width_of dim) words)) ≡ vector) all.0 is.1.same) (vectors_are dim vectors (drop (width_of dim) words) all.1 is.2)

-- the length of a vector's words
pub words_long : (dim : ℕ) (vector : List Bool) (words : List ℕ) → length vector ≡ dim → AreWordsOf vector words → length words ≡ width_of dim
words_long dim vector words e are =
    let a : dim ≤ 64 * length words = subst (λ n. n ≤ 64 * length words) e are.packed.enough in
    let b : 64 * length words < dim + 64 = subst (λ n. 64 * length words < n + 64) e are.packed.few in
    omega arith

-- a column with one vector more
pub column-push : (width : ℕ) (vectors : List (List Bool)) (words : List ℕ) (vector : List Bool) (more : List ℕ) → IsColumn width vectors words → AreWordsOf vector more → length more ≡ width → IsColumn width (vectors ++ vector ∷ []) (words ++ more)
column-push width [] words vector more is own long =
    let last : IsColumn width (vector ∷ []) more = (omega arith, subst (λ ws. AreWordsOf vector ws) (sym (subst (λ n. take n more ≡ more) long (take-length more))) own, subst (λ n. drop n more ≡ []) long (drop-length more)) in
    subst (λ ws. IsColumn width (vector ∷ []) (ws ++ more)) (sym is) last
column-push width (v ∷ vectors) words vector more is own long = (
  omega (arith, length-append words more, is.0),
  subst (λ ws. AreWordsOf v ws) (sym (take-append-le width words more is.0)) is.1,
  subst (λ ws. IsColumn width (vectors ++ vector ∷ []) ws) (sym (drop-append-le width words more is.0)) (column-push width vectors (drop width words) vector more is.2 own long),
)

-- how long a column is
pub column-length : (width : ℕ) (vectors : List (List Bool)) (words : List ℕ) → IsColumn width vectors words → length words ≡ length vectors * width
column-length width [] words is = ap length is ∙ sym (zero-mul width)
column-length width (v ∷ vectors) words is =
    let a = column-length width vectors (drop width words) is.2 in
    let b = length-drop width words in
    let d = is.0 in
    let e : suc (length vectors) * width ≡ length vectors * width + width = suc-mul (length vectors) width in
    omega arith

none_some : {A : Type 0} (x : A) → None ≡ Some x → ⊥
none_some x e = cc

some_same : {A : Type 0} (x y : A) → Some x ≡ Some y → x ≡ y
some_same x y e = cc

-- the words of a vector in a column
pub column-at : (width : ℕ) (vectors : List (List Bool)) (words : List ℕ) (i : ℕ) (vector : List Bool) → IsColumn width vectors words → slice_get vectors i ≡ Some vector → AreWordsOf vector (take width (drop (i * width) words))
column-at width [] words zero vector is e = absurd (none_some vector e)
column-at width [] words (suc i) vector is e = absurd (none_some vector e)
column-at width (v ∷ vectors) words zero vector is e =
    subst (λ n. AreWordsOf vector (take width (drop n words))) (sym (zero-mul width)) (subst (λ u. AreWordsOf u (take width words)) (some_same v vector e) is.1)
column-at width (v ∷ vectors) words (suc i) vector is e =
    let rest : AreWordsOf vector (take width (drop (i * width) (drop width words))) = column-at width vectors (drop width words) i vector is.2 e in
    let there : width + i * width ≡ suc i * width = let a : suc i * width ≡ i * width + width = suc-mul i width in omega arith in
    subst (λ ws. AreWordsOf vector (take width ws)) (drop-drop (i * width) width words ∙ ap (λ n. drop n words) there) rest

-- vectors that were taken out of a column, and how many stand in the rest of it
pub record IsUnpacked (dim count : ℕ) (words : List ℕ) (vectors : List (List Bool)) (left : ℕ) (rest : List ℕ) : Type 0 where
  pub same : vectors ++ vectors_in dim left rest ≡ vectors_in dim count words
  pub long : left * width_of dim ≤ length rest

pub unpacked_more : (dim count : ℕ) (words : List ℕ) (vectors : List (List Bool)) (left : ℕ) (rest : List ℕ) (vector : List Bool) → IsUnpacked dim count words vectors (suc left) rest → vector ≡ take dim (bits_in 64 (take (width_of dim) rest)) → IsUnpacked dim count words (vectors ++ vector ∷ []) left (drop (width_of dim) rest)
unpacked_more dim count words vectors left rest vector is e = record {
  same = append_assoc vectors (vector ∷ []) (vectors_in dim left (drop (width_of dim) rest)) ∙ ap (λ v. vectors ++ v ∷ vectors_in dim left (drop (width_of dim) rest)) e ∙ is.same;
  long =
      let a : suc left * width_of dim ≡ left * width_of dim + width_of dim = suc-mul left (width_of dim) in
      let b = is.long in
      let d = length-drop (width_of dim) rest in
      omega arith;
}

pub unpacked_fits : (dim count : ℕ) (words : List ℕ) (vectors : List (List Bool)) (left : ℕ) (rest : List ℕ) → IsUnpacked dim count words vectors (suc left) rest → width_of dim ≤ length rest
unpacked_fits dim count words vectors left rest is =
    let a : suc left * width_of dim ≡ left * width_of dim + width_of dim = suc-mul left (width_of dim) in
    let b = is.long in
    omega arith

-- the bytes of a vector's words
pub bytes-more : (words : List ℕ) (i word : ℕ) (bytes : List ℕ) → i < length words → word ≡ get_or words i 0 → bytes ≡ bytes_in (take i words) → bytes ++ to_le_bytes w64 word ≡ bytes_in (take (i + 1) words)
bytes-more words i word bytes lt e is =
    ap (λ bs. bs ++ to_le_bytes w64 word) is ∙ sym (bytes_in-push (take i words) word)
    ∙ ap bytes_in (ap (λ w. take i words ++ w ∷ []) e ∙ sym (take_more words i 0 lt))

pub vector-bytes : (dim : ℕ) (words : List ℕ) → dim % 8 ≡ 0 → bits_in 8 (take (dim / 8) (bytes_in words)) ≡ take dim (bits_in 64 words)
vector-bytes dim words whole =
    let n : 8 * (dim / 8) ≡ dim = omega arith in
    sym (take-bits_in 8 (dim / 8) (bytes_in words)) ∙ ap (λ k. take k (bits_in 8 (bytes_in words))) n ∙ ap (take dim) (sym (bits-bytes_in words))
