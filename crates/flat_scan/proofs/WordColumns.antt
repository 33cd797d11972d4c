-- The words of rows in one column, and the distances that they tell.
use Rattle.std.proofs.Common.{◌≡◌, ℕ, zero, suc, ◌+◌, ◌*◌, ◌/◌, ◌<◌, Bool, List, [], ◌∷◌, length, map, take, drop, get_or, slice_get, Some, refl, sym, ap, ap₂, subst, ◌∙◌, drop-drop, length-drop, suc-mul, zero-mul, arith}
use Rattle.std.proofs.Math.Nat.{mul-div_cancel}
use Rattle.std.proofs.lemmas.List.{take_all}
use Rattle.std.specs.Simd.{first_chunks}
use Rattle.row_types.specs.declared.hits.Metric.{Metric}
use Rattle.row_types.specs.declared.hits.Metric.TheVariants as metrics
use Rattle.row_types.specs.declared.hits.Distance.TheVariants.{Hamming}
use Rattle.row_types.specs.Bits.{bits_in, both, AreWordsOf}
use Rattle.row_types.specs.Hits.{distance_of, fraction_of}
use Rattle.row_types.proofs.PackedBits.{chunk_at}
use Rattle.bit_distance.proofs.BitCounts.{count_packed, differing_packed, union_packed}
use Rattle.log_model.specs.declared.queries.Query.{Query}
use Rattle.log_model.specs.declared.queries.Plan.{Plan}
use Rattle.log_model.specs.Places.{Placed, IsColumn}
use Rattle.row_types.specs.declared.rows.Row.{Row}
use Rattle.seg_sealed.specs.Parts.{shown_from}
use Rattle.journal_model.specs.Views.{Shown}
use Rattle.flat_scan.specs.Rows.{vector_shown, HaveVectorsLike, HoldsVectors, AreDistances, row_at}
use Rattle.flat_scan.proofs.MarkedRows.{some_same, none_some, like_at, some-within, shown-length, shown-row}

-- the words of the row of a number
pub column-at : (width : ℕ) (rows : List Shown) (words : List ℕ) (i : ℕ) (s : Shown) → IsColumn width (map vector_shown rows) words → slice_get rows i ≡ Some s → AreWordsOf s.row.vector (take width (drop (i * width) words))
column-at width [] words i s c e = absurd (none_some s e)
column-at width (x ∷ rows) words zero s c e = rw zero-mul (subst (λ (z : Shown). AreWordsOf z.row.vector (take width words)) (some_same x s e) c.1)
column-at width (x ∷ rows) words (suc i) s c e =
    let count : width + i * width ≡ suc i * width = omega (arith, suc-mul i width) in
    subst (λ t. AreWordsOf s.row.vector (take width t)) (drop-drop (i * width) width words ∙ ap (λ n. drop n words) count) (column-at width rows (drop width words) i s c.2 e)

pub column-length : (width : ℕ) (rows : List Shown) (words : List ℕ) → IsColumn width (map vector_shown rows) words → length words ≡ length rows * width
column-length width [] words c = rw (c, zero-mul) refl
column-length width (x ∷ rows) words c =
    let rest : length (drop width words) ≡ length rows * width = column-length width rows (drop width words) c.2 in
    omega (arith, suc-mul (length rows) width, rest, length-drop width words, c.0)

-- words tell the distance of their vectors
pub distance_packed : (metric : Metric) (a b : List Bool) (ws us : List ℕ) → AreWordsOf a ws → AreWordsOf b us → length a ≡ length b → distance_of metric (bits_in 64 ws) (bits_in 64 us) ≡ distance_of metric a b
distance_packed metrics.Hamming a b ws us p q same = ap Hamming (differing_packed a b ws us p q same)
distance_packed metrics.Jaccard a b ws us p q same = ap₂ fraction_of (union_packed a b ws us p q same) (count_packed both refl a b ws us p q same)

-- the words of the query are the first chunk of their width
pub first_is : (n : ℕ) (query : List ℕ) (chunks : List (List ℕ)) (first : List ℕ) → 0 < n → length query ≡ n → chunks ≡ first_chunks n (length query / n) query → first ≡ get_or chunks 0 first → first ≡ query
first_is n query chunks first some same cut e =
    let once : 1 * n ≡ n = omega arith in
    let one : length query / n ≡ 1 = ap (λ m. m / n) (same ∙ sym once) ∙ mul-div_cancel 1 some in
    e ∙ ap (λ (l : List (List ℕ)). get_or l 0 first) cut ∙ chunk_at n (length query / n) 0 query first (omega (arith, one)) ∙ rw zero-mul (take_all n query (omega (arith, same)))

-- rows that stand one by one
pub one_by_one : (plan : Plan) (query : Query) (deaths : List (ℕ × ℕ)) (from : ℕ) (rows : List Placed) → AreDistances plan query (shown_from deaths from rows) (length rows) (λ i. distance_of plan.metric query.vector (row_at rows i).row.vector)
one_by_one plan query deaths from rows = record {
  all = omega (arith, shown-length deaths from rows);
  each = λ i s e. ap (λ (r : Row). distance_of plan.metric query.vector r.vector) (shown-row deaths from rows i s e);
}

-- chunks of a fixed width
pub holds_fixed : (query : Query) (rows : List Shown) (n : ℕ) (words : List ℕ) (chunks : List (List ℕ)) (first : List ℕ) → 0 < n → AreWordsOf query.vector first → HaveVectorsLike query rows → IsColumn n (map vector_shown rows) words
    → chunks ≡ first_chunks n (length words / n) words → length chunks ≡ length words / n → HoldsVectors query rows (length chunks) (bits_in 64 first) (λ i. bits_in 64 (get_or chunks i []))
holds_fixed query rows n words chunks first some are like c cut count =
    let long : length words ≡ length rows * n = column-length n rows words c in
    let exact : length words / n ≡ length rows = ap (λ m. m / n) long ∙ mul-div_cancel (length rows) some in
    record {
      all = omega (arith, count, exact);
      each = λ i s e metric.
          let below : i < length words / n = omega (arith, exact, some-within rows i s e) in
          let there : get_or chunks i [] ≡ take n (drop (i * n) words) = ap (λ (l : List (List ℕ)). get_or l i []) cut ∙ chunk_at n (length words / n) i words [] below in
          ap (λ l. distance_of metric (bits_in 64 first) (bits_in 64 l)) there
          ∙ distance_packed metric query.vector s.row.vector first (take n (drop (i * n) words)) are (column-at n rows words i s c e) (like_at query rows i s like e);
    }

pub holds_wide : (query : Query) (rows : List Shown) (count : ℕ) (ours words : List ℕ) → count ≡ length rows → AreWordsOf query.vector ours → HaveVectorsLike query rows → IsColumn (length ours) (map vector_shown rows) words
    → HoldsVectors query rows count (bits_in 64 ours) (λ i. bits_in 64 (take (length ours) (drop (i * length ours) words)))
holds_wide query rows count ours words all are like c = record {
  all = omega (arith, all);
  each = λ i s e metric. distance_packed metric query.vector s.row.vector ours (take (length ours) (drop (i * length ours) words)) are (column-at (length ours) rows words i s c e) (like_at query rows i s like e);
}
