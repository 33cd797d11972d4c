-- The order of hits is total, and only equal hits tie in it.
use Rattle.std.proofs.Common.{◌≡◌, ℕ, zero, suc, ◌*◌, ◌<◌, refl, sym, ap, ◌∙◌, arith, lit<}
use Rattle.std.proofs.Math.Nat.{mul_right_comm, mul-lt-mul_of_pos_right}
use Rattle.std.specs.Cmp.{IsTotalOrder, ranked, nat_cmp_is, nat_cmp_total, int_cmp_total, then_total, on_total}
use Rattle.std.specs.FinMap.{IsAntisymmetric, nat_cmp-IsAntisymmetric, int_cmp-IsAntisymmetric}
use Rattle.std.specs.Ordering.{MatchOrdering, nat_cmp, ordering_then}
use Rattle.std.specs.declared.cmp.Ordering.{Ordering}
use Rattle.std.specs.declared.cmp.Ordering.TheVariants.{Less, Equal, Greater}
use Rattle.row_types.specs.declared.hits.Distance.{Distance}
use Rattle.row_types.specs.declared.hits.Distance.TheVariants.{Hamming, Jaccard}
use Rattle.row_types.specs.Hits.{num_of, den_of, at_least_one, written_den, variant_of, value_cmp, parts_cmp, hit_cmp}

scaled_rank : (x y m : ℕ) (r : Ordering) → 0 < m → MatchOrdering r (x < y) (x ≡ y) (y < x) → MatchOrdering r (x * m < y * m) (x * m ≡ y * m) (y * m < x * m)
scaled_rank x y m Less some h = mul-lt-mul_of_pos_right h some
scaled_rank x y m Equal some h = ap (λ n. n * m) h
scaled_rank x y m Greater some h = mul-lt-mul_of_pos_right h some

nat_cmp-scaled : (x y m : ℕ) → 0 < m → nat_cmp x y ≡ nat_cmp (x * m) (y * m)
nat_cmp-scaled x y m some = nat_cmp_is (x * m) (y * m) (nat_cmp x y) (scaled_rank x y m (nat_cmp x y) some (ranked x y (nat_cmp x y) refl))

-- of three fractions a / p, b / q and c / r
module _ (a p b q c r : ℕ) (some_p : 0 < p) (some_q : 0 < q) (some_r : 0 < r) where
  outer : nat_cmp (a * r) (c * p) ≡ nat_cmp (a * q * r) (c * q * p)
  outer = nat_cmp-scaled (a * r) (c * p) q some_q ∙ λ i. nat_cmp (mul_right_comm a r q i) (mul_right_comm c p q i)

  fractions_trans : nat_cmp (a * q) (b * p) ≡ Less → nat_cmp (b * r) (c * q) ≡ Less → nat_cmp (a * r) (c * p) ≡ Less
  fractions_trans h k =
      outer ∙ nat_cmp_total.trans (a * q * r) (b * p * r) (c * q * p)
      (sym (nat_cmp-scaled (a * q) (b * p) r some_r) ∙ h)
      ((λ i. nat_cmp (mul_right_comm b p r i) (c * q * p)) ∙ sym (nat_cmp-scaled (b * r) (c * q) p some_p) ∙ k)

  fractions_congr : nat_cmp (a * q) (b * p) ≡ Equal → nat_cmp (a * r) (c * p) ≡ nat_cmp (b * r) (c * q)
  fractions_congr h =
      let same : a * q ≡ b * p = nat_cmp-IsAntisymmetric (a * q) (b * p) h in
      outer ∙ (λ i. nat_cmp (same i * r) (c * q * p)) ∙ (λ i. nat_cmp (mul_right_comm b p r i) (c * q * p)) ∙ sym (nat_cmp-scaled (b * r) (c * q) p some_p)

some_at_least : (n : ℕ) → 0 < at_least_one n
some_at_least zero = lit< tt
some_at_least (suc n) = omega arith

some_den : (d : Distance) → 0 < den_of d
some_den (Hamming h) = lit< tt
some_den (Jaccard num den) = some_at_least den

values_total : IsTotalOrder value_cmp
values_total = record {
  antisymm = λ x y. nat_cmp_total.antisymm (num_of x * den_of y) (num_of y * den_of x);
  trans = λ x y z. fractions_trans (num_of x) (den_of x) (num_of y) (den_of y) (num_of z) (den_of z) (some_den x) (some_den y) (some_den z);
  congr = λ x y z. fractions_congr (num_of x) (den_of x) (num_of y) (den_of y) (num_of z) (den_of z) (some_den x) (some_den y) (some_den z);
}

parts_total : IsTotalOrder parts_cmp
parts_total = then_total (on_total num_of nat_cmp_total) (then_total (on_total written_den nat_cmp_total) (on_total variant_of nat_cmp_total))

pub hits_total : IsTotalOrder hit_cmp
hits_total = then_total (on_total (λ h. h.distance) values_total) (then_total (on_total (λ h. h.key.0) int_cmp_total) (on_total (λ h. h.distance) parts_total))

first_equal : (a b : Ordering) → ordering_then a b ≡ Equal → a ≡ Equal
first_equal Less b e = cc
first_equal Equal b e = refl
first_equal Greater b e = cc

second_equal : (a b : Ordering) → ordering_then a b ≡ Equal → b ≡ Equal
second_equal Less b e = cc
second_equal Equal b e = e
second_equal Greater b e = cc

same_parts : (d e : Distance) → num_of d ≡ num_of e → written_den d ≡ written_den e → variant_of d ≡ variant_of e → d ≡ e
same_parts (Hamming g) (Hamming h) num den form = ap Hamming num
same_parts (Hamming g) (Jaccard n m) num den form = absurd (omega arith)
same_parts (Jaccard k l) (Hamming h) num den form = absurd (omega arith)
same_parts (Jaccard k l) (Jaccard n m) num den form = λ i. Jaccard (num i) (den i)

parts_exact : IsAntisymmetric parts_cmp
parts_exact d e h =
    let others = second_equal _ _ h in
    same_parts d e
    (nat_cmp-IsAntisymmetric (num_of d) (num_of e) (first_equal _ _ h))
    (nat_cmp-IsAntisymmetric (written_den d) (written_den e) (first_equal _ _ others))
    (nat_cmp-IsAntisymmetric (variant_of d) (variant_of e) (second_equal _ _ others))

-- hits that are equal in the order are the same
pub hits_exact : IsAntisymmetric hit_cmp
hits_exact x y h =
    let others = second_equal _ _ h in
    let key : x.key.0 ≡ y.key.0 = int_cmp-IsAntisymmetric x.key.0 y.key.0 (first_equal _ _ others) in
    let distance : x.distance ≡ y.distance = parts_exact x.distance y.distance (second_equal _ _ others) in
    λ i. record { distance = distance i; key = record { 0 = key i } }
