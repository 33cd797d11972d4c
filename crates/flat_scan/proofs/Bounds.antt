-- How a bar's parts tell whether a distance is past it.
use Rattle.std.proofs.Common.{◌≡◌, ℕ, zero, suc, ◌*◌, ◌^◌, ◌<◌, ◌/◌, Bool, true, false, nat_lt, Option, Some, None, refl, sym, ◌∙◌, arith, rules}
use Rattle.std.proofs.Math.Nat.{div-lt_iff_lt-mul}
use Rattle.std.proofs.lemmas.Bool.{ltb-true, lt-ltb, ltb_from_iff}
use Rattle.std.specs.Ordering.{is_lt, nat_cmp}
use Rattle.row_types.specs.declared.hits.Distance.{Distance}
use Rattle.row_types.specs.declared.hits.Distance.TheVariants.{Hamming, Jaccard}
use Rattle.row_types.specs.declared.hits.Hit.{Hit}
use Rattle.row_types.specs.Hits.{num_of, den_of}
use Rattle.flat_scan.specs.Bars.{is_past, whole_of}

den-some : (d : Distance) → zero < den_of d
den-some (Hamming h) = omega arith
den-some (Jaccard num zero) = omega arith
den-some (Jaccard num (suc den)) = omega arith

less_is : (a b : ℕ) → nat_lt a b ≡ is_lt (nat_cmp a b)
less_is a b = search rules

-- a number of bits is past a hit exactly where it is above the whole part of the hit's value
pub whole_past : (hit : Option Hit) (bits : ℕ) → bits < 2 ^ 32 → nat_lt (whole_of hit) bits ≡ is_past hit (Hamming bits)
whole_past None bits few = none (nat_lt 4294967295 bits) refl
  where
    none : (b : Bool) → nat_lt 4294967295 bits ≡ b → nat_lt 4294967295 bits ≡ false
    none false e = e
    none true e = absurd (omega (arith, ltb-true 4294967295 bits e, few))
whole_past (Some last) bits few =
    let num = num_of last.distance in
    let den = den_of last.distance in
    let iff = div-lt_iff_lt-mul {k = den} {x = num} {y = bits} (den-some last.distance) in
    let one : num * 1 ≡ num = omega arith in
    let same : nat_lt (num / den) bits ≡ nat_lt num (bits * den) = ltb_from_iff ((λ e. iff.0 (ltb-true (num / den) bits e)), (λ h. lt-ltb (num / den) bits (iff.1 h))) in
    same ∙ less_is num (bits * den) ∙ (λ i. is_lt (nat_cmp (sym one i) (bits * den)))
