-- The distance of two lists of bits, and the order of hits.
use Rattle.std.specs.Prelude.{ℕ, zero, suc, ◌-◌, ◌*◌, ◌≡◌, ◌≢◌, Bool, List, map, take, AllPairs, Contains}
use Rattle.std.specs.Ordering.{nat_cmp, int_cmp, then_cmp, on}
use Rattle.std.specs.FinMap as fin
use Rattle.std.specs.declared.cmp.Ordering.{Ordering}
use Rattle.row_types.specs.declared.hits.Metric.{Metric}
use Rattle.row_types.specs.declared.hits.Metric.TheVariants as metrics
use Rattle.row_types.specs.declared.hits.Distance.{Distance}
use Rattle.row_types.specs.declared.hits.Distance.TheVariants.{Hamming, Jaccard}
use Rattle.row_types.specs.declared.hits.Hit.{Hit}
use Rattle.row_types.specs.Bits.{hamming_of, union_of, common_of}

-- the share of the union that is not common; two vectors with no bit set are at 0/1
abbrev pub fraction_of : ℕ → ℕ → Distance
fraction_of zero common = Jaccard 0 1
fraction_of (suc union) common = Jaccard (suc union - common) (suc union)

abbrev pub jaccard_of : List Bool → List Bool → Distance
jaccard_of xs ys = fraction_of (union_of xs ys) (common_of xs ys)

-- the distance of two lists of bits by a metric
abbrev pub distance_of : Metric → List Bool → List Bool → Distance
distance_of metrics.Hamming xs ys = Hamming (hamming_of xs ys)
distance_of metrics.Jaccard xs ys = jaccard_of xs ys

-- the value of a distance is `num_of` over `den_of`; a Hamming distance is a whole number
abbrev pub num_of : Distance → ℕ
num_of (Hamming h) = h
num_of (Jaccard num den) = num

abbrev pub at_least_one : ℕ → ℕ
at_least_one zero = 1
at_least_one (suc n) = suc n

-- a denominator of 0, which no distance has, counts as 1, so that the order is total
abbrev pub den_of : Distance → ℕ
den_of (Hamming h) = 1
den_of (Jaccard num den) = at_least_one den

-- by value: fractions are compared by cross products
abbrev pub value_cmp : Distance → Distance → Ordering
value_cmp a b = nat_cmp (num_of a * den_of b) (num_of b * den_of a)

abbrev pub written_den : Distance → ℕ
written_den (Hamming h) = 1
written_den (Jaccard num den) = den

abbrev pub variant_of : Distance → ℕ
variant_of (Hamming h) = 0
variant_of (Jaccard num den) = 1

-- by the numbers of which a distance is made: numerator, denominator, and which of the two forms it has
abbrev pub parts_cmp : Distance → Distance → Ordering
parts_cmp = then_cmp (on num_of nat_cmp) (then_cmp (on written_den nat_cmp) (on variant_of nat_cmp))

-- by the value of the distance, then by key, then by the parts of the distance
abbrev pub hit_cmp : Hit → Hit → Ordering
hit_cmp = then_cmp (on (λ h. h.distance) value_cmp) (then_cmp (on (λ h. h.key.0) int_cmp) (on (λ h. h.distance) parts_cmp))

-- an entry of a map to nothing
abbrev pub with_nothing : {K : Type 0} → K → K × Unit {0}
with_nothing item = (item, tt)

-- the items of a list in rising order, each once
abbrev pub in_order : {K : Type 0} (R : K → K → Ordering) → List K → List K
in_order R items = fin.keys (fin.from_entries {R = R} (map with_nothing items))

-- the k least of some hits, each once, in rising order
abbrev pub least : ℕ → List Hit → List Hit
least k hits = take k (in_order hit_cmp hits)

-- a key that stands twice has the same distance both times, as where each distance is that of the key's row
abbrev pub IsOneDistanceAKey : List Hit → Type 0
IsOneDistanceAKey hits = (x y : Hit) → Contains hits x → Contains hits y → x.key ≡ y.key → x.distance ≡ y.distance

abbrev pub IsEachKeyOnce : List Hit → Type 0
IsEachKeyOnce hits = AllPairs (λ x y. x.key ≢ y.key) hits
