-- What contracts see of a key index.
use Rattle.std.specs.Prelude.{ℕ, refl}
use Rattle.std.specs.Coded.{Coded, code_by, coded×, coded_ℕ, coded_ℤ}
use Rattle.std.specs.Ordering.{int_cmp}
use Rattle.std.specs.FinMap as fin

-- the positions of keys, and how many more keys it takes without memory
pub record KeyMap : Type 0 where
  pub map : fin.FinMap int_cmp ℕ
  pub spare : ℕ

abbrev pub key_map_code : Coded KeyMap
key_map_code =
    code_by (fin.FinMap int_cmp ℕ × ℕ) (coded× (fin.code coded_ℤ coded_ℕ) coded_ℕ) (λ k. (k.map, k.spare)) (λ p. record { map = p.0; spare = p.1 }) (λ _. refl)
