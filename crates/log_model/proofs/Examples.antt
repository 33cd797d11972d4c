-- Small logs, and lists of entries that are none.
use Rattle.std.proofs.Common.{◌≡◌, ◌≢◌, ℕ, ℤ, pos, negsuc, ◌<◌, inl, inr, [], ◌∷◌, refl, ap, arith, lit<}
use Rattle.log_model.specs.declared.logs.Write.{Write}
use Rattle.log_model.specs.declared.logs.Write.TheVariants.{Delete}
use Rattle.log_model.specs.declared.logs.Entry.{Entry}
use Rattle.log_model.specs.Logs.{key_of, IsLog}

abbrev at : ℕ → Write → Entry
at ts write = record { ts = record { 0 = ts }; write = write }

abbrev delete : ℤ → Write
delete key = Delete (record { 0 = key })

lower_than_itself : (n : ℕ) → n < n → ⊥
lower_than_itself n low = omega arith

falls : (n m : ℕ) → m < n → n < m → ⊥
falls n m above low = omega arith

differ : (n m : ℕ) → m < n → n ≡ m → ⊥
differ n m above same = omega arith

abbrev number : ℤ → ℕ
number (pos n) = n
number (negsuc n) = 0

two_and_one : pos 2 ≢ pos 1
two_and_one same = differ 2 1 (lit< tt) (ap number same)

-- two keys are written at one timestamp
pub two_keys_at_one_timestamp : IsLog (at 4 (delete (pos 2)) ∷ at 4 (delete (pos 1)) ∷ [])
two_keys_at_one_timestamp = ((inr (refl, two_and_one), tt), (tt, tt))

-- one key is not written twice at one timestamp
pub no_key_twice_at_one_timestamp : (ts : ℕ) (one other : Write) → key_of one ≡ key_of other → IsLog (at ts one ∷ at ts other ∷ []) → ⊥
no_key_twice_at_one_timestamp ts one other same is = elim is.0.0 [
  | inl low ↦ lower_than_itself ts low
  | inr apart ↦ apart.1 same
]

-- no timestamp is below one before it
pub no_timestamp_falls : (one other : Write) → IsLog (at 2 one ∷ at 1 other ∷ []) → ⊥
no_timestamp_falls one other is = elim is.0.0 [
  | inl low ↦ falls 2 1 (lit< tt) low
  | inr apart ↦ differ 2 1 (lit< tt) apart.0
]
