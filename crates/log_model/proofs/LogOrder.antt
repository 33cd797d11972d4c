-- The order of a log: how it goes on, and which of its entries are up to a timestamp.
use Rattle.std.proofs.Common.{◌≡◌, ◌≢◌, ℕ, zero, suc, ◌<◌, ◌≤◌, ◌⊎◌, inl, inr, cond, List, [], ◌∷◌, ◌++◌, take, drop, refl, ap, ◌∙◌, arith}
use Rattle.std.specs.List.{AllByRecursion as Each, AllByRecursion-prop}
use Rattle.std.specs.Coded.{×_prop, Unit-prop, le_prop}
use Rattle.std.proofs.Props.{props}
use Rattle.std.proofs.lemmas.Bool.{cases_lt, le-leb, lt-leb}
use Rattle.hybrid_time.specs.declared.times.Timestamp.{Timestamp}
use Rattle.log_model.specs.declared.logs.Entry.{Entry}
use Rattle.log_model.specs.declared.logs.Write.{Write}
use Rattle.log_model.specs.Logs.{key_of, IsBefore, IsLog, IsWrite, entries_at, up_to, IsAbove}
use Rattle.log_model.proofs.LogLaws.{each-append, each_implied, filter-none}

either_prop : {A B : Type 0} → IsProp A → IsProp B → (A → B → ⊥) → IsProp (A ⊎ B)
either_prop a b apart (inl x) (inl y) = ap inl (a x y)
either_prop a b apart (inl x) (inr y) = absurd (apart x y)
either_prop a b apart (inr x) (inl y) = absurd (apart y x)
either_prop a b apart (inr x) (inr y) = ap inr (b x y)

lower_or_same : (a b : ℕ) → a < b → a ≡ b → ⊥
lower_or_same a b low same = omega arith

IsBefore-prop : (entry later : Entry) → IsProp (IsBefore entry later)
IsBefore-prop entry later = either_prop le_prop (hlevel props) (λ low same. lower_or_same entry.ts.0 later.ts.0 low same.0)

-- that a list of entries is a log is a proposition
pub IsLog-prop : (log : List Entry) → IsProp (IsLog log)
IsLog-prop [] = Unit-prop
IsLog-prop (entry ∷ log) = ×_prop (AllByRecursion-prop (IsBefore entry) (λ later. IsBefore-prop entry later) log) (IsLog-prop log)

-- a log goes on with an entry before which all its entries may stand
pub log-push : (log : List Entry) (entry : Entry) → IsLog log → Each (λ earlier. IsBefore earlier entry) log → IsLog (log ++ entry ∷ [])
log-push [] entry is before = (tt, tt)
log-push (first ∷ log) entry is before = (each-append (IsBefore first) log (entry ∷ []) is.0 (before.0, tt), log-push log entry is.1 before.1)

pub log-append : (log more : List Entry) → IsLog log → IsLog more → Each (λ earlier. Each (IsBefore earlier) more) log → IsLog (log ++ more)
log-append [] more is others before = others
log-append (first ∷ log) more is others before = (each-append (IsBefore first) log more is.0 before.0, log-append log more is.1 others before.1)

pub log-drop : (n : ℕ) (log : List Entry) → IsLog log → IsLog (drop n log)
log-drop zero log is = is
log-drop (suc n) [] is = tt
log-drop (suc n) (entry ∷ log) is = log-drop n log is.1

-- the entries of one write
other_keys : (ts : Timestamp) (change : Write) (changes : List Write) → Each (λ other. key_of change ≢ key_of other) changes
    → Each (IsBefore (record { ts = ts; write = change })) (entries_at ts changes)
other_keys ts change [] differ = tt
other_keys ts change (other ∷ changes) differ = (inr (refl, differ.0), other_keys ts change changes differ.1)

write_log : (ts : Timestamp) (changes : List Write) → IsWrite changes → IsLog (entries_at ts changes)
write_log ts [] is = tt
write_log ts (change ∷ changes) is = (other_keys ts change changes is.0, write_log ts changes is.1)

below_write : (entry : Entry) (ts : Timestamp) (changes : List Write) → entry.ts.0 < ts.0 → Each (IsBefore entry) (entries_at ts changes)
below_write entry ts [] low = tt
below_write entry ts (change ∷ changes) low = (inl low, below_write entry ts changes low)

-- a log goes on with a write above its timestamps
pub log-write : (log : List Entry) (ts : Timestamp) (changes : List Write) → IsLog log → Each (λ entry. entry.ts.0 < ts.0) log → IsWrite changes
    → IsLog (log ++ entries_at ts changes)
log-write log ts changes is low write = log-append log (entries_at ts changes) is (write_log ts changes write) (each_implied _ _ (λ entry. below_write entry ts changes) log low)

-- what stands behind an entry above a timestamp is above it too
lt_le : (a b c : ℕ) → a < b → b ≤ c → a < c
lt_le a b c low high = omega arith

not_lower : (entry later : Entry) → IsBefore entry later → entry.ts.0 ≤ later.ts.0
not_lower entry later (inl low) = omega arith
not_lower entry later (inr same) = omega (arith, same.0)

pub above_behind : (ts : ℕ) (entry : Entry) (log : List Entry) → ts < entry.ts.0 → Each (IsBefore entry) log → IsAbove ts log
above_behind ts entry log above before = each_implied _ _ (λ later is. lt_le ts entry.ts.0 later.ts.0 above (not_lower entry later is)) log before

-- the entries up to a timestamp are the first ones of a log, and those behind them are above it
pub record IsCut (log : List Entry) (ts n : ℕ) : Type 0 where
  pub first : up_to log ts ≡ take n log
  pub rest : IsAbove ts (drop n log)

cut_at : (entry : Entry) (log : List Entry) (ts : ℕ) → IsLog (entry ∷ log) → ((n : ℕ) × IsCut log ts n) → ((entry.ts.0 ≤ ts) ⊎ (ts < entry.ts.0)) → (n : ℕ) × IsCut (entry ∷ log) ts n
cut_at entry log ts is cut (inl low) = (
  suc cut.0,
  record {
    first = ap (λ b. cond b (entry ∷ up_to log ts) (up_to log ts)) (le-leb entry.ts.0 ts low) ∙ ap (λ l. entry ∷ l) cut.1.first;
    rest = cut.1.rest;
  },
)
cut_at entry log ts is cut (inr above) =
    let rest : IsAbove ts log = above_behind ts entry log above is.0 in (
      0,
      record {
        first = ap (λ b. cond b (entry ∷ up_to log ts) (up_to log ts)) (lt-leb entry.ts.0 ts above)
            ∙ filter-none _ log (each_implied _ _ (λ later h. lt-leb later.ts.0 ts h) log rest);
        rest = (above, rest);
      },
    )

low_or_above : (a b : ℕ) → (a ≤ b) ⊎ (b < a)
low_or_above a b = elim (cases_lt b a) [ inl above ↦ inr above | inr low ↦ inl low ]

pub log-cut : (log : List Entry) (ts : ℕ) → IsLog log → (n : ℕ) × IsCut log ts n
log-cut [] ts is = (0, record { first = refl; rest = tt })
log-cut (entry ∷ log) ts is = cut_at entry log ts is (log-cut log ts is.1) (low_or_above entry.ts.0 ts)
