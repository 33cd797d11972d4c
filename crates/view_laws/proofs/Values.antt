-- The values of the live rows, and what a key's row depends on.
use Rattle.std.proofs.Common.{◌≡◌, ℕ, ℤ, Bool, true, false, cond, List, [], ◌∷◌, map, Option, Some, None, is_some, refl, sym, ap, subst, ◌∙◌, inl, inr}
use Rattle.std.specs.Prelude.{IfSome}
use Rattle.std.specs.List.{filter}
use Rattle.std.specs.Ordering.{int_cmp, int_eq, eq_by_cmp}
use Rattle.std.specs.FinMap as fin
use Rattle.std.specs.FinMap.Entries.{find}
use Rattle.std.proofs.lemmas.Cmp.{int_cmp_total}
use Rattle.std.proofs.lemmas.Bool.Decides.{Decides-int_eq}
use Rattle.row_types.specs.declared.rows.Row.{Row}
use Rattle.log_model.specs.declared.logs.Write.{Write}
use Rattle.log_model.specs.declared.logs.Write.TheVariants.{Insert, Upsert, Delete}
use Rattle.log_model.specs.declared.logs.Entry.{Entry}
use Rattle.log_model.specs.Logs.{Rows, key_of, applied, after, up_to, live}
use Rattle.log_model.proofs.LogLaws.{rows_of-after}
use Rattle.log_model.proofs.Dimensions.{values_hold}
use Rattle.journal_model.specs.Lists.{IsIn}
use Rattle.journal_model.proofs.ListLaws.{all_in}
use Rattle.view_laws.specs.Wholes.{of_key}

same_some : (x y : Row) → Some x ≡ Some y → x ≡ y
same_some x y e = cc

find_in : (q : ℤ) (es : List (ℤ × Row)) (row : Row) → find int_cmp q es ≡ Some row → IsIn row (map (λ e. e.1) es)
find_in q [] row e = absurd cc
find_in q (x ∷ es) row e =
    elim (eq_by_cmp int_cmp q x.0) as (λ b. cond b (Some x.1) (find int_cmp q es) ≡ Some row → IsIn row (x.1 ∷ map (λ e. e.1) es)) [
      | true ↦ λ h. inl (same_some row x.1 (sym h))
      | false ↦ λ h. inr (find_in q es row h)
    ] e

-- the row of a key is one of the values
pub value_of_get : (rows : Rows) (q : ℤ) (row : Row) → fin.get rows q ≡ Some row → IsIn row (fin.values rows)
value_of_get rows q row e = find_in q (fin.entries rows) row (sym (fin.get-entries rows q) ∙ e)

abbrev pub IsKeyed : Rows → Type 0
IsKeyed rows = (q : ℤ) → IfSome (fin.get rows q) (λ row. row.key.0 ≡ q)

keyed_insert : (rows : Rows) (row : Row) → IsKeyed rows → IsKeyed (fin.insert rows row.key.0 row)
keyed_insert rows row keyed q =
    subst (λ o. IfSome o (λ r. r.key.0 ≡ q)) (sym (fin.get-insert int_cmp_total rows row.key.0 row q))
    (elim (int_eq q row.key.0) as (λ b. int_eq q row.key.0 ≡ b → IfSome (cond b (Some row) (fin.get rows q)) (λ r. r.key.0 ≡ q)) [
      | true ↦ λ t. sym ((Decides-int_eq q row.key.0).0 t)
      | false ↦ λ t. keyed q
    ] refl)

keyed_applied : (rows : Rows) (write : Write) → IsKeyed rows → IsKeyed (applied rows write)
keyed_applied rows (Insert row) keyed = elim (fin.contains_key rows row.key.0) as (λ b. IsKeyed (cond b rows (fin.insert rows row.key.0 row))) [ true ↦ keyed | false ↦ keyed_insert rows row keyed ]
keyed_applied rows (Upsert row) keyed = keyed_insert rows row keyed
keyed_applied rows (Delete key) keyed = λ q.
    subst (λ o. IfSome o (λ r. r.key.0 ≡ q)) (sym (fin.get-remove int_cmp_total rows key.0 q))
    (elim (eq_by_cmp int_cmp q key.0) as (λ b. IfSome (cond b None (fin.get rows q)) (λ r. r.key.0 ≡ q)) [ true ↦ tt | false ↦ keyed q ])

keyed_after : (rows : Rows) (log : List Entry) → IsKeyed rows → IsKeyed (after rows log)
keyed_after rows [] keyed = keyed
keyed_after rows (entry ∷ log) keyed = keyed_after (applied rows entry.write) log (keyed_applied rows entry.write keyed)

pub keyed_live : (log : List Entry) (t : ℕ) → IsKeyed (live log t)
keyed_live log t = subst IsKeyed (sym (rows_of-after (up_to log t))) (keyed_after fin.empty (up_to log t) (λ q. subst (λ o. IfSome o (λ r. r.key.0 ≡ q)) (sym (fin.get-empty int_cmp q)) tt))

own_key : (rows : Rows) (q : ℤ) (o : Option Row) → fin.get rows q ≡ o → IfSome o (λ row. row.key.0 ≡ q) → IfSome o (λ row. fin.get rows row.key.0 ≡ Some row)
own_key rows q None e h = tt
own_key rows q (Some row) e h = ap (λ k. fin.get rows k) h ∙ e

-- each live row is that of its key
pub get_of_value : (log : List Entry) (t : ℕ) (row : Row) → IsIn row (fin.values (live log t)) → fin.get (live log t) row.key.0 ≡ Some row
get_of_value log t row h =
    all_in (λ r. fin.get (live log t) r.key.0 ≡ Some r) (fin.values (live log t)) row
    (values_hold (λ r. fin.get (live log t) r.key.0 ≡ Some r) (live log t) (λ q. own_key (live log t) q (fin.get (live log t) q) refl (keyed_live log t q))) h

-- ---- the row of a key depends on the key's entries alone

get_applied : (key : ℤ) (m n : Rows) (write : Write) → key ≡ key_of write → fin.get m key ≡ fin.get n key → fin.get (applied m write) key ≡ fin.get (applied n write) key
get_applied key m n (Insert row) same e =
    let there : fin.contains_key m row.key.0 ≡ fin.contains_key n row.key.0 = ap is_some (subst (λ k. fin.get m k ≡ fin.get n k) same e) in
    ap (λ b. fin.get (cond b m (fin.insert m row.key.0 row)) key) there
    ∙ elim (fin.contains_key n row.key.0) as (λ b. fin.get (cond b m (fin.insert m row.key.0 row)) key ≡ fin.get (cond b n (fin.insert n row.key.0 row)) key) [
      | true ↦ e
      | false ↦ fin.get-insert int_cmp_total m row.key.0 row key ∙ ap (cond (int_eq key row.key.0) (Some row)) e ∙ sym (fin.get-insert int_cmp_total n row.key.0 row key)
    ]
get_applied key m n (Upsert row) same e = fin.get-insert int_cmp_total m row.key.0 row key ∙ ap (cond (int_eq key row.key.0) (Some row)) e ∙ sym (fin.get-insert int_cmp_total n row.key.0 row key)
get_applied key m n (Delete k) same e = fin.get-remove int_cmp_total m k.0 key ∙ ap (cond (int_eq key k.0) None) e ∙ sym (fin.get-remove int_cmp_total n k.0 key)

get_other : (rows : Rows) (write : Write) (key : ℤ) → int_eq key (key_of write) ≡ false → fin.get (applied rows write) key ≡ fin.get rows key
get_other rows (Insert row) key ne = elim (fin.contains_key rows row.key.0) as (λ b. fin.get (cond b rows (fin.insert rows row.key.0 row)) key ≡ fin.get rows key) [
  | true ↦ refl
  | false ↦ fin.get-insert int_cmp_total rows row.key.0 row key ∙ ap (λ b. cond b (Some row) (fin.get rows key)) ne
]
get_other rows (Upsert row) key ne = fin.get-insert int_cmp_total rows row.key.0 row key ∙ ap (λ b. cond b (Some row) (fin.get rows key)) ne
get_other rows (Delete k) key ne = fin.get-remove int_cmp_total rows k.0 key ∙ ap (λ b. cond b None (fin.get rows key)) ne

get_after_key : (key : ℤ) (log : List Entry) (m n : Rows) → fin.get m key ≡ fin.get n key → fin.get (after m log) key ≡ fin.get (after n (of_key key log)) key
get_after_key key [] m n e = e
get_after_key key (entry ∷ log) m n e =
    elim (int_eq key (key_of entry.write)) as (λ b. int_eq key (key_of entry.write) ≡ b → fin.get (after (applied m entry.write) log) key ≡ fin.get (after n (cond b (entry ∷ of_key key log) (of_key key log))) key) [
      | true ↦ λ t. get_after_key key log (applied m entry.write) (applied n entry.write) (get_applied key m n entry.write ((Decides-int_eq key (key_of entry.write)).0 t) e)
      | false ↦ λ t. get_after_key key log (applied m entry.write) n (get_other m entry.write key t ∙ e)
    ] refl

pub filter-swap : {X : Type 0} (p q : X → Bool) (xs : List X) → filter p (filter q xs) ≡ filter q (filter p xs)
filter-swap p q [] = refl
filter-swap p q (x ∷ xs) =
    elim (p x) as (λ b. p x ≡ b → filter p (cond (q x) (x ∷ filter q xs) (filter q xs)) ≡ filter q (cond b (x ∷ filter p xs) (filter p xs))) [
      | true ↦ λ t. elim (q x) as (λ c. filter p (cond c (x ∷ filter q xs) (filter q xs)) ≡ cond c (x ∷ filter q (filter p xs)) (filter q (filter p xs))) [
        | true ↦ ap (λ b. cond b (x ∷ filter p (filter q xs)) (filter p (filter q xs))) t ∙ ap (λ l. x ∷ l) (filter-swap p q xs)
        | false ↦ filter-swap p q xs
      ]
      | false ↦ λ t. elim (q x) as (λ c. filter p (cond c (x ∷ filter q xs) (filter q xs)) ≡ filter q (filter p xs)) [
        | true ↦ ap (λ b. cond b (x ∷ filter p (filter q xs)) (filter p (filter q xs))) t ∙ filter-swap p q xs
        | false ↦ filter-swap p q xs
      ]
    ] refl

abbrev kept_of : ℤ → ℕ → List Entry → Option Row
kept_of key t entries = fin.get (after fin.empty (up_to entries t)) key

get_live : (key : ℤ) (log : List Entry) (t : ℕ) → fin.get (live log t) key ≡ kept_of key t (of_key key log)
get_live key log t =
    ap (λ m. fin.get m key) (rows_of-after (up_to log t))
    ∙ get_after_key key (up_to log t) fin.empty fin.empty refl
    ∙ ap (λ l. fin.get (after fin.empty l) key) (filter-swap _ _ log)

-- logs with the same entries of a key leave it the same row
pub get_same : (key : ℤ) (log other : List Entry) (t : ℕ) → of_key key log ≡ of_key key other → fin.get (live log t) key ≡ fin.get (live other t) key
get_same key log other t e = get_live key log t ∙ ap (kept_of key t) e ∙ sym (get_live key other t)

pub get_none : (key : ℤ) (log : List Entry) (t : ℕ) → of_key key log ≡ [] → fin.get (live log t) key ≡ None
get_none key log t e = get_live key log t ∙ ap (kept_of key t) e ∙ fin.get-empty int_cmp key
