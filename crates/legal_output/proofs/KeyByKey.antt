-- Logs that have the same entries of each key leave the same rows.
use Rattle.std.proofs.Common.{◌≡◌, ℕ, ℤ, Bool, true, false, cond, List, [], ◌∷◌, refl, sym, ap, ◌∙◌, Ordering, Less, Equal, Greater}
use Rattle.std.specs.Prelude.{Option, Some, None, is_some, nat_le, nat_lt}
use Rattle.std.specs.Ordering.{int_cmp, is_eq, eq_by_cmp}
use Rattle.std.specs.Cmp.{int_cmp_total}
use Rattle.std.specs.List.{filter}
use Rattle.std.specs.FinMap as fin
use Rattle.row_types.specs.declared.rows.Row.{Row}
use Rattle.row_types.specs.Hits.{least}
use Rattle.log_model.specs.declared.logs.Write.{Write}
use Rattle.log_model.specs.declared.logs.Write.TheVariants.{Insert, Upsert, Delete}
use Rattle.log_model.specs.declared.logs.Entry.{Entry}
use Rattle.log_model.specs.declared.queries.Plan.{Plan}
use Rattle.log_model.specs.declared.queries.Query.{Query}
use Rattle.log_model.specs.Logs.{Rows, key_of, applied, after, up_to, below, rows_of, live, was_live}
use Rattle.log_model.specs.Scans.{hits_found, passes_filter, scan}
use Rattle.log_model.proofs.LogLaws.{rows_of-after}
use Rattle.legal_output.specs.Phases.{of_key}

-- the row of a key behind a write of it
abbrev changed : Option Row → Write → Option Row
changed old (Insert row) = cond (is_some old) old (Some row)
changed old (Upsert row) = Some row
changed old (Delete key) = None

abbrev row_after : Option Row → List Entry → Option Row
row_after old [] = old
row_after old (entry ∷ log) = row_after (changed old entry.write) log

inserted : (rows : Rows) (row : Row) (key : ℤ) (order : Ordering) → int_cmp key row.key.0 ≡ order
    → fin.get (fin.insert rows row.key.0 row) key ≡ cond (is_eq order) (Some row) (fin.get rows key)
inserted rows row key order is = fin.get-insert int_cmp_total rows row.key.0 row key ∙ ap (λ r. cond (is_eq r) (Some row) (fin.get rows key)) is

elsewhere : (rows : Rows) (row : Row) (key : ℤ) (b : Bool) → fin.get (fin.insert rows row.key.0 row) key ≡ fin.get rows key
    → fin.get (cond b rows (fin.insert rows row.key.0 row)) key ≡ fin.get rows key
elsewhere rows row key true same = refl
elsewhere rows row key false same = same

here : (rows : Rows) (row : Row) (key : ℤ) (there : Option Row) → fin.get rows row.key.0 ≡ fin.get rows key → fin.get rows row.key.0 ≡ there
    → fin.get (fin.insert rows row.key.0 row) key ≡ Some row
    → fin.get (cond (is_some there) rows (fin.insert rows row.key.0 row)) key ≡ cond (is_some there) there (Some row)
here rows row key None tied is new = new
here rows row key (Some other) tied is new = sym tied ∙ is

by_order : (rows : Rows) (row : Row) (key : ℤ) (order : Ordering) → int_cmp key row.key.0 ≡ order
    → fin.get (cond (fin.contains_key rows row.key.0) rows (fin.insert rows row.key.0 row)) key
    ≡ cond (is_eq order) (cond (is_some (fin.get rows key)) (fin.get rows key) (Some row)) (fin.get rows key)
by_order rows row key Less is = elsewhere rows row key (fin.contains_key rows row.key.0) (inserted rows row key Less is)
by_order rows row key Greater is = elsewhere rows row key (fin.contains_key rows row.key.0) (inserted rows row key Greater is)
by_order rows row key Equal is =
    let tied : fin.get rows row.key.0 ≡ fin.get rows key = fin.get_tied int_cmp_total rows key row.key.0 is in
    here rows row key (fin.get rows row.key.0) tied refl (inserted rows row key Equal is)
    ∙ ap (λ there. cond (is_some there) there (Some row)) tied

get-applied : (rows : Rows) (key : ℤ) (write : Write) → fin.get (applied rows write) key ≡ cond (eq_by_cmp int_cmp key (key_of write)) (changed (fin.get rows key) write) (fin.get rows key)
get-applied rows key (Insert row) = by_order rows row key (int_cmp key row.key.0) refl
get-applied rows key (Upsert row) = fin.get-insert int_cmp_total rows row.key.0 row key
get-applied rows key (Delete other) = fin.get-remove int_cmp_total rows other.0 key

one_step : (old : Option Row) (entry : Entry) (log : List Entry) (b : Bool) → row_after (cond b (changed old entry.write) old) log ≡ row_after old (cond b (entry ∷ log) log)
one_step old entry log true = refl
one_step old entry log false = refl

get-after : (rows : Rows) (key : ℤ) (log : List Entry) → fin.get (after rows log) key ≡ row_after (fin.get rows key) (of_key key log)
get-after rows key [] = refl
get-after rows key (entry ∷ log) =
    get-after (applied rows entry.write) key log
    ∙ ap (λ old. row_after old (of_key key log)) (get-applied rows key entry.write)
    ∙ one_step (fin.get rows key) entry (of_key key log) (eq_by_cmp int_cmp key (key_of entry.write))

get-rows_of : (log : List Entry) (key : ℤ) → fin.get (rows_of log) key ≡ row_after None (of_key key log)
get-rows_of log key =
    ap (λ rows. fin.get rows key) (rows_of-after log) ∙ get-after fin.empty key log ∙ ap (λ old. row_after old (of_key key log)) (fin.get-empty int_cmp key)

module _ {X : Type 0} (p q : X → Bool) where
  swap_step : (x : X) (ps qs : List X) (a b : Bool) → p x ≡ a → q x ≡ b → filter p qs ≡ filter q ps → filter p (cond b (x ∷ qs) qs) ≡ filter q (cond a (x ∷ ps) ps)
  swap_step x ps qs true true is_p is_q same = ap (λ c. cond c (x ∷ filter p qs) (filter p qs)) is_p ∙ ap (λ l. x ∷ l) same ∙ sym (ap (λ c. cond c (x ∷ filter q ps) (filter q ps)) is_q)
  swap_step x ps qs true false is_p is_q same = same ∙ sym (ap (λ c. cond c (x ∷ filter q ps) (filter q ps)) is_q)
  swap_step x ps qs false true is_p is_q same = ap (λ c. cond c (x ∷ filter p qs) (filter p qs)) is_p ∙ same
  swap_step x ps qs false false is_p is_q same = same

  filter-swap : (xs : List X) → filter p (filter q xs) ≡ filter q (filter p xs)
  filter-swap [] = refl
  filter-swap (x ∷ xs) = swap_step x (filter p xs) (filter q xs) (p x) (q x) refl refl (filter-swap xs)

live-row : (log : List Entry) (ts : ℕ) (key : ℤ) → fin.get (live log ts) key ≡ row_after None (up_to (of_key key log) ts)
live-row log ts key = get-rows_of (up_to log ts) key ∙ ap (row_after None) (filter-swap (λ entry. eq_by_cmp int_cmp key (key_of entry.write)) (λ entry. nat_le entry.ts.0 ts) log)

below-row : (log : List Entry) (ts : ℕ) (key : ℤ) → fin.get (rows_of (below log ts)) key ≡ row_after None (below (of_key key log) ts)
below-row log ts key = get-rows_of (below log ts) key ∙ ap (row_after None) (filter-swap (λ entry. eq_by_cmp int_cmp key (key_of entry.write)) (λ entry. nat_lt entry.ts.0 ts) log)

-- the row of a key asks the entries of the key alone
pub same_row : (log other : List Entry) (ts : ℕ) (key : ℤ) → of_key key log ≡ of_key key other → fin.get (live log ts) key ≡ fin.get (live other ts) key
same_row log other ts key same = live-row log ts key ∙ ap (λ es. row_after None (up_to es ts)) same ∙ sym (live-row other ts key)

pub same_live : (log other : List Entry) (ts : ℕ) → ((key : ℤ) → of_key key log ≡ of_key key other) → live log ts ≡ live other ts
same_live log other ts same = fin.same_map int_cmp_total fin.int_cmp-IsAntisymmetric (live log ts) (live other ts) (λ key. same_row log other ts key (same key))

pub same_was_live : (log other : List Entry) (ts : ℕ) (write : Write) → of_key (key_of write) log ≡ of_key (key_of write) other → was_live log ts write ≡ was_live other ts write
same_was_live log other ts write same =
    ap is_some (below-row log ts (key_of write) ∙ ap (λ es. row_after None (below es ts)) same ∙ sym (below-row other ts (key_of write)))

pub same_scan : (log other : List Entry) (ts : ℕ) (plan : Plan) (query : Query) → ((key : ℤ) → of_key key log ≡ of_key key other) → scan log ts plan query ≡ scan other ts plan query
unfolding scan
same_scan log other ts plan query same = ap (λ rows. least query.k (hits_found (passes_filter query.filter) plan query (fin.values rows))) (same_live log other ts same)
