-- The vectors of the live rows have the dimension of the log's vectors.
use Rattle.std.proofs.Common.{◌≡◌, ℕ, ℤ, Bool, true, false, cond, List, [], ◌∷◌, map, length, refl, sym, ap, subst, ◌∙◌}
use Rattle.std.specs.Prelude.{T, ◌&&◌, IfSome, Option, Some, None}
use Rattle.std.specs.declared.cmp.Ordering.{Ordering}
use Rattle.std.specs.declared.cmp.Ordering.TheVariants.{Less, Equal, Greater}
use Rattle.std.specs.Ordering.{int_cmp, is_eq, is_lt, eq_by_cmp}
use Rattle.std.proofs.lemmas.Cmp.{int_cmp_total, tied_itself}
use Rattle.std.specs.List.{filter, AllByRecursion as Each}
use Rattle.std.specs.FinMap as fin
use Rattle.std.specs.FinMap.Entries.{find, below_all, is_sorted}
use Rattle.row_types.specs.declared.rows.Row.{Row}
use Rattle.log_model.specs.declared.logs.Write.{Write}
use Rattle.log_model.specs.declared.logs.Write.TheVariants.{Insert, Upsert, Delete}
use Rattle.log_model.specs.declared.logs.Entry.{Entry}
use Rattle.log_model.specs.Logs.{Rows, applied, after, up_to, rows_of, live}
use Rattle.log_model.specs.Scans.{FitsDimension, HasDimension}
use Rattle.log_model.proofs.LogLaws.{rows_of-after}

first_holds : (a b : Bool) → T (a && b) → T a
first_holds true b p = tt
first_holds false b p = absurd p

second_holds : (a b : Bool) → T (a && b) → T b
second_holds true b p = p
second_holds false b p = absurd p

is_less : (r : Ordering) → T (is_lt r) → r ≡ Less
is_less Less p = refl
is_less Equal p = absurd p
is_less Greater p = absurd p

is_equal : (r : Ordering) → is_eq r ≡ true → r ≡ Equal
is_equal Less e = cc
is_equal Equal e = refl
is_equal Greater e = cc

module _ (P : Row → Type 0) where
  kept_by_cond : (b : Bool) (row : Row) (found : Option Row) → P row → IfSome found P → IfSome (cond b (Some row) found) P
  kept_by_cond true row found here rest = here
  kept_by_cond false row found here rest = rest

  cut_by_cond : (b : Bool) (found : Option Row) → IfSome found P → IfSome (cond b None found) P
  cut_by_cond true found rest = tt
  cut_by_cond false found rest = rest

  -- behind the entry of a key stands no other that ties with it
  none_behind : (q k : ℤ) (es : List (ℤ × Row)) → int_cmp q k ≡ Equal → T (below_all int_cmp k es) → find int_cmp q es ≡ None
  none_behind q k [] tie low = refl
  none_behind q k (e ∷ es) tie low =
      let less : int_cmp q e.0 ≡ Less = int_cmp_total.congr q k e.0 tie ∙ is_less (int_cmp k e.0) (first_holds (is_lt (int_cmp k e.0)) (below_all int_cmp k es) low) in
      ap (λ r. cond (is_eq r) (Some e.1) (find int_cmp q es)) less ∙ none_behind q k es tie (second_holds (is_lt (int_cmp k e.0)) (below_all int_cmp k es) low)

  tail_found : (q : ℤ) (e : ℤ × Row) (es : List (ℤ × Row)) (b : Bool) → eq_by_cmp int_cmp q e.0 ≡ b → T (below_all int_cmp e.0 es)
      → IfSome (cond b (Some e.1) (find int_cmp q es)) P → IfSome (find int_cmp q es) P
  tail_found q e es true tie low holds = subst (λ o. IfSome o P) (sym (none_behind q e.0 es (is_equal (int_cmp q e.0) tie) low)) tt
  tail_found q e es false tie low holds = holds

  each_found : (es : List (ℤ × Row)) → T (is_sorted int_cmp es) → ((q : ℤ) → IfSome (find int_cmp q es) P) → Each P (map (λ e. e.1) es)
  each_found [] sorted holds = tt
  each_found (e ∷ es) sorted holds = (
    subst (λ r. IfSome (cond (is_eq r) (Some e.1) (find int_cmp e.0 es)) P) (tied_itself int_cmp_total e.0) (holds e.0),
    each_found es (second_holds (below_all int_cmp e.0 es) (is_sorted int_cmp es) sorted)
        (λ q. tail_found q e es (eq_by_cmp int_cmp q e.0) refl (first_holds (below_all int_cmp e.0 es) (is_sorted int_cmp es) sorted) (holds q)),
  )

  -- a fact of each row that is found is one of each value
  pub values_hold : (rows : Rows) → ((q : ℤ) → IfSome (fin.get rows q) P) → Each P (fin.values rows)
  values_hold rows holds = each_found (fin.entries rows) (fin.entries_sorted rows) (λ q. subst (λ o. IfSome o P) (fin.get-entries rows q) (holds q))

  inserted_holds : (rows : Rows) (k : ℤ) (row : Row) → P row → ((q : ℤ) → IfSome (fin.get rows q) P) → (q : ℤ) → IfSome (fin.get (fin.insert rows k row) q) P
  inserted_holds rows k row here holds q = subst (λ o. IfSome o P) (sym (fin.get-insert int_cmp_total rows k row q)) (kept_by_cond (eq_by_cmp int_cmp q k) row (fin.get rows q) here (holds q))

  inserted_or_not : (b : Bool) (rows : Rows) (k : ℤ) (row : Row) → P row → ((q : ℤ) → IfSome (fin.get rows q) P) → (q : ℤ) → IfSome (fin.get (cond b rows (fin.insert rows k row)) q) P
  inserted_or_not true rows k row here holds q = holds q
  inserted_or_not false rows k row here holds q = inserted_holds rows k row here holds q

applied_has : (dim : ℕ) (rows : Rows) (write : Write) → FitsDimension dim write → ((q : ℤ) → IfSome (fin.get rows q) (λ row. length row.vector ≡ dim))
    → (q : ℤ) → IfSome (fin.get (applied rows write) q) (λ row. length row.vector ≡ dim)
applied_has dim rows (Insert row) fits holds q = inserted_or_not (λ r. length r.vector ≡ dim) (fin.contains_key rows row.key.0) rows row.key.0 row fits holds q
applied_has dim rows (Upsert row) fits holds q = inserted_holds (λ r. length r.vector ≡ dim) rows row.key.0 row fits holds q
applied_has dim rows (Delete key) fits holds q =
    subst (λ o. IfSome o (λ row. length row.vector ≡ dim)) (sym (fin.get-remove int_cmp_total rows key.0 q)) (cut_by_cond (λ r. length r.vector ≡ dim) (eq_by_cmp int_cmp q key.0) (fin.get rows q) (holds q))

after_has : (dim : ℕ) (rows : Rows) (log : List Entry) → HasDimension dim log → ((q : ℤ) → IfSome (fin.get rows q) (λ row. length row.vector ≡ dim))
    → (q : ℤ) → IfSome (fin.get (after rows log) q) (λ row. length row.vector ≡ dim)
after_has dim rows [] fits holds = holds
after_has dim rows (entry ∷ log) fits holds = after_has dim (applied rows entry.write) log fits.1 (applied_has dim rows entry.write fits.0 holds)

cond_each : {X : Type 0} (P : X → Type 0) (b : Bool) (x : X) (xs : List X) → P x → Each P xs → Each P (cond b (x ∷ xs) xs)
cond_each P true x xs here rest = (here, rest)
cond_each P false x xs here rest = rest

pub each-filter : {X : Type 0} (P : X → Type 0) (p : X → Bool) (xs : List X) → Each P xs → Each P (filter p xs)
each-filter P p [] holds = tt
each-filter P p (x ∷ xs) holds = cond_each P (p x) x (filter p xs) holds.0 (each-filter P p xs holds.1)

pub rows-dimension : (dim : ℕ) (log : List Entry) → HasDimension dim log → Each (λ row. length row.vector ≡ dim) (fin.values (rows_of log))
rows-dimension dim log fits =
    subst (λ rows. Each (λ row. length row.vector ≡ dim) (fin.values rows)) (sym (rows_of-after log))
    (values_hold (λ row. length row.vector ≡ dim) (after fin.empty log)
    (after_has dim fin.empty log fits (λ q. subst (λ o. IfSome o (λ row. length row.vector ≡ dim)) (sym (fin.get-empty int_cmp q)) tt)))

pub live-dimension : (dim : ℕ) (log : List Entry) (ts : ℕ) → HasDimension dim log → Each (λ row. length row.vector ≡ dim) (fin.values (live log ts))
live-dimension dim log ts fits = rows-dimension dim (up_to log ts) (each-filter (λ entry. FitsDimension dim entry.write) _ log fits)
