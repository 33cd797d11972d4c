-- The writes of a log, applied to the entries of a map of rows.
use Rattle.std.proofs.Common.{◌≡◌, ℤ, true, false, cond, List, sym, ap, subst, ◌∙◌}
use Rattle.std.specs.Prelude.{is_some}
use Rattle.std.specs.declared.option.Option.TheVariants.{None}
use Rattle.std.specs.Ordering.{int_cmp}
use Rattle.std.proofs.lemmas.Cmp.{int_cmp_total}
use Rattle.std.specs.List.Sorted.{IsStrictlySortedBy}
use Rattle.std.specs.FinMap as fin
use Rattle.std.specs.BTreeMap.{insert_entry, is_at}
use Rattle.std.specs.Map.{lookup, keys_of}
use Rattle.row_types.specs.declared.rows.Row.{Row}
use Rattle.row_types.specs.declared.rows.Key.{Key}
use Rattle.log_model.specs.declared.logs.Write.{Write}
use Rattle.log_model.specs.declared.logs.Write.TheVariants.{Insert, Upsert, Delete}
use Rattle.log_model.specs.Logs.{Rows, applied}
use Rattle.log_model.proofs.RowMaps.{entries_inserted, get_found, entries_removed}

pub contains_found : (m : Rows) (es : List (ℤ × Row)) (key : ℤ) → fin.entries m ≡ es
    → fin.contains_key m key ≡ is_some (lookup (is_at (int_cmp key)) es)
contains_found m es key same = ap is_some (get_found int_cmp_total m es key same)

pub insert_new : (m : Rows) (es fs : List (ℤ × Row)) (write : Write) (row : Row) → write ≡ Insert row → fin.entries m ≡ es
    → is_some (lookup (is_at (int_cmp row.key.0)) es) ≡ false → fs ≡ insert_entry int_cmp es row.key.0 row
    → fin.entries (applied m write) ≡ fs
insert_new m es fs write row is same absent set =
    subst (λ w. fin.entries (applied m w) ≡ fs) (sym is)
    (ap (λ b. fin.entries (cond b m (fin.insert m row.key.0 row))) (contains_found m es row.key.0 same ∙ absent)
    ∙ entries_inserted int_cmp_total m es row.key.0 row same ∙ sym set)

pub insert_old : (m : Rows) (es : List (ℤ × Row)) (write : Write) (row : Row) → write ≡ Insert row → fin.entries m ≡ es
    → is_some (lookup (is_at (int_cmp row.key.0)) es) ≡ true
    → fin.entries (applied m write) ≡ es
insert_old m es write row is same there =
    subst (λ w. fin.entries (applied m w) ≡ es) (sym is)
    (ap (λ b. fin.entries (cond b m (fin.insert m row.key.0 row))) (contains_found m es row.key.0 same ∙ there) ∙ same)

pub upsert_set : (m : Rows) (es fs : List (ℤ × Row)) (write : Write) (row : Row) → write ≡ Upsert row → fin.entries m ≡ es
    → fs ≡ insert_entry int_cmp es row.key.0 row
    → fin.entries (applied m write) ≡ fs
upsert_set m es fs write row is same set =
    subst (λ w. fin.entries (applied m w) ≡ fs) (sym is) (entries_inserted int_cmp_total m es row.key.0 row same ∙ sym set)

pub delete_cleared : (m : Rows) (es fs : List (ℤ × Row)) (write : Write) (key : Key) → write ≡ Delete key → fin.entries m ≡ es
    → IsStrictlySortedBy int_cmp (keys_of fs)
    → ((q : ℤ) → lookup (is_at (int_cmp q)) fs ≡ cond (is_at (int_cmp key.0) q) None (lookup (is_at (int_cmp q)) es))
    → fin.entries (applied m write) ≡ fs
delete_cleared m es fs write key is same sorted found =
    subst (λ w. fin.entries (applied m w) ≡ fs) (sym is) (entries_removed int_cmp_total fin.int_cmp-IsAntisymmetric m es fs key.0 same sorted found)
