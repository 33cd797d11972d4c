-- What the key index finds, and how each note changes the index and the number of live keys.
use Rattle.std.proofs.Common.{◌≡◌, ℕ, ℤ, ◌+◌, ◌-◌, Bool, true, false, cond, List, [], ◌∷◌, ◌++◌, length, Option, Some, None, refl, sym, ap, subst, ◌∙◌}
use Rattle.std.specs.Prelude.{is_some}
use Rattle.std.specs.Option.{option_map}
use Rattle.std.specs.Ordering.{int_eq, int_cmp}
use Rattle.std.specs.FinMap as fin
use Rattle.std.proofs.lemmas.Cmp.{int_cmp_total}
use Rattle.std.proofs.lemmas.Bool.{false≢true}
use Rattle.std.proofs.lemmas.Bool.Decides.{Decides-int_eq}
use Rattle.hybrid_time.specs.declared.times.Timestamp.{Timestamp}
use Rattle.row_types.specs.declared.rows.Key.{Key}
use Rattle.row_types.specs.declared.rows.Row.{Row}
use Rattle.log_model.specs.Logs.{Rows, after}
use Rattle.log_model.specs.Places.{Placed, placed}
use Rattle.journal_model.specs.declared.notes.PutKind.{PutKind}
use Rattle.journal_model.specs.declared.notes.PutKind.TheVariants.{Insert, Upsert}
use Rattle.journal_model.specs.declared.notes.Kind.TheVariants.{Put, Remove}
use Rattle.journal_model.specs.declared.notes.Note.{Note}
use Rattle.journal_model.specs.Notes.{entries_of, live_in}
use Rattle.journal_model.specs.Puts.{effective_put}
use Rattle.journal_model.specs.Tables.{over, reindexed, index_of, end_at, ends}
use Rattle.journal_model.proofs.IndexLaws.{get-index, index-snoc}
use Rattle.channel_journal.specs.Outcomes.{ended_at}
use Rattle.channel_journal.specs.Kept.{IsIndex, admits, live_after_put, live_after_remove}

position_of : Option Placed → Option ℕ
position_of o = option_map (λ (x : Placed). x.position) o

-- ---- what the index finds

-- the row that ends, by the index
end_found : (ts : ℕ) (o : Option Placed) → end_at ts o ≡ ended_at ts (option_map (λ (x : Placed). x.position) o)
end_found ts None = refl
end_found ts (Some x) = refl

pub remove_ends : (index : fin.FinMap int_cmp ℕ) (notes : List Note) (ts : Timestamp) (key : Key) → IsIndex index notes → ends notes (Remove ts key) ≡ ended_at ts.0 (fin.get index key.0)
remove_ends index notes ts key is = end_found ts.0 (index_of notes key.0) ∙ ap (ended_at ts.0) (sym (is key.0))

-- a put that is admitted ends what the index finds: an insert is admitted where it finds nothing
pub put_ends_found : (index : fin.FinMap int_cmp ℕ) (notes : List Note) (ts : Timestamp) (how : PutKind) (row : Row) → IsIndex index notes → admits how (fin.get index row.key.0) ≡ true
    → ends notes (Put ts how row) ≡ ended_at ts.0 (fin.get index row.key.0)
put_ends_found index notes ts Insert row is ok = none (fin.get index row.key.0) ok
  where
    none : (found : Option ℕ) → admits Insert found ≡ true → None ≡ ended_at ts.0 found
    none None h = refl
    none (Some p) h = absurd (false≢true h)
put_ends_found index notes ts Upsert row is ok = end_found ts.0 (index_of notes row.key.0) ∙ ap (ended_at ts.0) (sym (is row.key.0))

over_admitted : (how : PutKind) (now : Option Placed) (x : Placed) → admits how (option_map (λ (y : Placed). y.position) now) ≡ true → over now how x ≡ Some x
over_admitted Insert None x ok = refl
over_admitted Insert (Some old) x ok = absurd (false≢true ok)
over_admitted Upsert None x ok = refl
over_admitted Upsert (Some old) x ok = refl

pub live_found : (index : fin.FinMap int_cmp ℕ) (notes : List Note) (k : ℤ) → IsIndex index notes → fin.contains_key (live_in notes) k ≡ is_some (fin.get index k)
live_found index notes k is = ap is_some (get-index k notes) ∙ both (index_of notes k) ∙ ap is_some (sym (is k))
  where
    both : (o : Option Placed) → is_some (option_map (λ (y : Placed). y.row) o) ≡ is_some (option_map (λ (y : Placed). y.position) o)
    both None = refl
    both (Some x) = refl

insert_free : (found : Option ℕ) → admits Insert found ≡ true → is_some found ≡ false
insert_free None h = refl
insert_free (Some p) h = absurd (false≢true h)

-- what is refused is an insert of a key that is found
pub refused_insert : (how : PutKind) (found : Option ℕ) → admits how found ≡ false → (how ≡ Insert) × (is_some found ≡ true)
refused_insert Insert None off = absurd (false≢true (sym off))
refused_insert Insert (Some p) off = (refl, refl)
refused_insert Upsert found off = absurd (false≢true (sym off))

pub effective_admitted : (index : fin.FinMap int_cmp ℕ) (notes : List Note) (ts : ℕ) (how : PutKind) (row : Row) → IsIndex index notes → admits how (fin.get index row.key.0) ≡ true
    → effective_put notes ts how row ≡ Some (placed (length notes) ts row)
effective_admitted index notes ts Insert row is ok = ap (λ b. cond b None (Some (placed (length notes) ts row))) (live_found index notes row.key.0 is ∙ insert_free (fin.get index row.key.0) ok)
effective_admitted index notes ts Upsert row is ok = refl

pub effective_refused : (index : fin.FinMap int_cmp ℕ) (notes : List Note) (ts : ℕ) (how : PutKind) (row : Row) → IsIndex index notes → admits how (fin.get index row.key.0) ≡ false
    → effective_put notes ts how row ≡ None
effective_refused index notes ts Insert row is off = ap (λ b. cond b None (Some (placed (length notes) ts row))) (live_found index notes row.key.0 is ∙ (refused_insert Insert (fin.get index row.key.0) off).1)
effective_refused index notes ts Upsert row is off = absurd (false≢true (sym off))

-- ---- the index after a note

pub index_put : (index : fin.FinMap int_cmp ℕ) (notes : List Note) (note : Note) (ts : Timestamp) (how : PutKind) (row : Row) → note.kind ≡ Put ts how row → IsIndex index notes → admits how (fin.get index row.key.0) ≡ true
    → IsIndex (fin.insert index row.key.0 (length notes)) (notes ++ note ∷ [])
index_put index notes note ts how row e is ok k =
    fin.get-insert int_cmp_total index row.key.0 (length notes) k
    ∙ elim (int_eq k row.key.0) as (λ b. int_eq k row.key.0 ≡ b → cond b (Some (length notes)) (fin.get index k) ≡ option_map (λ (x : Placed). x.position) (cond b (over (index_of notes k) how (placed (length notes) ts.0 row)) (index_of notes k))) [
      | true ↦ λ t.
          let same : row.key.0 ≡ k = sym ((Decides-int_eq k row.key.0).0 t) in
          ap (option_map (λ (x : Placed). x.position)) (sym (over_admitted how (index_of notes k) (placed (length notes) ts.0 row) (subst (λ o. admits how o ≡ true) (ap (fin.get index) same ∙ is k) ok)))
      | false ↦ λ t. is k
    ] refl
    ∙ ap (λ kind. option_map (λ (x : Placed). x.position) (reindexed k notes (index_of notes k) kind)) (sym e)
    ∙ ap (option_map (λ (x : Placed). x.position)) (sym (index-snoc notes note k))

pub index_remove : (index : fin.FinMap int_cmp ℕ) (notes : List Note) (note : Note) (ts : Timestamp) (key : Key) → note.kind ≡ Remove ts key → IsIndex index notes → IsIndex (fin.remove index key.0) (notes ++ note ∷ [])
index_remove index notes note ts key e is k =
    fin.get-remove int_cmp_total index key.0 k
    ∙ elim (int_eq k key.0) as (λ b. cond b None (fin.get index k) ≡ option_map (λ (x : Placed). x.position) (cond b None (index_of notes k))) [
      | true ↦ refl
      | false ↦ is k
    ]
    ∙ ap (λ kind. option_map (λ (x : Placed). x.position) (reindexed k notes (index_of notes k) kind)) (sym e)
    ∙ ap (option_map (λ (x : Placed). x.position)) (sym (index-snoc notes note k))

pub index_same : (index : fin.FinMap int_cmp ℕ) (notes : List Note) (note : Note) → ((k : ℤ) → reindexed k notes (index_of notes k) note.kind ≡ index_of notes k) → IsIndex index notes → IsIndex index (notes ++ note ∷ [])
index_same index notes note f is k = is k ∙ ap (option_map (λ (x : Placed). x.position)) (sym (index-snoc notes note k ∙ f k))

-- an insert of a key that is found leaves the index as it was
pub index_refused : (index : fin.FinMap int_cmp ℕ) (notes : List Note) (ts : Timestamp) (row : Row) → IsIndex index notes → is_some (fin.get index row.key.0) ≡ true
    → (k : ℤ) → reindexed k notes (index_of notes k) (Put ts Insert row) ≡ index_of notes k
index_refused index notes ts row is found k = stays (int_eq k row.key.0) refl
  where
    old : (o : Option Placed) → is_some (option_map (λ (x : Placed). x.position) o) ≡ true → over o Insert (placed (length notes) ts.0 row) ≡ o
    old None h = absurd (false≢true h)
    old (Some x) h = refl

    stays : (b : Bool) → int_eq k row.key.0 ≡ b → cond b (over (index_of notes k) Insert (placed (length notes) ts.0 row)) (index_of notes k) ≡ index_of notes k
    stays true t = old (index_of notes k) (ap is_some (sym (is k) ∙ ap (fin.get index) ((Decides-int_eq k row.key.0).0 t)) ∙ found)
    stays false t = refl

-- ---- the number of live keys after a note

inserted : (rows : Rows) (row : Row) (found : Option ℕ) → fin.contains_key rows row.key.0 ≡ is_some found → fin.len (fin.insert rows row.key.0 row) ≡ live_after_put found (fin.len rows)
inserted rows row found e = fin.len-insert int_cmp_total rows row.key.0 row ∙ ap (λ b. cond b (fin.len rows) (fin.len rows + 1)) e

pub live_put : (index : fin.FinMap int_cmp ℕ) (notes : List Note) (ts : Timestamp) (how : PutKind) (row : Row) → IsIndex index notes → admits how (fin.get index row.key.0) ≡ true
    → live_after_put (fin.get index row.key.0) (fin.len (live_in notes)) ≡ fin.len (after (live_in notes) (entries_of (Put ts how row)))
live_put index notes ts Insert row is ok =
    let free : fin.contains_key (live_in notes) row.key.0 ≡ false = live_found index notes row.key.0 is ∙ insert_free (fin.get index row.key.0) ok in
    sym (ap (λ b. fin.len (cond b (live_in notes) (fin.insert (live_in notes) row.key.0 row))) free ∙ inserted (live_in notes) row (fin.get index row.key.0) (live_found index notes row.key.0 is))
live_put index notes ts Upsert row is ok = sym (inserted (live_in notes) row (fin.get index row.key.0) (live_found index notes row.key.0 is))

pub live_refused : (index : fin.FinMap int_cmp ℕ) (notes : List Note) (ts : Timestamp) (row : Row) → IsIndex index notes → is_some (fin.get index row.key.0) ≡ true
    → fin.len (live_in notes) ≡ fin.len (after (live_in notes) (entries_of (Put ts Insert row)))
live_refused index notes ts row is found = sym (ap (λ b. fin.len (cond b (live_in notes) (fin.insert (live_in notes) row.key.0 row))) (live_found index notes row.key.0 is ∙ found))

pub live_remove : (index : fin.FinMap int_cmp ℕ) (notes : List Note) (ts : Timestamp) (key : Key) → IsIndex index notes
    → live_after_remove (fin.get index key.0) (fin.len (live_in notes)) ≡ fin.len (after (live_in notes) (entries_of (Remove ts key)))
live_remove index notes ts key is = sym (fin.len-remove int_cmp_total (live_in notes) key.0 ∙ ap (λ b. cond b (fin.len (live_in notes) - 1) (fin.len (live_in notes))) (live_found index notes key.0 is))
