-- The key index: the live rows of a journal are its puts that no later note ends.
use Rattle.std.proofs.Common.{◌≡◌, ℕ, ℤ, ◌<◌, Bool, true, false, cond, List, [], ◌∷◌, ◌++◌, length, Option, Some, None, refl, sym, ap, subst, ◌∙◌, inl, inr, ◌⊎◌, ⊎_elim, arith}
use Rattle.std.specs.Prelude.{is_some}
use Rattle.std.specs.Option.{option_map, option_or}
use Rattle.std.specs.Ordering.{int_eq, int_cmp}
use Rattle.std.specs.FinMap as fin
use Rattle.std.proofs.lemmas.Cmp.{int_cmp_total}
use Rattle.std.proofs.lemmas.Bool.{cases_lt}
use Rattle.std.proofs.lemmas.Bool.Decides.{Decides-int_eq}
use Rattle.std.proofs.lemmas.List.{length_push}
use Rattle.row_types.specs.declared.rows.Row.{Row}
use Rattle.log_model.specs.declared.logs.Write.TheVariants as writes
use Rattle.log_model.specs.Logs.{Rows, applied, after}
use Rattle.log_model.proofs.LogLaws.{rows_of-after}
use Rattle.journal_model.specs.declared.notes.PutKind.TheVariants.{Insert, Upsert}
use Rattle.journal_model.specs.declared.notes.Kind.{Kind}
use Rattle.journal_model.specs.declared.notes.Kind.TheVariants.{Put, Remove}
use Rattle.journal_model.specs.declared.notes.Note.{Note}
use Rattle.journal_model.specs.Notes.{entries_of, live_in}
use Rattle.journal_model.specs.Puts.{effective, put_at, ended, first_end, dead_at}
use Rattle.journal_model.specs.Tables.{over, reindexed, index_of}
use Rattle.log_model.specs.Places.{Placed, placed}
use Rattle.journal_model.proofs.WalkLaws.{by_snoc, walked-snoc}
use Rattle.journal_model.proofs.NoteLaws.{live_in-snoc}
use Rattle.journal_model.proofs.PutLaws.{put_at-append, put_at-new, put_at_past, put_within, dead_at-append, dead_at-new, first_end-one}

same_key : (j k : ℤ) → int_eq j k ≡ true → j ≡ k
same_key j k h = (Decides-int_eq j k).0 h

keys_equal : (j k : ℤ) → j ≡ k → int_eq j k ≡ true
keys_equal j k h = (Decides-int_eq j k).1 h

get_found : (rows : Rows) (j k : ℤ) → int_eq k j ≡ true → fin.get rows j ≡ fin.get rows k
get_found rows j k h = ap (fin.get rows) (sym (same_key k j h))

-- ---- the index finds what the map of live rows has

got_insert : (rows : Rows) (row : Row) (k : ℤ) (now : Option Placed) (x : Placed) → x.row ≡ row → fin.get rows k ≡ option_map (λ (y : Placed). y.row) now
    → (b : Bool) → int_eq k row.key.0 ≡ b
    → fin.get (applied rows (writes.Insert row)) k ≡ option_map (λ (y : Placed). y.row) (cond b (over now Insert x) now)
got_insert rows row k None x e g true h =
    ap (λ o. fin.get (cond (is_some o) rows (fin.insert rows row.key.0 row)) k) (get_found rows row.key.0 k h ∙ g)
    ∙ fin.get-insert int_cmp_total rows row.key.0 row k ∙ ap (λ c. cond c (Some row) (fin.get rows k)) h ∙ ap Some (sym e)
got_insert rows row k (Some old) x e g true h =
    ap (λ o. fin.get (cond (is_some o) rows (fin.insert rows row.key.0 row)) k) (get_found rows row.key.0 k h ∙ g) ∙ g
got_insert rows row k now x e g false h =
    elim (is_some (fin.get rows row.key.0)) as (λ c. fin.get (cond c rows (fin.insert rows row.key.0 row)) k ≡ option_map (λ (y : Placed). y.row) now) [
      | true ↦ g
      | false ↦ fin.get-insert int_cmp_total rows row.key.0 row k ∙ ap (λ c. cond c (Some row) (fin.get rows k)) h ∙ g
    ]

over_upsert : (now : Option Placed) (x : Placed) → over now Upsert x ≡ Some x
over_upsert None x = refl
over_upsert (Some old) x = refl

got_upsert : (rows : Rows) (row : Row) (k : ℤ) (now : Option Placed) (x : Placed) → x.row ≡ row → fin.get rows k ≡ option_map (λ (y : Placed). y.row) now
    → (b : Bool) → int_eq k row.key.0 ≡ b
    → fin.get (applied rows (writes.Upsert row)) k ≡ option_map (λ (y : Placed). y.row) (cond b (over now Upsert x) now)
got_upsert rows row k now x e g true h =
    fin.get-insert int_cmp_total rows row.key.0 row k ∙ ap (λ c. cond c (Some row) (fin.get rows k)) h ∙ ap Some (sym e) ∙ ap (option_map (λ (y : Placed). y.row)) (sym (over_upsert now x))
got_upsert rows row k now x e g false h =
    fin.get-insert int_cmp_total rows row.key.0 row k ∙ ap (λ c. cond c (Some row) (fin.get rows k)) h ∙ g

got_step : (rows : Rows) (before : List Note) (k : ℤ) (now : Option Placed) (kind : Kind) → fin.get rows k ≡ option_map (λ (y : Placed). y.row) now
    → fin.get (after rows (entries_of kind)) k ≡ option_map (λ (y : Placed). y.row) (reindexed k before now kind)
got_step rows before k now (Put ts Insert row) g = got_insert rows row k now (placed (length before) ts.0 row) refl g (int_eq k row.key.0) refl
got_step rows before k now (Put ts Upsert row) g = got_upsert rows row k now (placed (length before) ts.0 row) refl g (int_eq k row.key.0) refl
got_step rows before k now (Remove ts key) g =
    fin.get-remove int_cmp_total rows key.0 k
    ∙ elim (int_eq k key.0) as (λ b. cond b None (fin.get rows k) ≡ option_map (λ (y : Placed). y.row) (cond b None now)) [
      | true ↦ refl
      | false ↦ g
    ]
got_step rows before k now _ g = g

pub index-snoc : (xs : List Note) (note : Note) (k : ℤ) → index_of (xs ++ note ∷ []) k ≡ reindexed k xs (index_of xs k) note.kind
index-snoc xs note k = walked-snoc (λ before now n. reindexed k before now n.kind) None xs note

-- the row of a key is the one that the index finds
pub get-index : (k : ℤ) (notes : List Note) → fin.get (live_in notes) k ≡ option_map (λ (y : Placed). y.row) (index_of notes k)
get-index k = by_snoc (λ notes. fin.get (live_in notes) k ≡ option_map (λ (y : Placed). y.row) (index_of notes k))
    (ap (λ rows. fin.get rows k) (rows_of-after []) ∙ fin.get-empty int_cmp k)
    (λ xs note g. ap (λ rows. fin.get rows k) (live_in-snoc xs note) ∙ got_step (live_in xs) xs k (index_of xs k) note.kind g ∙ ap (option_map (λ (y : Placed). y.row)) (sym (index-snoc xs note k)))

-- ---- what the index finds is a put that nothing ended

-- of a key: the puts that nothing ended are what the index finds
pub record Stands (notes : List Note) (k : ℤ) (now : Option Placed) : Type 0 where
  pub alive : (p : ℕ) (x : Placed) → put_at notes p ≡ Some x → x.row.key.0 ≡ k → dead_at notes p k ≡ None → now ≡ Some x
  pub here : (x : Placed) → now ≡ Some x → (put_at notes x.position ≡ Some x) × (x.row.key.0 ≡ k) × (dead_at notes x.position k ≡ None)

pub effective_position : (before : List Note) (kind : Kind) (x : Placed) → effective before kind ≡ Some x → x.position ≡ length before
effective_position before (Put ts Insert row) x e = elim (fin.contains_key (live_in before) row.key.0) as (λ b. cond b None (Some (placed (length before) ts.0 row)) ≡ Some x → x.position ≡ length before) [
  | true ↦ λ h. cc
  | false ↦ λ h. let same : placed (length before) ts.0 row ≡ x = cc in ap (λ y. y.position) (sym same)
] e
effective_position before (Put ts Upsert row) x e = let same : placed (length before) ts.0 row ≡ x = cc in ap (λ y. y.position) (sym same)
effective_position before _ x e = cc

kept_now : (before : List Note) (k : ℤ) (kind : Kind) (x : Placed) → ended k kind ≡ None → reindexed k before (Some x) kind ≡ Some x
kept_now before k (Put ts Insert row) x e = elim (int_eq k row.key.0) as (λ b. cond b (Some x) (Some x) ≡ Some x) [
  | true ↦ refl
  | false ↦ refl
]
kept_now before k (Put ts Upsert row) x e = elim (int_eq k row.key.0) as (λ b. cond b (Some ts.0) None ≡ None → cond b (Some (placed (length before) ts.0 row)) (Some x) ≡ Some x) [
  | true ↦ λ h. cc
  | false ↦ λ h. refl
] e
kept_now before k (Remove ts key) x e = elim (int_eq k key.0) as (λ b. cond b (Some ts.0) None ≡ None → cond b None (Some x) ≡ Some x) [
  | true ↦ λ h. cc
  | false ↦ λ h. refl
] e
kept_now before k _ x e = refl

new_insert : (row : Row) (now : Option Placed) (y x : Placed) (o : Option Row) → o ≡ option_map (λ (z : Placed). z.row) now → cond (is_some o) None (Some y) ≡ Some x → over now Insert y ≡ Some x
new_insert row None y x o g e = subst (λ (p : Option Row). cond (is_some p) None (Some y) ≡ Some x) g e
new_insert row (Some old) y x o g e = absurd (let none : None ≡ Some x = subst (λ (p : Option Row). cond (is_some p) None (Some y) ≡ Some x) g e in cc)

new_now : (before : List Note) (k : ℤ) (now : Option Placed) (kind : Kind) (x : Placed) → fin.get (live_in before) k ≡ option_map (λ (y : Placed). y.row) now
    → effective before kind ≡ Some x → x.row.key.0 ≡ k → reindexed k before now kind ≡ Some x
new_now before k now (Put ts Insert row) x g e key =
    let y : Placed = placed (length before) ts.0 row in
    let is : x ≡ y = elim (fin.contains_key (live_in before) row.key.0) as (λ b. cond b None (Some y) ≡ Some x → x ≡ y) [
      | true ↦ λ h. cc
      | false ↦ λ h. cc
    ] e in
    let same : row.key.0 ≡ k = ap (λ z. z.row.key.0) (sym is) ∙ key in
    ap (λ b. cond b (over now Insert y) now) (keys_equal k row.key.0 (sym same))
    ∙ new_insert row now y x (fin.get (live_in before) row.key.0) (ap (fin.get (live_in before)) same ∙ g) e
new_now before k now (Put ts Upsert row) x g e key =
    let y : Placed = placed (length before) ts.0 row in
    let is : x ≡ y = cc in
    let same : row.key.0 ≡ k = ap (λ z. z.row.key.0) (sym is) ∙ key in
    ap (λ b. cond b (over now Upsert y) now) (keys_equal k row.key.0 (sym same)) ∙ over_upsert now y ∙ ap Some (sym is)
new_now before k now _ x g e key = cc

abbrev IsOldOrNew : List Note → ℤ → Option Placed → Kind → Placed → Type 0
IsOldOrNew before k now kind x = ((now ≡ Some x) × (ended k kind ≡ None)) ⊎ ((effective before kind ≡ Some x) × (x.row.key.0 ≡ k))

old_or_insert : (now : Option Placed) (y x : Placed) (o : Option Row) (k : ℤ) → o ≡ option_map (λ (z : Placed). z.row) now → y.row.key.0 ≡ k → over now Insert y ≡ Some x
    → ((now ≡ Some x) × (◌≡◌ {A = Option ℕ} None None)) ⊎ ((cond (is_some o) None (Some y) ≡ Some x) × (x.row.key.0 ≡ k))
old_or_insert None y x o k g key e = inr (ap (λ p. cond (is_some p) None (Some y)) g ∙ e, let is : x ≡ y = cc in ap (λ z. z.row.key.0) is ∙ key)
old_or_insert (Some old) y x o k g key e = inl (e, refl)

old_or_new : (before : List Note) (k : ℤ) (now : Option Placed) (kind : Kind) (x : Placed) → fin.get (live_in before) k ≡ option_map (λ (y : Placed). y.row) now
    → reindexed k before now kind ≡ Some x → IsOldOrNew before k now kind x
old_or_new before k now (Put ts Insert row) x g e = elim (int_eq k row.key.0) as (λ b. int_eq k row.key.0 ≡ b → cond b (over now Insert (placed (length before) ts.0 row)) now ≡ Some x → ((now ≡ Some x) × (◌≡◌ {A = Option ℕ} (cond b None None) None)) ⊎ ((effective before (Put ts Insert row) ≡ Some x) × (x.row.key.0 ≡ k))) [
  | true ↦ λ h m. let same : k ≡ row.key.0 = same_key k row.key.0 h in old_or_insert now (placed (length before) ts.0 row) x (fin.get (live_in before) row.key.0) k (ap (fin.get (live_in before)) (sym same) ∙ g) (sym same) m
  | false ↦ λ h m. inl (m, refl)
] refl e
old_or_new before k now (Put ts Upsert row) x g e = elim (int_eq k row.key.0) as (λ b. int_eq k row.key.0 ≡ b → cond b (over now Upsert (placed (length before) ts.0 row)) now ≡ Some x → ((now ≡ Some x) × (cond b (Some ts.0) None ≡ None)) ⊎ ((Some (placed (length before) ts.0 row) ≡ Some x) × (x.row.key.0 ≡ k))) [
  | true ↦ λ h m. let is : Some (placed (length before) ts.0 row) ≡ Some x = sym (over_upsert now (placed (length before) ts.0 row)) ∙ m in inr (is, let same : x ≡ placed (length before) ts.0 row = cc in ap (λ z. z.row.key.0) same ∙ sym (same_key k row.key.0 h))
  | false ↦ λ h m. inl (m, refl)
] refl e
old_or_new before k now (Remove ts key) x g e = elim (int_eq k key.0) as (λ b. cond b None now ≡ Some x → ((now ≡ Some x) × (cond b (Some ts.0) None ≡ None)) ⊎ ((None ≡ Some x) × (x.row.key.0 ≡ k))) [
  | true ↦ λ m. cc
  | false ↦ λ m. inl (m, refl)
] e
old_or_new before k now _ x g e = inl (e, refl)

pub or_none : {X : Type 0} (o p : Option X) → option_or o p ≡ None → (o ≡ None) × (p ≡ None)
or_none None p h = (refl, h)
or_none (Some x) p h = cc

-- where a put of one note more stands: among the old ones, or at the end
pub put_cases : (xs : List Note) (note : Note) (p : ℕ) (x : Placed) → put_at (xs ++ note ∷ []) p ≡ Some x
    → ((p < length xs) × (put_at xs p ≡ Some x)) ⊎ ((p ≡ length xs) × (effective xs note.kind ≡ Some x))
put_cases xs note p x h =
    let within : p < length (xs ++ note ∷ []) = put_within (xs ++ note ∷ []) x p h in
    ⊎_elim
    (λ lt. inl (lt, sym (put_at-append xs (note ∷ []) p lt) ∙ h))
    (λ ge. let same : p ≡ length xs = omega (arith, length_push xs note) in inr (same, sym (put_at-new xs note) ∙ ap (put_at (xs ++ note ∷ [])) (sym same) ∙ h))
    (cases_lt p (length xs))

stands_step : (xs : List Note) (note : Note) (k : ℤ) (now : Option Placed) → fin.get (live_in xs) k ≡ option_map (λ (y : Placed). y.row) now
    → Stands xs k now → Stands (xs ++ note ∷ []) k (reindexed k xs now note.kind)
stands_step xs note k now g s = record {
  alive = λ p x put key end. ⊎_elim
      (λ old.
      let ends : (dead_at xs p k ≡ None) × (first_end k (note ∷ []) ≡ None) = or_none (dead_at xs p k) (first_end k (note ∷ [])) (sym (dead_at-append xs (note ∷ []) p k old.0) ∙ end) in
      ap (λ o. reindexed k xs o note.kind) (s.alive p x old.1 key ends.0) ∙ kept_now xs k note.kind x (sym (first_end-one k note) ∙ ends.1))
      (λ new. new_now xs k now note.kind x g new.1 key)
      (put_cases xs note p x put);
  here = λ x is. ⊎_elim
      (λ old.
      let was = s.here x old.0 in
      let within : x.position < length xs = put_within xs x x.position was.0 in
      (put_at-append xs (note ∷ []) x.position within ∙ was.0, was.1, dead_at-append xs (note ∷ []) x.position k within ∙ ap (λ o. option_or o (first_end k (note ∷ []))) was.2 ∙ first_end-one k note ∙ old.1))
      (λ new.
      let at : x.position ≡ length xs = effective_position xs note.kind x new.0 in
      (ap (put_at (xs ++ note ∷ [])) at ∙ put_at-new xs note ∙ new.0, new.1, ap (λ p. dead_at (xs ++ note ∷ []) p k) at ∙ dead_at-new xs note k))
      (old_or_new xs k now note.kind x g is);
}

pub index_stands : (k : ℤ) (notes : List Note) → Stands notes k (index_of notes k)
index_stands k = by_snoc (λ notes. Stands notes k (index_of notes k))
    (record { alive = λ p x put key end. let none : put_at [] p ≡ None = put_at_past [] p (omega arith) in cc; here = λ x is. cc })
    (λ xs note s. subst (Stands (xs ++ note ∷ []) k) (sym (index-snoc xs note k)) (stands_step xs note k (index_of xs k) (get-index k xs) s))
