-- Rows in columns, and columns of rows.
use Rattle.std.proofs.Common.{◌≡◌, ℕ, zero, suc, ◌+◌, ◌<◌, ◌≤◌, ℤ, pos, Bool, false, List, [], ◌∷◌, ◌++◌, length, map, drop, slice_index_or, refl, sym, ap, subst, ◌∙◌, arith}
use Rattle.std.specs.List.{AllByRecursion}
use Rattle.hybrid_time.specs.declared.times.Timestamp.{Timestamp}
use Rattle.row_types.specs.declared.rows.Key.{Key}
use Rattle.row_types.specs.declared.rows.Kind.{Kind}
use Rattle.row_types.specs.declared.rows.Kind.TheVariants as kind
use Rattle.row_types.specs.declared.rows.Field.{Field}
use Rattle.row_types.specs.declared.rows.Field.TheVariants as field
use Rattle.log_model.specs.Places.{Placed, placed, vector_of}
use Rattle.binlog_format.specs.declared.objects.Column.{Column}
use Rattle.binlog_format.specs.declared.objects.Column.TheVariants.{Ints, Bools, Texts}
use Rattle.binlog_format.specs.Inserts.{IsColumn}
use Rattle.seg_sealed.specs.Segments.{kind_of, int_of, bool_of, text_of, column_of, field_at, columns_from, position_of, stamp_of, key_of, fields_of, IsRowOf}
use Rattle.seg_sealed.specs.Fields.{kind_in, first_or, first_in, behind, others_in, row_of, rows_in}

pub cons_same : {A : Type 0} {x y : A} {xs ys : List A} → x ≡ y → xs ≡ ys → x ∷ xs ≡ y ∷ ys
cons_same p q i = p i ∷ q i

head_or : {A : Type 0} → A → List A → A
head_or d [] = d
head_or d (x ∷ xs) = x

tail_of : {A : Type 0} → List A → List A
tail_of [] = []
tail_of (x ∷ xs) = xs

heads_same : {A : Type 0} (x y : A) (xs ys : List A) → x ∷ xs ≡ y ∷ ys → x ≡ y
unfolding head_or
heads_same x y xs ys e = ap (head_or x) e

tails_same : {A : Type 0} (x y : A) (xs ys : List A) → x ∷ xs ≡ y ∷ ys → xs ≡ ys
unfolding tail_of
tails_same x y xs ys e = ap tail_of e

some_is_none : {A : Type 0} (x : A) (xs : List A) → x ∷ xs ≡ [] → ⊥
some_is_none x xs e = cc

drop-none : (A : Type 0) (n : ℕ) → drop {A = A} n [] ≡ []
drop-none A zero = refl
drop-none A (suc n) = refl

drop-next : {A : Type 0} (at : ℕ) (xs : List A) (x : A) (rest : List A) → drop at xs ≡ x ∷ rest → drop (suc at) xs ≡ rest
drop-next at [] x rest e = absurd (some_is_none x rest (sym e ∙ drop-none _ at))
drop-next zero (y ∷ xs) x rest e = tails_same y x xs rest e
drop-next (suc at) (y ∷ xs) x rest e = drop-next at xs x rest e

drop-here : {A : Type 0} (d : A) (at : ℕ) (xs : List A) (x : A) (rest : List A) → drop at xs ≡ x ∷ rest → slice_index_or xs at d ≡ x
drop-here d at [] x rest e = absurd (some_is_none x rest (sym e ∙ drop-none _ at))
drop-here d zero (y ∷ xs) x rest e = heads_same y x xs rest e
drop-here d (suc at) (y ∷ xs) x rest e = drop-here d at xs x rest e

-- ---- rows of columns of rows

kind_of-column : (k : Kind) (fields : List Field) → kind_in (column_of k fields) ≡ k
kind_of-column kind.Int fields = refl
kind_of-column kind.Bool fields = refl
kind_of-column kind.Text fields = refl

pub kinds_of-columns : (at : ℕ) (kinds : List Kind) (rows : List (List Field)) → map kind_in (columns_from at kinds rows) ≡ kinds
kinds_of-columns at [] rows = refl
kinds_of-columns at (k ∷ kinds) rows = cons_same (kind_of-column k (map (field_at at) rows)) (kinds_of-columns (suc at) kinds rows)

first_of-column : (k : Kind) (f g : Field) (fields : List Field) → g ≡ f → kind_of f ≡ k → first_in (column_of k (g ∷ fields)) ≡ f
first_of-column k f g fields e is = subst (λ h. first_in (column_of k (h ∷ fields)) ≡ f) (sym e) (subst (λ j. first_in (column_of j (f ∷ fields)) ≡ f) is (by_kind f fields))
  where
    by_kind : (f : Field) (fields : List Field) → first_in (column_of (kind_of f) (f ∷ fields)) ≡ f
    by_kind (field.Int n) fields = refl
    by_kind (field.Bool truth) fields = refl
    by_kind (field.Text text) fields = refl

firsts : (at : ℕ) (kinds : List Kind) (fields : List Field) (rows : List (List Field)) (rest : List Field) → drop at fields ≡ rest → map kind_of rest ≡ kinds → map first_in (columns_from at kinds (fields ∷ rows)) ≡ rest
firsts at [] fields rows [] e is = refl
firsts at [] fields rows (f ∷ rest) e is = absurd (some_is_none _ _ is)
firsts at (k ∷ kinds) fields rows [] e is = absurd (some_is_none _ _ (sym is))
firsts at (k ∷ kinds) fields rows (f ∷ rest) e is =
    cons_same (first_of-column k f (field_at at fields) (map (field_at at) rows) (drop-here (field.Bool false) at fields f rest e) (heads_same _ _ _ _ is))
    (firsts (suc at) kinds fields rows rest (drop-next at fields f rest e) (tails_same _ _ _ _ is))

others_of-column : (k : Kind) (f : Field) (fields : List Field) → others_in (column_of k (f ∷ fields)) ≡ column_of k fields
others_of-column kind.Int f fields = refl
others_of-column kind.Bool f fields = refl
others_of-column kind.Text f fields = refl

others : (at : ℕ) (kinds : List Kind) (fields : List Field) (rows : List (List Field)) → map others_in (columns_from at kinds (fields ∷ rows)) ≡ columns_from at kinds rows
others at [] fields rows = refl
others at (k ∷ kinds) fields rows = cons_same (others_of-column k (field_at at fields) (map (field_at at) rows)) (others (suc at) kinds fields rows)

pub rows_back : (dim : ℕ) (kinds : List Kind) (rows : List Placed) → AllByRecursion (IsRowOf dim kinds) rows
    → rows_in (map position_of rows) (map stamp_of rows) (map key_of rows) (map vector_of rows) (columns_from 0 kinds (map fields_of rows)) ≡ rows
rows_back dim kinds [] all = refl
rows_back dim kinds (x ∷ rows) all =
    cons_same (ap (λ fields. placed x.position x.ts (row_of x.row.key x.row.vector fields)) (firsts 0 kinds x.row.fields (map fields_of rows) x.row.fields refl all.0.fields))
    (ap (rows_in (map position_of rows) (map stamp_of rows) (map key_of rows) (map vector_of rows)) (others 0 kinds x.row.fields (map fields_of rows)) ∙ rows_back dim kinds rows all.1)

-- ---- columns of rows of columns

-- the fields of the first n rows of columns
abbrev field_rows : ℕ → List Column → List (List Field)
field_rows zero columns = []
field_rows (suc n) columns = map first_in columns ∷ field_rows n (map others_in columns)

abbrev values_in : ℕ → Column → List Field
values_in zero column = []
values_in (suc n) column = first_in column ∷ values_in n (others_in column)

drop-map : {A B : Type 0} (f : A → B) (at : ℕ) (xs : List A) → drop at (map f xs) ≡ map f (drop at xs)
drop-map f zero xs = refl
drop-map f (suc at) [] = refl
drop-map f (suc at) (x ∷ xs) = drop-map f at xs

values_at : (n at : ℕ) (columns : List Column) (c : Column) (rest : List Column) → drop at columns ≡ c ∷ rest → map (field_at at) (field_rows n columns) ≡ values_in n c
values_at zero at columns c rest e = refl
values_at (suc n) at columns c rest e =
    cons_same (drop-here (field.Bool false) at (map first_in columns) (first_in c) (map first_in rest) (drop-map first_in at columns ∙ ap (map first_in) e))
    (values_at n at (map others_in columns) (others_in c) (map others_in rest) (drop-map others_in at columns ∙ ap (map others_in) e))

ints_back : (n : ℕ) (ns : List ℤ) → length ns ≡ n → map int_of (values_in n (Ints ns)) ≡ ns
ints_back zero [] e = refl
ints_back zero (x ∷ ns) e = absurd (omega arith)
ints_back (suc n) [] e = absurd (omega arith)
ints_back (suc n) (x ∷ ns) e = cons_same refl (ints_back n ns (omega arith))

bools_back : (n : ℕ) (truths : List Bool) → length truths ≡ n → map bool_of (values_in n (Bools truths)) ≡ truths
bools_back zero [] e = refl
bools_back zero (x ∷ truths) e = absurd (omega arith)
bools_back (suc n) [] e = absurd (omega arith)
bools_back (suc n) (x ∷ truths) e = cons_same refl (bools_back n truths (omega arith))

texts_back : (n : ℕ) (texts : List (List ℕ)) → length texts ≡ n → map text_of (values_in n (Texts texts)) ≡ texts
texts_back zero [] e = refl
texts_back zero (x ∷ texts) e = absurd (omega arith)
texts_back (suc n) [] e = absurd (omega arith)
texts_back (suc n) (x ∷ texts) e = cons_same refl (texts_back n texts (omega arith))

column_back : (n : ℕ) (c : Column) → IsColumn n c → column_of (kind_in c) (values_in n c) ≡ c
column_back n (Ints ns) e = ap Ints (ints_back n ns e)
column_back n (Bools truths) e = ap Bools (bools_back n truths e)
column_back n (Texts texts) e = ap Texts (texts_back n texts e.0)

columns_back : (n at : ℕ) (columns rest : List Column) → drop at columns ≡ rest → AllByRecursion (IsColumn n) rest → columns_from at (map kind_in rest) (field_rows n columns) ≡ rest
columns_back n at columns [] e all = refl
columns_back n at columns (c ∷ rest) e all =
    cons_same (ap (column_of (kind_in c)) (values_at n at columns c rest e) ∙ column_back n c all.0) (columns_back n (suc at) columns rest (drop-next at columns c rest e) all.1)

-- as many of each as there are positions
pub record AreSide (n : ℕ) (ts : List Timestamp) (ks : List Key) (vs : List (List Bool)) : Type 0 where
  pub stamps : length ts ≡ n
  pub keys : length ks ≡ n
  pub vectors : length vs ≡ n

side-next : (n : ℕ) (t : Timestamp) (ts : List Timestamp) (k : Key) (ks : List Key) (v : List Bool) (vs : List (List Bool)) → AreSide (suc n) (t ∷ ts) (k ∷ ks) (v ∷ vs) → AreSide n ts ks vs
side-next n t ts k ks v vs side =
    let a = side.stamps in
    let b = side.keys in
    let d = side.vectors in
    record { stamps = omega arith; keys = omega arith; vectors = omega arith }

-- what each row has of lists of one length
pub each_back : {A : Type 0} (of : Placed → A) (pick : ℕ → Timestamp → Key → List Bool → A) → ((p : ℕ) (t : Timestamp) (k : Key) (v : List Bool) (fields : List Field) → of (placed p t.0 (row_of k v fields)) ≡ pick p t k v)
    → (picked : List ℕ → List Timestamp → List Key → List (List Bool) → List A)
    → picked [] [] [] [] ≡ []
    → ((p : ℕ) (ps : List ℕ) (t : Timestamp) (ts : List Timestamp) (k : Key) (ks : List Key) (v : List Bool) (vs : List (List Bool)) → picked (p ∷ ps) (t ∷ ts) (k ∷ ks) (v ∷ vs) ≡ pick p t k v ∷ picked ps ts ks vs)
    → (ps : List ℕ) (ts : List Timestamp) (ks : List Key) (vs : List (List Bool)) (columns : List Column) → AreSide (length ps) ts ks vs → map of (rows_in ps ts ks vs columns) ≡ picked ps ts ks vs
each_back of pick is picked none step [] [] [] [] columns side = sym none
each_back of pick is picked none step [] (t ∷ ts) ks vs columns side = absurd (let a = side.stamps in omega arith)
each_back of pick is picked none step [] [] (k ∷ ks) vs columns side = absurd (let a = side.keys in omega arith)
each_back of pick is picked none step [] [] [] (v ∷ vs) columns side = absurd (let a = side.vectors in omega arith)
each_back of pick is picked none step (p ∷ ps) [] ks vs columns side = absurd (let a = side.stamps in omega arith)
each_back of pick is picked none step (p ∷ ps) (t ∷ ts) [] vs columns side = absurd (let a = side.keys in omega arith)
each_back of pick is picked none step (p ∷ ps) (t ∷ ts) (k ∷ ks) [] columns side = absurd (let a = side.vectors in omega arith)
each_back of pick is picked none step (p ∷ ps) (t ∷ ts) (k ∷ ks) (v ∷ vs) columns side =
    cons_same (is p t k v (map first_in columns)) (each_back of pick is picked none step ps ts ks vs (map others_in columns) (side-next (length ps) t ts k ks v vs side)) ∙ sym (step p ps t ts k ks v vs)

pub positions_back : (ps : List ℕ) (ts : List Timestamp) (ks : List Key) (vs : List (List Bool)) (columns : List Column) → AreSide (length ps) ts ks vs → map position_of (rows_in ps ts ks vs columns) ≡ ps
positions_back = each_back position_of (λ p t k v. p) (λ p t k v fields. refl) (λ ps ts ks vs. ps) refl (λ p ps t ts k ks v vs. refl)

pub stamps_back : (ps : List ℕ) (ts : List Timestamp) (ks : List Key) (vs : List (List Bool)) (columns : List Column) → AreSide (length ps) ts ks vs → map stamp_of (rows_in ps ts ks vs columns) ≡ ts
stamps_back = each_back stamp_of (λ p t k v. t) (λ p t k v fields. refl) (λ ps ts ks vs. ts) refl (λ p ps t ts k ks v vs. refl)

pub keys_back : (ps : List ℕ) (ts : List Timestamp) (ks : List Key) (vs : List (List Bool)) (columns : List Column) → AreSide (length ps) ts ks vs → map key_of (rows_in ps ts ks vs columns) ≡ ks
keys_back = each_back key_of (λ p t k v. k) (λ p t k v fields. refl) (λ ps ts ks vs. ks) refl (λ p ps t ts k ks v vs. refl)

pub vectors_back : (ps : List ℕ) (ts : List Timestamp) (ks : List Key) (vs : List (List Bool)) (columns : List Column) → AreSide (length ps) ts ks vs → map vector_of (rows_in ps ts ks vs columns) ≡ vs
vectors_back = each_back vector_of (λ p t k v. v) (λ p t k v fields. refl) (λ ps ts ks vs. vs) refl (λ p ps t ts k ks v vs. refl)

fields_back : (ps : List ℕ) (ts : List Timestamp) (ks : List Key) (vs : List (List Bool)) (columns : List Column) → AreSide (length ps) ts ks vs → map fields_of (rows_in ps ts ks vs columns) ≡ field_rows (length ps) columns
fields_back [] ts ks vs columns side = refl
fields_back (p ∷ ps) [] ks vs columns side = absurd (let a = side.stamps in omega arith)
fields_back (p ∷ ps) (t ∷ ts) [] vs columns side = absurd (let a = side.keys in omega arith)
fields_back (p ∷ ps) (t ∷ ts) (k ∷ ks) [] columns side = absurd (let a = side.vectors in omega arith)
fields_back (p ∷ ps) (t ∷ ts) (k ∷ ks) (v ∷ vs) columns side = cons_same refl (fields_back ps ts ks vs (map others_in columns) (side-next (length ps) t ts k ks v vs side))

pub columns_of-rows : (ps : List ℕ) (ts : List Timestamp) (ks : List Key) (vs : List (List Bool)) (columns : List Column) → AreSide (length ps) ts ks vs → AllByRecursion (IsColumn (length ps)) columns
    → columns_from 0 (map kind_in columns) (map fields_of (rows_in ps ts ks vs columns)) ≡ columns
columns_of-rows ps ts ks vs columns side all = ap (columns_from 0 (map kind_in columns)) (fields_back ps ts ks vs columns side) ∙ columns_back (length ps) 0 columns columns refl all
