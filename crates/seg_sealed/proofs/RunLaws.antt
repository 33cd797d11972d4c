-- Rows of runs, and what is copied of them.
use Rattle.std.proofs.Common.{◌≡◌, ℕ, zero, suc, ◌+◌, ◌-◌, ◌*◌, ◌<◌, ◌≤◌, ℤ, Bool, List, [], ◌∷◌, ◌++◌, length, map, take, drop, slice_get, slice_range, Option, Some, None, refl, sym, ap, ap₂, subst, ◌∙◌, append-nil, length-append, length-drop, arith}
use Rattle.std.specs.Option.{option_map}
use Rattle.std.specs.List.{AllByRecursion}
use Rattle.std.proofs.lemmas.List.{map-append, take-map, drop-map, drop-take, drop-drop, take-append-le, drop-append-le, length-take, length-map}
use Rattle.std.proofs.Math.Seq.{take-length, take-nil, drop-nil, take-take}
use Rattle.std.proofs.Math.Nat.{zero-mul, suc-mul, mul_comm, mul-sub, mul-le-mul_right}
use Rattle.row_types.specs.Bits.{AreWordsOf}
use Rattle.row_types.specs.declared.rows.Kind.{Kind}
use Rattle.row_types.specs.declared.rows.Kind.TheVariants as kind
use Rattle.row_types.specs.declared.rows.Field.{Field}
use Rattle.log_model.specs.Places.{Placed, IsColumn, width_of, vector_of}
use Rattle.journal_model.specs.Lists.{joined}
use Rattle.journal_model.proofs.ListLaws.{joined-append}
use Rattle.binlog_format.specs.declared.objects.Column.{Column}
use Rattle.seg_sealed.specs.Segments.{SealedSegment, IsSealed, with_lists, log_of, fields_of, field_at, int_of, bool_of, text_of, column_of, columns_from}
use Rattle.seg_sealed.specs.Fields.{kind_in}
use Rattle.seg_sealed.specs.Runs.{RowRun, IsRun, IsRunLike, run_rows, rows_of_runs, ints_in, bools_in, texts_in}
use Rattle.seg_sealed.proofs.ColumnSteps.{one_more, in_one}
use Rattle.seg_sealed.proofs.WordLaws.{column-length}

-- ---- run by run

pub next_rows : (runs : List RowRun) (i : ℕ) (run : RowRun) → slice_get runs i ≡ Some run → rows_of_runs (take (i + 1) runs) ≡ rows_of_runs (take i runs) ++ run_rows run
next_rows runs i run e =
    ap joined (sym (one_more run_rows runs i run e)) ∙ joined-append (map run_rows (take i runs)) (run_rows run ∷ []) ∙ ap (λ l. rows_of_runs (take i runs) ++ l) (append-nil (run_rows run))

-- the values of one run more
pub runs_more : {A : Type 0} (f : Placed → A) (runs : List RowRun) (i : ℕ) (run : RowRun) (items here : List A) → slice_get runs i ≡ Some run → items ≡ map f (rows_of_runs (take i runs)) → here ≡ map f (run_rows run)
    → items ++ here ≡ map f (rows_of_runs (take (i + 1) runs))
runs_more f runs i run items here there are is =
    ap₂ (λ a b. a ++ b) are is ∙ sym (map-append f (rows_of_runs (take i runs)) (run_rows run)) ∙ ap (map f) (sym (next_rows runs i run there))

-- the values of all runs
pub runs_whole : {A : Type 0} (f : Placed → A) (runs : List RowRun) (i : ℕ) (items : List A) → i ≡ length runs → items ≡ map f (rows_of_runs (take i runs)) → items ≡ map f (rows_of_runs runs)
runs_whole f runs i items end are = are ∙ ap (λ n. map f (rows_of_runs (take n runs))) end ∙ ap (λ rs. map f (rows_of_runs rs)) (take-length runs)

pub range-map : {A B : Type 0} (f : A → B) (xs : List A) (a b : ℕ) → slice_range (map f xs) a b ≡ map f (slice_range xs a b)
range-map f xs a b = ap (take (b - a)) (drop-map f a xs) ∙ take-map f (b - a) (drop a xs)

pub some_rows : (runs : List RowRun) (i : ℕ) → length (rows_of_runs (take i runs)) ≤ length (rows_of_runs runs)
some_rows runs zero = omega arith
some_rows [] (suc i) = omega arith
some_rows (run ∷ runs) (suc i) =
    let rest = some_rows runs i in
    let a = length-append (run_rows run) (rows_of_runs (take i runs)) in
    let b = length-append (run_rows run) (rows_of_runs runs) in
    omega arith

-- ---- words

pub column-append : (width : ℕ) (vectors more : List (List Bool)) (words others : List ℕ) → IsColumn width vectors words → IsColumn width more others → IsColumn width (vectors ++ more) (words ++ others)
column-append width [] more words others a b = subst (λ l. IsColumn width more (l ++ others)) (sym a) b
column-append width (v ∷ vectors) more words others a b = (
  omega (arith, length-append words others, a.0),
  subst (λ l. AreWordsOf v l) (sym (take-append-le width words others a.0)) a.1,
  subst (λ l. IsColumn width (vectors ++ more) l) (sym (drop-append-le width words others a.0)) (column-append width vectors more (drop width words) others a.2 b),
)

column-drop : (width i : ℕ) (vectors : List (List Bool)) (words : List ℕ) → IsColumn width vectors words → IsColumn width (drop i vectors) (drop (i * width) words)
column-drop width zero vectors words a = subst (λ n. IsColumn width vectors (drop n words)) (sym (zero-mul width)) a
column-drop width (suc i) [] words a = ap (drop (suc i * width)) a ∙ drop-nil (suc i * width)
column-drop width (suc i) (v ∷ vectors) words a =
    let rest : IsColumn width (drop i vectors) (drop (i * width) (drop width words)) = column-drop width i vectors (drop width words) a.2 in
    let there : width + i * width ≡ suc i * width = let e : suc i * width ≡ i * width + width = suc-mul i width in omega arith in
    subst (λ l. IsColumn width (drop i vectors) l) (drop-drop (i * width) width words ∙ ap (λ n. drop n words) there) rest

column-take : (width n : ℕ) (vectors : List (List Bool)) (words : List ℕ) → IsColumn width vectors words → IsColumn width (take n vectors) (take (n * width) words)
column-take width zero vectors words a = ap (λ n. take n words) (zero-mul width)
column-take width (suc n) [] words a = ap (take (suc n * width)) a ∙ take-nil (suc n * width)
column-take width (suc n) (v ∷ vectors) words a =
    let m : suc n * width ≡ width + n * width = let e : suc n * width ≡ n * width + width = suc-mul n width in omega arith in
    let enough : width ≤ length words = a.0 in
    let long : width ≤ length (take (width + n * width) words) = let b = length-take (width + n * width) words in omega arith in
    let first : take width (take (width + n * width) words) ≡ take width words = take-take width (width + n * width) words (omega arith) in
    let behind : drop width (take (width + n * width) words) ≡ take (n * width) (drop width words) = drop-take width (n * width) words in
    subst (λ k. IsColumn width (v ∷ take n vectors) (take k words)) (sym m) (
      long,
      subst (λ l. AreWordsOf v l) (sym first) a.1,
      subst (λ l. IsColumn width (take n vectors) l) (sym behind) (column-take width n vectors (drop width words) a.2),
    )

-- the words of some rows
pub column-range : (width begin end : ℕ) (vectors : List (List Bool)) (words : List ℕ) → IsColumn width vectors words
    → IsColumn width (slice_range vectors begin end) (take (end * width - begin * width) (drop (begin * width) words))
column-range width begin end vectors words a =
    let n : (end - begin) * width ≡ end * width - begin * width =
    mul_comm (end - begin) width ∙ mul-sub width end begin ∙ ap₂ (λ x y. x - y) (mul_comm width end) (mul_comm width begin) in
    subst (λ k. IsColumn width (slice_range vectors begin end) (take k (drop (begin * width) words))) n
    (column-take width (end - begin) (drop begin vectors) (drop (begin * width) words) (column-drop width begin vectors words a))

pub words_within : (width end : ℕ) (rows : List Placed) (words : List ℕ) → IsColumn width (map vector_of rows) words → end ≤ length rows → end * width ≤ length words
words_within width end rows words is le =
    let a = column-length width (map vector_of rows) words is in
    let b : length (map vector_of rows) ≡ length rows = length-map rows vector_of in
    let d : end * width ≤ length (map vector_of rows) * width = mul-le-mul_right width (let e : end ≤ length (map vector_of rows) = omega arith in e) in
    omega arith

pub times_le : (width begin end : ℕ) → begin ≤ end → begin * width ≤ end * width
times_le width begin end le = mul-le-mul_right width le

pub run_words : (dim : ℕ) (run : RowRun) (words window : List ℕ) → IsColumn (width_of dim) (map vector_of run.segment.rows) words
    → window ≡ take (run.end * width_of dim - run.begin * width_of dim) (drop (run.begin * width_of dim) words) → IsColumn (width_of dim) (map vector_of (run_rows run)) window
run_words dim run words window is e =
    subst (λ vs. IsColumn (width_of dim) vs window) (range-map vector_of run.segment.rows run.begin run.end)
    (subst (λ ws. IsColumn (width_of dim) (slice_range (map vector_of run.segment.rows) run.begin run.end) ws) (sym e) (column-range (width_of dim) run.begin run.end (map vector_of run.segment.rows) words is))

pub words_more : (width : ℕ) (runs : List RowRun) (i : ℕ) (run : RowRun) (words here : List ℕ) → slice_get runs i ≡ Some run → IsColumn width (map vector_of (rows_of_runs (take i runs))) words → IsColumn width (map vector_of (run_rows run)) here
    → IsColumn width (map vector_of (rows_of_runs (take (i + 1) runs))) (words ++ here)
words_more width runs i run words here there are is =
    subst (λ vs. IsColumn width vs (words ++ here)) (sym (map-append vector_of (rows_of_runs (take i runs)) (run_rows run)) ∙ ap (map vector_of) (sym (next_rows runs i run there)))
    (column-append width (map vector_of (rows_of_runs (take i runs))) (map vector_of (run_rows run)) words here are is)

-- ---- columns

none_some : {A : Type 0} (x : A) → None ≡ Some x → ⊥
none_some x e = cc

some_same : {A : Type 0} (x y : A) → Some x ≡ Some y → x ≡ y
some_same x y e = cc

column_there : (at j : ℕ) (kinds : List Kind) (rows : List (List Field)) (k : Kind) → slice_get kinds j ≡ Some k → slice_get (columns_from at kinds rows) j ≡ Some (column_of k (map (field_at (at + j)) rows))
column_there at zero [] rows k e = absurd (none_some k e)
column_there at (suc j) [] rows k e = absurd (none_some k e)
column_there at zero (h ∷ kinds) rows k e = ap₂ (λ g n. Some (column_of g (map (field_at n) rows))) (some_same h k e) (let n : at ≡ at + 0 = omega arith in n)
column_there at (suc j) (h ∷ kinds) rows k e =
    column_there (suc at) j kinds rows k e ∙ ap (λ n. Some (column_of k (map (field_at n) rows))) (let n : suc at + j ≡ at + suc j = omega arith in n)

-- the values of a column of one kind are those of the rows
pub values_all : {A : Type 0} (of : Field → A) (pick : Option Column → List A) (k : Kind) → ((fields : List Field) → pick (Some (column_of k fields)) ≡ map of fields)
    → (s : SealedSegment) (columns : List Column) (at : ℕ) (values : List A) → columns ≡ (log_of s).columns → slice_get s.kinds at ≡ Some k → values ≡ pick (slice_get columns at)
    → values ≡ map (λ (x : Placed). of (field_at at x.row.fields)) s.rows
values_all of pick k gives s columns at values same kind is =
    let there : slice_get (log_of s).columns at ≡ Some (column_of k (map (field_at at) (map fields_of s.rows))) =
    column_there 0 at s.kinds (map fields_of s.rows) k kind ∙ ap (λ n. Some (column_of k (map (field_at n) (map fields_of s.rows)))) (let n : 0 + at ≡ at = omega arith in n) in
    is ∙ ap (λ cs. pick (slice_get cs at)) same ∙ ap pick there ∙ gives (map (field_at at) (map fields_of s.rows)) ∙ in_one of (field_at at) fields_of s.rows

pub ints_all : (s : SealedSegment) (columns : List Column) (at : ℕ) (values : List ℤ) → columns ≡ (log_of s).columns → slice_get s.kinds at ≡ Some kind.Int → values ≡ ints_in (slice_get columns at)
    → values ≡ map (λ (x : Placed). int_of (field_at at x.row.fields)) s.rows
ints_all = values_all int_of ints_in kind.Int (λ fields. refl)

pub bools_all : (s : SealedSegment) (columns : List Column) (at : ℕ) (values : List Bool) → columns ≡ (log_of s).columns → slice_get s.kinds at ≡ Some kind.Bool → values ≡ bools_in (slice_get columns at)
    → values ≡ map (λ (x : Placed). bool_of (field_at at x.row.fields)) s.rows
bools_all = values_all bool_of bools_in kind.Bool (λ fields. refl)

pub texts_all : (s : SealedSegment) (columns : List Column) (at : ℕ) (values : List (List ℕ)) → columns ≡ (log_of s).columns → slice_get s.kinds at ≡ Some kind.Text → values ≡ texts_in (slice_get columns at)
    → values ≡ map (λ (x : Placed). text_of (field_at at x.row.fields)) s.rows
texts_all = values_all text_of texts_in kind.Text (λ fields. refl)

-- a list of a value for each row of a segment has one up to the end of each run
pub range_within : {A : Type 0} (f : Placed → A) (run : RowRun) (values : List A) → IsRun run → values ≡ map f run.segment.rows → run.end ≤ length values
range_within f run values is e =
    let a : length values ≡ length run.segment.rows = ap length e ∙ length-map run.segment.rows f in
    let b = is.within in
    omega arith

pub kinds_at : (runs : List RowRun) (kinds : List Kind) (at : ℕ) (k : Kind) → AllByRecursion (λ (run : RowRun). run.segment.kinds ≡ kinds) runs → slice_get kinds at ≡ Some k → AllByRecursion (λ (run : RowRun). slice_get run.segment.kinds at ≡ Some k) runs
kinds_at [] kinds at k all e = tt
kinds_at (run ∷ runs) kinds at k all e = (ap (λ ks. slice_get ks at) all.0 ∙ e, kinds_at runs kinds at k all.1 e)

pub dims_of : (like : SealedSegment) (dim : ℕ) (runs : List RowRun) → dim ≡ like.dim → AllByRecursion (IsRunLike like) runs → AllByRecursion (λ (run : RowRun). run.segment.dim ≡ dim) runs
dims_of like dim [] e all = tt
dims_of like dim (run ∷ runs) e all = (all.0.dim ∙ sym e, dims_of like dim runs e all.1)

pub kinds_like : (like : SealedSegment) (kinds : List Kind) (runs : List RowRun) → kinds ≡ like.kinds → AllByRecursion (IsRunLike like) runs → AllByRecursion (λ (run : RowRun). run.segment.kinds ≡ kinds) runs
kinds_like like kinds [] e all = tt
kinds_like like kinds (run ∷ runs) e all = (all.0.kinds ∙ sym e, kinds_like like kinds runs e all.1)
