-- Chunks and the rows behind them, read by place, and what a tail keeps.
use Rattle.std.proofs.Common.{◌≡◌, ℕ, zero, suc, ◌+◌, ◌*◌, ◌<◌, List, [], ◌∷◌, ◌++◌, length, take, drop, get_or, refl, sym, ap, subst, ◌∙◌, arith, append_assoc, length-append}
use Rattle.std.proofs.lemmas.List.{take-append-drop, append-nil}
use Rattle.std.specs.List.{AllByRecursion, slice_get}
use Rattle.log_model.specs.Places.{Placed, PlacedBefore, Rise}
use Rattle.growing_segment.specs.Tails.{Rows, HasDimension, HasChunkDimension, IsWhole, AreOfTail, rows_in}
use Rattle.growing_segment.specs.Kept.{KeepsTail}
use Rattle.growing_segment.proofs.Columns.{all_append, all_back}

-- ---- chunks

pub rows_in-push : (chunks : List Rows) (chunk : Rows) → rows_in (chunks ++ chunk ∷ []) ≡ rows_in chunks ++ chunk.rows
rows_in-push [] chunk = append-nil chunk.rows
rows_in-push (c ∷ chunks) chunk = ap (λ xs. c.rows ++ xs) (rows_in-push chunks chunk) ∙ sym (append_assoc c.rows (rows_in chunks) chunk.rows)

-- rows that move from behind the chunks into one more chunk
pub rows_moved : (chunks : List Rows) (chunk : Rows) (latest : List Placed) → chunk.rows ≡ take 256 latest → rows_in (chunks ++ chunk ∷ []) ++ drop 256 latest ≡ rows_in chunks ++ latest
rows_moved chunks chunk latest is =
    ap (λ xs. xs ++ drop 256 latest) (rows_in-push chunks chunk ∙ ap (λ xs. rows_in chunks ++ xs) is)
    ∙ append_assoc (rows_in chunks) (take 256 latest) (drop 256 latest)
    ∙ ap (λ xs. rows_in chunks ++ xs) (take-append-drop 256 latest)

pub length-rows_in : (chunks : List Rows) → AllByRecursion IsWhole chunks → length (rows_in chunks) ≡ 256 * length chunks
length-rows_in [] w = refl
length-rows_in (c ∷ chunks) w =
    let one = w.0 in
    omega (arith, length-append c.rows (rows_in chunks), length-rows_in chunks w.1)

pub slice_get_left : {X : Type 0} (xs ys : List X) (i : ℕ) → i < length xs → slice_get (xs ++ ys) i ≡ slice_get xs i
slice_get_left [] ys i h = absurd (omega arith)
slice_get_left (x ∷ xs) ys zero h = refl
slice_get_left (x ∷ xs) ys (suc i) h = slice_get_left xs ys i (omega arith)

pub slice_get_right : {X : Type 0} (xs ys : List X) (n i : ℕ) → n ≡ length xs → slice_get (xs ++ ys) (n + i) ≡ slice_get ys i
slice_get_right [] ys n i h = let e : n + i ≡ i = omega arith in ap (slice_get ys) e
slice_get_right (x ∷ xs) ys zero i h = absurd (omega arith)
slice_get_right (x ∷ xs) ys (suc n) i h = let e : suc n + i ≡ suc (n + i) = omega arith in rw e (slice_get_right xs ys n i (omega arith))

pub slice_get-rows_in : (chunks : List Rows) (k j : ℕ) (d : Rows) → AllByRecursion IsWhole chunks → k < length chunks → j < 256 → slice_get (rows_in chunks) (256 * k + j) ≡ slice_get (get_or chunks k d).rows j
slice_get-rows_in [] k j d w h i = absurd (omega arith)
slice_get-rows_in (c ∷ chunks) zero j d w h i =
    let e : 256 * 0 + j ≡ j = omega arith in
    let one = w.0 in
    rw e (slice_get_left c.rows (rows_in chunks) j (omega arith))
slice_get-rows_in (c ∷ chunks) (suc k) j d w h i =
    let e : 256 * suc k + j ≡ 256 + (256 * k + j) = omega arith in
    rw e (slice_get_right c.rows (rows_in chunks) 256 (256 * k + j) (sym w.0)) ∙ slice_get-rows_in chunks k j d w.1 (omega arith) i

-- ---- what a tail keeps

rise_push : (rows : List Placed) (x : Placed) → Rise rows → AllByRecursion (λ y. PlacedBefore y x) rows → Rise (rows ++ x ∷ [])
rise_push [] x r a = (tt, tt)
rise_push (y ∷ rows) x r a = (all_append (PlacedBefore y) rows (x ∷ []) r.0 (a.0, tt), rise_push rows x r.1 a.1)

pub fit_push : (dim : ℕ) (rows : List Placed) (x : Placed) → length rows < 65536 → HasDimension dim x → AllByRecursion (λ y. PlacedBefore y x) rows → AreOfTail dim rows → AreOfTail dim (rows ++ x ∷ [])
fit_push dim rows x few fits last are = record {
  few = omega (arith, length-append rows (x ∷ []));
  fit = all_append (HasDimension dim) rows (x ∷ []) are.fit (fits, tt);
  rise = rise_push rows x are.rise last;
}

pub keeps_push : (dim : ℕ) (chunks : List Rows) (latest : List Placed) (x : Placed) → length (rows_in chunks ++ latest) < 65536 → HasDimension dim x → AllByRecursion (λ y. PlacedBefore y x) (rows_in chunks ++ latest) → KeepsTail dim chunks latest → KeepsTail dim chunks (latest ++ x ∷ [])
keeps_push dim chunks latest x few fits last keeps = record {
  dim_fits = keeps.dim_fits;
  whole = keeps.whole;
  dims = keeps.dims;
  rows_fit = subst (AreOfTail dim) (append_assoc (rows_in chunks) latest (x ∷ [])) (fit_push dim (rows_in chunks ++ latest) x few fits last keeps.rows_fit);
}

pub keeps_same : (dim : ℕ) (chunks more : List Rows) (latest less : List Placed) → rows_in more ++ less ≡ rows_in chunks ++ latest → AllByRecursion IsWhole more → AllByRecursion (HasChunkDimension dim) more → KeepsTail dim chunks latest → KeepsTail dim more less
keeps_same dim chunks more latest less same whole dims keeps = record {
  dim_fits = keeps.dim_fits;
  whole = whole;
  dims = dims;
  rows_fit = subst (AreOfTail dim) (sym same) keeps.rows_fit;
}

pub latest_fit : (dim : ℕ) (chunks : List Rows) (latest : List Placed) → KeepsTail dim chunks latest → AllByRecursion (HasDimension dim) latest
latest_fit dim chunks latest keeps = all_back (HasDimension dim) (rows_in chunks) latest keeps.rows_fit.fit

pub length-rows : (dim : ℕ) (chunks : List Rows) (latest : List Placed) → KeepsTail dim chunks latest → length (rows_in chunks ++ latest) ≡ 256 * length chunks + length latest
length-rows dim chunks latest keeps = omega (arith, length-append (rows_in chunks) latest, length-rows_in chunks keeps.whole)
