-- The rows of chunks, one chunk after another.
use Rattle.std.proofs.Common.{◌≡◌, ℕ, zero, suc, ◌+◌, ◌≤◌, List, [], ◌∷◌, ◌++◌, length, take, slice_get, Some, sym, ap, subst, ◌∙◌, append-nil, append_assoc, length-append, arith}
use Rattle.std.specs.List.{AllByRecursion}
use Rattle.log_model.specs.Places.{Placed}
use Rattle.growing_segment.specs.Tails.{Rows, rows_in}
use Rattle.flat_scan.proofs.AllLists.{all_front, all_back}
use Rattle.flat_scan.proofs.MarkedRows.{some_same, none_some}

pub rows-next : (chunks : List Rows) (i : ℕ) (chunk : Rows) → slice_get chunks i ≡ Some chunk → rows_in (take (suc i) chunks) ≡ rows_in (take i chunks) ++ chunk.rows
rows-next [] i chunk e = absurd (none_some chunk e)
rows-next (c ∷ chunks) zero chunk e = append-nil c.rows ∙ ap (λ (r : Rows). r.rows) (some_same c chunk e)
rows-next (c ∷ chunks) (suc i) chunk e = ap (λ l. c.rows ++ l) (rows-next chunks i chunk e) ∙ sym (append_assoc c.rows (rows_in (take i chunks)) chunk.rows)

pub chunk-fit : (P : Placed → Type 0) (chunks : List Rows) (i : ℕ) (chunk : Rows) → slice_get chunks i ≡ Some chunk → AllByRecursion P (rows_in chunks) → AllByRecursion P chunk.rows
chunk-fit P [] i chunk e a = absurd (none_some chunk e)
chunk-fit P (c ∷ chunks) zero chunk e a = subst (λ (r : Rows). AllByRecursion P r.rows) (some_same c chunk e) (all_front P c.rows (rows_in chunks) a)
chunk-fit P (c ∷ chunks) (suc i) chunk e a = chunk-fit P chunks i chunk e (all_back P c.rows (rows_in chunks) a)

pub chunk-few : (chunks : List Rows) (i : ℕ) (chunk : Rows) → slice_get chunks i ≡ Some chunk → length (rows_in (take i chunks)) + length chunk.rows ≤ length (rows_in chunks)
chunk-few [] i chunk e = absurd (none_some chunk e)
chunk-few (c ∷ chunks) zero chunk e =
    let same : length c.rows ≡ length chunk.rows = ap (λ (r : Rows). length r.rows) (some_same c chunk e) in
    omega (arith, same, length-append c.rows (rows_in chunks))
chunk-few (c ∷ chunks) (suc i) chunk e = omega (arith, chunk-few chunks i chunk e, length-append c.rows (rows_in chunks), length-append c.rows (rows_in (take i chunks)))
