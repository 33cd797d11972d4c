-- Kept rows that follow one another in one part, and the runs of them.
use Rattle.std.proofs.Common.{◌≡◌, ℕ, zero, suc, ◌+◌, ◌<◌, ◌≤◌, List, [], ◌∷◌, ◌++◌, length, map, take, drop, get_or, slice_get, slice_range, Some, refl, sym, ap, ap₂, subst, ◌∙◌, append_assoc, append-nil, arith, length-drop}
use Rattle.std.specs.List.{AllByRecursion}
use Rattle.std.proofs.lemmas.List.{map-append, length-take, take-append-drop, take_more}
use Rattle.std.proofs.lemmas.Option.{slice_get_read}
use Rattle.log_model.specs.Places.{Placed}
use Rattle.journal_model.specs.Lists.{joined, IsIn}
use Rattle.journal_model.proofs.ListLaws.{joined-append, all_in, in_map, out_map}
use Rattle.seg_sealed.specs.Segments.{SealedSegment}
use Rattle.seg_sealed.specs.Parts.{SegmentPart}
use Rattle.seg_sealed.specs.Runs.{RowRun, IsRunLike, run_rows, rows_of_runs}
use Rattle.seg_sealed.proofs.ColumnSteps.{all_at}
use Rattle.seg_merge.specs.declared.kept.Kept.{Kept}
use Rattle.seg_merge.specs.Merges.{IsLike, segment_of, rows_of}
use Rattle.seg_merge.specs.KeptRows.{no_row, rows_at, placed_in, IsKept, IsStretch}
use Rattle.seg_merge.proofs.Lists.{read_is, range_first, range_none, all_append, all_take, all_drop, get_in}

-- one row more
pub stretch_more : (place row : ℕ) (ks : List Kept) (k : Kept) → IsStretch place row ks → k.part ≡ place → k.row ≡ row + length ks → IsStretch place row (ks ++ k ∷ [])
stretch_more place row [] k s e f = (e, let a : k.row ≡ row = omega arith in a, tt)
stretch_more place row (x ∷ ks) k s e f = (s.0, s.1, stretch_more place (suc row) ks k s.2 e (omega arith))

pub stretch_next : (place row i : ℕ) (kept : List Kept) (d : Kept) → IsStretch place row (take i kept) → i < length kept → (get_or kept i d).part ≡ place → (get_or kept i d).row ≡ row + i → IsStretch place row (take (i + 1) kept)
stretch_next place row i kept d s lt e f =
    let n : length (take i kept) ≡ i = let a = length-take i kept in omega arith in
    subst (IsStretch place row) (sym (take_more kept i d lt)) (stretch_more place row (take i kept) (get_or kept i d) s e (f ∙ ap (λ m. row + m) (sym n)))

-- the rows are rows of the part
stretch_within : (parts : List SegmentPart) (place row : ℕ) (ks : List Kept) → 0 < length ks → IsStretch place row ks → AllByRecursion (IsKept parts) ks → row + length ks ≤ length (rows_at parts place)
stretch_within parts place row [] some s valid = absurd (omega arith)
stretch_within parts place row (k ∷ []) some s valid =
    let a : row < length (rows_at parts place) = subst (λ r. r < length (rows_at parts place)) s.1 (subst (λ p. k.row < length (rows_at parts p)) s.0 valid.0.row) in
    omega arith
stretch_within parts place row (k ∷ x ∷ ks) some s valid = let a = stretch_within parts place (suc row) (x ∷ ks) (omega arith) s.2 valid.1 in omega arith

stretch_rows : (parts : List SegmentPart) (place row : ℕ) (ks : List Kept) → IsStretch place row ks → row + length ks ≤ length (rows_at parts place)
    → slice_range (rows_at parts place) row (row + length ks) ≡ map (placed_in parts) ks
stretch_rows parts place row [] s within = range_none (rows_at parts place) row
stretch_rows parts place row (k ∷ ks) s within =
    range_first (rows_at parts place) row (length ks) no_row (omega arith)
    ∙ ap₂ (λ x xs. x ∷ xs) (sym (row_is k s.0 s.1)) (stretch_rows parts place (suc row) ks s.2 (omega arith))
  where
    row_is : (k : Kept) → k.part ≡ place → k.row ≡ row → placed_in parts k ≡ placed_in parts (record { position = k.position; part = place; row = row; death = k.death })
    row_is k e f = ap₂ (λ p r. placed_in parts (record { position = k.position; part = p; row = r; death = k.death })) e f

-- ---- runs

pub record AreInRuns (parts : List SegmentPart) (kept rest : List Kept) (runs : List RowRun) : Type 0 where
  pub same : rows_of_runs runs ++ map (placed_in parts) rest ≡ map (placed_in parts) kept
  pub valid : AllByRecursion (IsKept parts) rest
  pub few : length rest ≤ 65536
  pub segments : AllByRecursion (λ (run : RowRun). IsIn run.segment (map segment_of parts)) runs

pub runs_begun : (parts : List SegmentPart) (kept rest : List Kept) (runs : List RowRun) → AllByRecursion (IsKept parts) kept → length kept ≤ 65536 → rest ≡ kept → runs ≡ [] → AreInRuns parts kept rest runs
runs_begun parts kept rest runs valid few e f =
    subst (λ r. AreInRuns parts kept r runs) (sym e) (subst (λ rs. AreInRuns parts kept kept rs) (sym f) (record { same = refl; valid = valid; few = few; segments = tt }))

runs_push : (runs : List RowRun) (run : RowRun) → rows_of_runs (runs ++ run ∷ []) ≡ rows_of_runs runs ++ run_rows run
runs_push runs run =
    ap joined (map-append run_rows runs (run ∷ [])) ∙ joined-append (map run_rows runs) (run_rows run ∷ []) ∙ ap (λ l. rows_of_runs runs ++ l) (append-nil (run_rows run))

-- the rows of a run that is taken from the front
pub record IsTaken (parts : List SegmentPart) (rest : List Kept) (first : Kept) (count : ℕ) (part : SegmentPart) : Type 0 where
  pub there : slice_get parts first.part ≡ Some part
  pub some : 0 < count
  pub within : count ≤ length rest
  pub stretch : IsStretch first.part first.row (take count rest)

pub taken_front : (parts : List SegmentPart) (rest : List Kept) (first : Kept) (count : ℕ) (part : SegmentPart) → AllByRecursion (IsKept parts) rest → Some first ≡ slice_get rest 0 → part ≡ get_or parts first.part part
    → 0 < count → count ≤ length rest → IsStretch first.part first.row (take count rest) → IsTaken parts rest first count part
taken_front parts rest first count part valid is read some within stretch =
    let k : IsKept parts first = all_at (IsKept parts) rest 0 first (sym is) valid in
    record { there = slice_get_read parts (length parts) first.part part refl k.part read; some = some; within = within; stretch = stretch }

pub run_is : (s t : SealedSegment) (begin end : ℕ) (run : RowRun) → run.segment ≡ s → s ≡ t → run.begin ≡ begin → run.end ≡ end → run ≡ record { segment = t; begin = begin; end = end }
run_is s t begin end run a same b d = ap (λ u. record { segment = u; begin = run.begin; end = run.end }) (a ∙ same) ∙ ap₂ (λ m n. record { segment = t; begin = m; end = n }) b d

pub taken_within : (parts : List SegmentPart) (rest : List Kept) (first : Kept) (count : ℕ) (part : SegmentPart) → AllByRecursion (IsKept parts) rest → IsTaken parts rest first count part → first.row + count ≤ length part.sealed.rows
taken_within parts rest first count part valid t =
    let some = t.some in
    let within = t.within in
    let n : length (take count rest) ≡ count = let a = length-take count rest in omega arith in
    let a = stretch_within parts first.part first.row (take count rest) (omega arith) t.stretch (all_take (IsKept parts) count rest valid) in
    let e = ap length (read_is rows_of parts first.part part [] t.there) in
    omega arith

taken_rows : (parts : List SegmentPart) (rest : List Kept) (first : Kept) (count : ℕ) (part : SegmentPart) → AllByRecursion (IsKept parts) rest → IsTaken parts rest first count part
    → slice_range part.sealed.rows first.row (first.row + count) ≡ map (placed_in parts) (take count rest)
taken_rows parts rest first count part valid t =
    let some = t.some in
    let within = t.within in
    let n : length (take count rest) ≡ count = let a = length-take count rest in omega arith in
    let inside = stretch_within parts first.part first.row (take count rest) (omega arith) t.stretch (all_take (IsKept parts) count rest valid) in
    ap (λ rs. slice_range rs first.row (first.row + count)) (sym (read_is rows_of parts first.part part [] t.there))
    ∙ ap (λ m. slice_range (rows_at parts first.part) first.row (first.row + m)) (sym n)
    ∙ stretch_rows parts first.part first.row (take count rest) t.stretch inside

pub runs_next : (parts : List SegmentPart) (kept rest after : List Kept) (runs more : List RowRun) (first : Kept) (count : ℕ) (part : SegmentPart) (run : RowRun) → AreInRuns parts kept rest runs → IsTaken parts rest first count part
    → run ≡ record { segment = part.sealed; begin = first.row; end = first.row + count } → more ≡ runs ++ run ∷ [] → after ≡ drop count rest → AreInRuns parts kept after more
runs_next parts kept rest after runs more first count part run in_runs t is are e =
    let rows : run_rows run ≡ map (placed_in parts) (take count rest) = ap run_rows is ∙ taken_rows parts rest first count part in_runs.valid t in
    let split : map (placed_in parts) (take count rest) ++ map (placed_in parts) (drop count rest) ≡ map (placed_in parts) rest =
    sym (map-append (placed_in parts) (take count rest) (drop count rest)) ∙ ap (map (placed_in parts)) (take-append-drop count rest) in
    let segment : IsIn run.segment (map segment_of parts) = subst (λ s. IsIn s (map segment_of parts)) (sym (ap (λ (r : RowRun). r.segment) is)) (in_map segment_of part parts (get_in parts first.part part t.there)) in
    subst (λ r. AreInRuns parts kept r more) (sym e) (subst (λ rs. AreInRuns parts kept (drop count rest) rs) (sym are) (record {
      same =
          ap (λ l. l ++ map (placed_in parts) (drop count rest)) (runs_push runs run ∙ ap (λ l. rows_of_runs runs ++ l) rows)
          ∙ append_assoc (rows_of_runs runs) (map (placed_in parts) (take count rest)) (map (placed_in parts) (drop count rest))
          ∙ ap (λ l. rows_of_runs runs ++ l) split ∙ in_runs.same;
      valid = all_drop (IsKept parts) count rest in_runs.valid;
      few = let a = length-drop count rest in let b = in_runs.few in omega arith;
      segments = all_append (λ (r : RowRun). IsIn r.segment (map segment_of parts)) runs (run ∷ []) in_runs.segments (segment, tt);
    }))

pub runs_done : (parts : List SegmentPart) (kept rest : List Kept) (runs : List RowRun) → AreInRuns parts kept rest runs → rest ≡ [] → rows_of_runs runs ≡ map (placed_in parts) kept
runs_done parts kept rest runs in_runs e = sym (ap (λ r. rows_of_runs runs ++ map (placed_in parts) r) e ∙ append-nil (rows_of_runs runs)) ∙ in_runs.same

-- runs of parts that are like another are runs like it
pub runs_like : (like : SegmentPart) (parts : List SegmentPart) (runs : List RowRun) → AllByRecursion (IsLike like) parts → AllByRecursion (λ (run : RowRun). IsIn run.segment (map segment_of parts)) runs → AllByRecursion (IsRunLike like.sealed) runs
runs_like like parts [] alike segments = tt
runs_like like parts (run ∷ runs) alike segments =
    let p = out_map segment_of run.segment parts segments.0 in
    let l : IsLike like p.0 = all_in (IsLike like) parts p.0 alike p.1 in
    (record { dim = ap (λ (s : SealedSegment). s.dim) p.2 ∙ l.dim; kinds = ap (λ (s : SealedSegment). s.kinds) p.2 ∙ l.kinds }, runs_like like parts runs alike segments.1)
