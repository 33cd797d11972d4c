use Rattle.std.proofs.Common.{◌≡◌, ℕ, ◌<◌, ◌≤◌, ◌^◌, List, [], ◌∷◌, length, map, slice_get, vec_len, Some, None, sym, ap, subst, ◌∙◌, arith}
use Rattle.std.specs.List.{AllByRecursion}
use Rattle.std.proofs.lemmas.List.{length-map}
use Rattle.log_model.specs.Places.{Placed}
use Rattle.seg_sealed.specs.Segments.{IsSealed}
use Rattle.seg_sealed.specs.Parts.{SegmentPart, kept_rows}
use Rattle.seg_sealed.specs.Runs.{with_rows}
use Rattle.seg_merge.specs.declared.kept.Kept.{Kept}
use Rattle.seg_merge.specs.Merges.{AreAlike, AreInOrder, all_rows}
use Rattle.seg_merge.specs.KeptRows.{placed_in, shown_in, placed_of}
use Rattle.seg_merge.proofs.KeptLaws.{placed_back}
use Rattle.seg_merge.proofs.Rows.{kept_make}
use Rattle.seg_merge.proofs.merging.merge.Goals as goal

none_some : (x : SegmentPart) → None ≡ Some x → ⊥
none_some x e = cc

some_same : (x y : SegmentPart) → Some x ≡ Some y → x ≡ y
some_same x y e = cc

make : (number floor : ℕ) (all : List SegmentPart) (first : SegmentPart) (rows : List Placed) → Some first ≡ slice_get all 0 → number < 2 ^ 60 → length (kept_rows floor all) ≤ 65536 → AreAlike all → AreInOrder (all_rows all)
    → AllByRecursion (λ (p : SegmentPart). IsSealed p.sealed) all → rows ≡ map placed_of (kept_rows floor all) → 0 < length rows → IsSealed (with_rows number first.sealed rows)
make number floor [] first rows is low few alike order sealed are some = absurd (none_some first (sym is))
make number floor (x ∷ all) first rows is low few alike order sealed are some =
    subst (λ (p : SegmentPart). IsSealed (with_rows number p.sealed rows)) (some_same x first (sym is)) (kept_make number floor x all rows low few alike order sealed are some)

pub part_of-requires-clause-rows : goal.part_of-requires-clause-rows
part_of-requires-clause-rows c =
    let parts : List SegmentPart = c.args.parts.now in
    let kept : List Kept = c.as_slice.result.now in
    let rows : map (placed_in parts) kept ≡ map placed_of (kept_rows c.args.floor.0 parts) =
    sym (placed_back parts kept) ∙ ap (λ (ks : List Kept). map placed_of (map (shown_in parts) ks)) c.as_slice.ensures.value ∙ ap (map placed_of) c.in_ok-kept.ensures.rows in
    let many : length (map (placed_in parts) kept) ≡ length kept = length-map kept (placed_in parts) in
    let len : length kept ≡ vec_len c.in_ok-kept.kept = c.as_slice.ensures.len in
    let some : 0 < vec_len c.in_ok-kept.kept = grind (arith, c.if-is_empty.ensures, c.if-is_empty.false) in
    make c.args.number c.args.floor.0 parts c.in-Some.first.now (map (placed_in parts) kept) c.in-Some.ensures.value c.requires.number c.requires.few c.requires.alike c.requires.order c.in_ok-kept.ensures.sealed rows (omega arith)
