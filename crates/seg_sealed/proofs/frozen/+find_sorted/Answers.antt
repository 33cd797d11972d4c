use Rattle.std.proofs.Common.{◌≡◌, ◌==◌, Bool, false, ◌+◌, ◌<◌, ◌/◌, ◌-◌, ℕ, List, [], ◌∷◌, ◌++◌, length, length-drop, map, take, drop, get_or, Some, sym, ap, subst, ◌∙◌, refl, arith}
use Rattle.seg_sealed.specs.Marks.{death_at, death_of, RowsRise}
use Rattle.seg_sealed.proofs.MarkLaws.{Mark, cut, some_marks, part_whole, found_there, found_before, found_behind, rise-front, rise-back}
use Rattle.seg_sealed.proofs.frozen.+find_sorted.Goals as goal

whole : (marks before from : List Mark) (empty : Bool) → empty ≡ (length marks == 0) → empty ≡ false → before ≡ take (length marks / 2) marks → from ≡ drop (length marks / 2) marks → before ++ get_or from 0 (0, record { 0 = 0 }) ∷ drop 1 from ≡ marks
whole marks before from empty e false_is is are =
    let some : 0 < length marks = some_marks (length marks) (sym e ∙ false_is) in
    cut marks before from (length marks / 2) (0, record { 0 = 0 }) is are (omega arith)

pub returns-then-mark-row : goal.returns-then-mark-row
returns-then-mark-row t c =
    let before : List Mark = c.split_at.result.0.now in
    let from : List Mark = c.split_at.result.1.now in
    let mark : Mark = get_or from 0 (0, record { 0 = 0 }) in
    let all : before ++ mark ∷ drop 1 from ≡ c.args.marks.now = whole c.args.marks.now before from c.is_empty.result c.is_empty.ensures c.if-is_empty.false c.split_at.ensures.front c.split_at.ensures.back in
    sym (found_there c.args.row before mark (drop 1 from) (subst RowsRise (sym all) c.requires) c.if-mark-row.true) ∙ ap (λ xs. death_at c.args.row (map death_of xs)) all

pub find_sorted-requires : goal.find_sorted-requires
find_sorted-requires t c =
    let before : List Mark = c.split_at.result.0.now in
    let from : List Mark = c.split_at.result.1.now in
    let mark : Mark = get_or from 0 (0, record { 0 = 0 }) in
    let all : before ++ mark ∷ drop 1 from ≡ c.args.marks.now = whole c.args.marks.now before from c.is_empty.result c.is_empty.ensures c.if-is_empty.false c.split_at.ensures.front c.split_at.ensures.back in
    let some : 0 < length c.args.marks.now = some_marks (length c.args.marks.now) (sym c.is_empty.ensures ∙ c.if-is_empty.false) in
    let fewer = c.split_at.ensures.front_len in
    let falls : length before < t = let d = c.decreases in omega arith in
    (falls, rise-front before (mark ∷ drop 1 from) (subst RowsRise (sym all) c.requires))

pub returns-then-row-mark : goal.returns-then-row-mark
returns-then-row-mark t c =
    let before : List Mark = c.split_at.result.0.now in
    let from : List Mark = c.split_at.result.1.now in
    let mark : Mark = get_or from 0 (0, record { 0 = 0 }) in
    let all : before ++ mark ∷ drop 1 from ≡ c.args.marks.now = whole c.args.marks.now before from c.is_empty.result c.is_empty.ensures c.if-is_empty.false c.split_at.ensures.front c.split_at.ensures.back in
    c.find_sorted.ensures ∙ sym (found_before c.args.row before mark (drop 1 from) (subst RowsRise (sym all) c.requires) c.if-row-mark.true) ∙ ap (λ xs. death_at c.args.row (map death_of xs)) all

pub find_sorted-requires-2 : goal.find_sorted-requires-2
find_sorted-requires-2 t c =
    let before : List Mark = c.split_at.result.0.now in
    let from : List Mark = c.split_at.result.1.now in
    let mark : Mark = get_or from 0 (0, record { 0 = 0 }) in
    let all : before ++ mark ∷ drop 1 from ≡ c.args.marks.now = whole c.args.marks.now before from c.is_empty.result c.is_empty.ensures c.if-is_empty.false c.split_at.ensures.front c.split_at.ensures.back in
    let rise : RowsRise (mark ∷ drop 1 from) = rise-back before (mark ∷ drop 1 from) (subst RowsRise (sym all) c.requires) in
    let some : 0 < length c.args.marks.now = some_marks (length c.args.marks.now) (sym c.is_empty.ensures ∙ c.if-is_empty.false) in
    let many : length from + length c.args.marks.now / 2 ≡ length c.args.marks.now = c.split_at.ensures.back_len in
    let falls : length (take (length from - 1) (drop 1 from)) < t = let d = c.decreases in let e : length (take (length from - 1) (drop 1 from)) ≡ length from - 1 = ap length (part_whole from) ∙ length-drop 1 from in omega arith in
    (falls, subst RowsRise (sym (part_whole from)) rise.1)

pub returns : goal.returns
returns t c =
    let before : List Mark = c.split_at.result.0.now in
    let from : List Mark = c.split_at.result.1.now in
    let mark : Mark = get_or from 0 (0, record { 0 = 0 }) in
    let all : before ++ mark ∷ drop 1 from ≡ c.args.marks.now = whole c.args.marks.now before from c.is_empty.result c.is_empty.ensures c.if-is_empty.false c.split_at.ensures.front c.split_at.ensures.back in
    let apart = c.if-mark-row.false in
    let from_row = c.if-row-mark.false in
    let lt : mark.0 < c.args.row = omega arith in
    c.find_sorted-2.ensures ∙ ap (λ xs. death_at c.args.row (map death_of xs)) (part_whole from)
    ∙ sym (found_behind c.args.row before mark (drop 1 from) (subst RowsRise (sym all) c.requires) lt) ∙ ap (λ xs. death_at c.args.row (map death_of xs)) all
