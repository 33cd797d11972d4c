-- Marks: looking a row up, one mark more, and marks in another order.
use Rattle.std.proofs.Common.{◌≡◌, ◌≢◌, ℕ, zero, suc, ◌+◌, ◌<◌, ◌≤◌, nat_eq, Bool, true, false, ◌&&◌, cond, List, [], ◌∷◌, ◌++◌, length, length-drop, drop-cons, map, take, drop, get_or, append_assoc, ◌==◌, ◌-◌, Option, Some, None, is_some, refl, sym, ap, subst, ◌∙◌, ⊎_elim, zero-add, arith}
use Rattle.std.specs.List.{AllByRecursion, count_by, sum_by}
use Rattle.std.specs.List.Sorted.{IsPermutation, IsNonDecreasingBy}
use Rattle.std.specs.Option.{option_or}
use Rattle.std.specs.Ordering.{nat_cmp, eq_by_cmp, is_eq}
use Rattle.std.specs.declared.cmp.Ordering.{Ordering}
use Rattle.std.specs.declared.cmp.Ordering.TheVariants.{Less, Equal, Greater}
use Rattle.std.specs.Cmp.{nat_cmp_total, eq_by_cmp_equiv, Equal-is}
use Rattle.std.specs.FinMap as fin
use Rattle.std.specs.FinMap.Entries.{by_order}
use Rattle.std.proofs.lemmas.Bool.{cases_eq}
use Rattle.std.proofs.lemmas.List.{take-append-drop}
use Rattle.std.proofs.Math.Seq.{take-length}
use Rattle.std.proofs.lemmas.List.Sums.{sum_by-cons, sum_by-append}
use Rattle.std.proofs.lemmas.List.Sorted.{sum_by-IsPermutation}
use Rattle.hybrid_time.specs.declared.times.Timestamp.{Timestamp}
use Rattle.binlog_format.specs.Fields.{InTurn}
use Rattle.binlog_format.specs.Deletes.{IsMarkFrom, after_mark}
use Rattle.seg_sealed.specs.Marks.{death_at, with_death, death_of, deaths_in, RowsRise, mark_of}
use Rattle.seg_sealed.specs.Fields.{AreApart, KeepsMarks}

abbrev pub Mark : Type 0
Mark = ℕ × Timestamp

is_same : (k : ℕ) → eq_by_cmp nat_cmp k k ≡ true
is_same k = (eq_by_cmp_equiv nat_cmp_total).refl k

same_of : (j k : ℕ) → eq_by_cmp nat_cmp j k ≡ true → j ≡ k
same_of j k e = fin.nat_cmp-IsAntisymmetric j k ((Equal-is (nat_cmp j k)).0 e)

true_false : true ≡ false → ⊥
true_false e = cc

differs_by : (j k : ℕ) (b : Bool) → eq_by_cmp nat_cmp j k ≡ b → j ≢ k → b ≡ false
differs_by j k true e ne = absurd (ne (same_of j k e))
differs_by j k false e ne = refl

differs : (j k : ℕ) → j ≢ k → eq_by_cmp nat_cmp j k ≡ false
differs j k ne = differs_by j k (eq_by_cmp nat_cmp j k) refl ne

-- ---- looking a row up

pub found_first : (row : ℕ) (mark : Mark) (marks : List Mark) → mark.0 ≡ row → death_at row (map death_of (mark ∷ marks)) ≡ Some mark.1.0
found_first row mark marks e = subst (λ k. cond (eq_by_cmp nat_cmp k mark.0) (Some mark.1.0) (death_at row (map death_of marks)) ≡ Some mark.1.0) e (ap (λ b. cond b (Some mark.1.0) (death_at row (map death_of marks))) (is_same mark.0))

pub passed_first : (row : ℕ) (mark : Mark) (marks : List Mark) → mark.0 ≢ row → death_at row (map death_of (mark ∷ marks)) ≡ death_at row (map death_of marks)
passed_first row mark marks ne = ap (λ b. cond b (Some mark.1.0) (death_at row (map death_of marks))) (differs row mark.0 (λ e. ne (sym e)))

none_above : (row : ℕ) (marks : List Mark) → AllByRecursion (λ later. row < later.0) marks → death_at row (map death_of marks) ≡ None
none_above row [] all = refl
none_above row (mark ∷ marks) all = let h = all.0 in passed_first row mark marks (λ e. absurd (omega arith)) ∙ none_above row marks all.1

all_after : (row : ℕ) (mark : Mark) (marks : List Mark) → row ≤ mark.0 → AllByRecursion (λ later. mark.0 < later.0) marks → AllByRecursion (λ later. row < later.0) marks
all_after row mark [] le all = tt
all_after row mark (later ∷ marks) le all = let h = all.0 in (omega arith, all_after row mark marks le all.1)

pub rise-front : (xs ys : List Mark) → RowsRise (xs ++ ys) → RowsRise xs
rise-front [] ys rise = tt
rise-front (x ∷ xs) ys rise = (all-front x xs ys rise.0, rise-front xs ys rise.1)
  where
    all-front : (x : Mark) (xs ys : List Mark) → AllByRecursion (λ later. x.0 < later.0) (xs ++ ys) → AllByRecursion (λ later. x.0 < later.0) xs
    all-front x [] ys all = tt
    all-front x (y ∷ xs) ys all = (all.0, all-front x xs ys all.1)

pub rise-back : (xs ys : List Mark) → RowsRise (xs ++ ys) → RowsRise ys
rise-back [] ys rise = rise
rise-back (x ∷ xs) ys rise = rise-back xs ys rise.1

-- a row below a mark stands before it
pub found_before : (row : ℕ) (before : List Mark) (mark : Mark) (marks : List Mark) → RowsRise (before ++ mark ∷ marks) → row < mark.0 → death_at row (map death_of (before ++ mark ∷ marks)) ≡ death_at row (map death_of before)
found_before row [] mark marks rise lt = none_above row (mark ∷ marks) (lt, all_after row mark marks (omega arith) rise.0)
found_before row (x ∷ before) mark marks rise lt = ap (cond (eq_by_cmp nat_cmp row x.0) (Some x.1.0)) (found_before row before mark marks rise.1 lt)

below_mark : (x : Mark) (before : List Mark) (mark : Mark) (marks : List Mark) → AllByRecursion (λ later. x.0 < later.0) (before ++ mark ∷ marks) → x.0 < mark.0
below_mark x [] mark marks all = all.0
below_mark x (y ∷ before) mark marks all = below_mark x before mark marks all.1

-- a row above a mark stands behind it
pub found_behind : (row : ℕ) (before : List Mark) (mark : Mark) (marks : List Mark) → RowsRise (before ++ mark ∷ marks) → mark.0 < row → death_at row (map death_of (before ++ mark ∷ marks)) ≡ death_at row (map death_of marks)
found_behind row [] mark marks rise lt = passed_first row mark marks (λ e. absurd (omega arith))
found_behind row (x ∷ before) mark marks rise lt =
    let h = below_mark x before mark marks rise.0 in
    passed_first row x (before ++ mark ∷ marks) (λ e. absurd (omega arith)) ∙ found_behind row before mark marks rise.1 lt

pub found_there : (row : ℕ) (before : List Mark) (mark : Mark) (marks : List Mark) → RowsRise (before ++ mark ∷ marks) → mark.0 ≡ row → death_at row (map death_of (before ++ mark ∷ marks)) ≡ Some mark.1.0
found_there row [] mark marks rise e = found_first row mark marks e
found_there row (x ∷ before) mark marks rise e =
    let h = below_mark x before mark marks rise.0 in
    passed_first row x (before ++ mark ∷ marks) (λ f. absurd (omega arith)) ∙ found_there row before mark marks rise.1 e

pub found_either : (row : ℕ) (xs ys : List Mark) → death_at row (map death_of (xs ++ ys)) ≡ option_or (death_at row (map death_of xs)) (death_at row (map death_of ys))
found_either row [] ys = refl
found_either row (x ∷ xs) ys = go (eq_by_cmp nat_cmp row x.0) (death_at row (map death_of xs)) (death_at row (map death_of ys)) (found_either row xs ys)
  where
    go : (b : Bool) (found other : Option ℕ) → death_at row (map death_of (xs ++ ys)) ≡ option_or found other → cond b (Some x.1.0) (death_at row (map death_of (xs ++ ys))) ≡ option_or (cond b (Some x.1.0) found) other
    go true found other e = refl
    go false found other e = e

-- ---- the deaths of marks

pub death_in : (row : ℕ) (marks : List Mark) → death_at row (deaths_in marks) ≡ death_at row (map death_of marks)
death_in row marks = sym (fin.get-entries (fin.from_entries (map death_of marks)) row) ∙ fin.get-from_entries nat_cmp_total (map death_of marks) row

put_first : (mark : Mark) (marks : List Mark) → AllByRecursion (λ later. mark.0 < later.0) marks → fin.put nat_cmp mark.0 mark.1.0 (map death_of marks) ≡ map death_of (mark ∷ marks)
put_first mark [] all = refl
put_first mark (later ∷ marks) all = ap (λ o. by_order o (death_of mark ∷ map death_of (later ∷ marks)) ((later.0, mark.1.0) ∷ map death_of marks) (death_of later ∷ fin.put nat_cmp mark.0 mark.1.0 (map death_of marks))) (less mark.0 later.0 all.0)
  where
    less : (a b : ℕ) → a < b → nat_cmp a b ≡ Less
    less a b lt = grind arith

-- marks in rising order are their own deaths
pub deaths_rise : (marks : List Mark) → RowsRise marks → deaths_in marks ≡ map death_of marks
deaths_rise [] rise = no_items (fin.entries fin.empty) (sym (fin.len-entries fin.empty) ∙ fin.len-empty nat_cmp ℕ)
  where
    no_items : {A : Type 0} (xs : List A) → length xs ≡ 0 → xs ≡ []
    no_items [] e = refl
    no_items (x ∷ xs) e = absurd (omega arith)
deaths_rise (mark ∷ marks) rise =
    fin.entries-insert nat_cmp_total (fin.from_entries (map death_of marks)) mark.0 mark.1.0 ∙ ap (fin.put nat_cmp mark.0 mark.1.0) (deaths_rise marks rise.1) ∙ put_first mark marks rise.0

map-push : (marks : List Mark) (mark : Mark) → map death_of (marks ++ mark ∷ []) ≡ map death_of marks ++ death_of mark ∷ []
map-push [] mark = refl
map-push (x ∷ marks) mark = ap (λ xs. death_of x ∷ xs) (map-push marks mark)

-- one mark more, of a row that has none
pub deaths_push : (marks : List Mark) (row ts : ℕ) → death_at row (deaths_in marks) ≡ None → deaths_in (marks ++ (row, record { 0 = ts }) ∷ []) ≡ with_death row ts (deaths_in marks)
deaths_push marks row ts none =
    ap (λ es. fin.entries (fin.from_entries {R = nat_cmp} es)) (map-push marks (row, record { 0 = ts }))
    ∙ ap fin.entries (fin.from_entries_push nat_cmp_total fin.nat_cmp-IsAntisymmetric (map death_of marks) row ts (sym (death_in row marks) ∙ none))
    ∙ fin.entries-insert nat_cmp_total (fin.from_entries (map death_of marks)) row ts

-- ---- no two marks of one row

counted : ℕ → List Mark → ℕ
counted row marks = count_by (λ mark. nat_eq mark.0 row) marks

counted-cons : (row : ℕ) (mark : Mark) (marks : List Mark) → counted row (mark ∷ marks) ≡ cond (nat_eq mark.0 row) 1 0 + counted row marks
unfolding counted
counted-cons row mark marks = sum_by-cons (λ m. cond (nat_eq m.0 row) 1 0) mark marks

counted-none : (row : ℕ) → counted row [] ≡ 0
unfolding counted
counted-none row = refl

yes : (a b : ℕ) → a ≡ b → nat_eq a b ≡ true
yes a b e = grind arith

off : (a b : ℕ) → a ≢ b → nat_eq a b ≡ false
off a b ne = grind arith

counted-hit : (row : ℕ) (mark : Mark) (marks : List Mark) → mark.0 ≡ row → counted row (mark ∷ marks) ≡ 1 + counted row marks
counted-hit row mark marks e = counted-cons row mark marks ∙ ap (λ b. cond b 1 0 + counted row marks) (yes mark.0 row e)

counted-miss : (row : ℕ) (mark : Mark) (marks : List Mark) → mark.0 ≢ row → counted row (mark ∷ marks) ≡ counted row marks
counted-miss row mark marks ne = counted-cons row mark marks ∙ ap (λ b. cond b 1 0 + counted row marks) (off mark.0 row ne) ∙ zero-add (counted row marks)

some_none : (x : ℕ) → Some x ≡ None → ⊥
some_none x e = cc

none_counted : (row : ℕ) (marks : List Mark) → death_at row (map death_of marks) ≡ None → counted row marks ≡ 0
none_counted row [] none = counted-none row
none_counted row (mark ∷ marks) none =
    let hit : mark.0 ≡ row → counted row (mark ∷ marks) ≡ 0 = λ e. absurd (some_none mark.1.0 (sym (found_first row mark marks e) ∙ none)) in
    let miss : mark.0 ≢ row → counted row (mark ∷ marks) ≡ 0 = λ ne. counted-miss row mark marks ne ∙ none_counted row marks (sym (passed_first row mark marks ne) ∙ none) in
    ⊎_elim hit miss (cases_eq mark.0 row)

tail_counted : (row : ℕ) (mark : Mark) (marks : List Mark) → counted row marks ≤ counted row (mark ∷ marks)
tail_counted row mark marks = let a = counted-cons row mark marks in omega arith

-- ---- marks in another order

-- what a mark adds to a sum that tells the death of a row
worth : ℕ → Mark → ℕ
worth row mark = cond (nat_eq mark.0 row) (mark.1.0 + 1) 0

told : Option ℕ → ℕ
told None = 0
told (Some ts) = ts + 1

told_same : (a b : Option ℕ) → told a ≡ told b → a ≡ b
unfolding told
told_same None None e = refl
told_same None (Some y) e = absurd (omega arith)
told_same (Some x) None e = absurd (omega arith)
told_same (Some x) (Some y) e = let h : x ≡ y = omega arith in ap (λ n. Some n) h

sum-hit : (row : ℕ) (mark : Mark) (marks : List Mark) → mark.0 ≡ row → sum_by (worth row) (mark ∷ marks) ≡ (mark.1.0 + 1) + sum_by (worth row) marks
unfolding worth
sum-hit row mark marks e = sum_by-cons (worth row) mark marks ∙ ap (λ b. cond b (mark.1.0 + 1) 0 + sum_by (worth row) marks) (yes mark.0 row e)

sum-miss : (row : ℕ) (mark : Mark) (marks : List Mark) → mark.0 ≢ row → sum_by (worth row) (mark ∷ marks) ≡ sum_by (worth row) marks
unfolding worth
sum-miss row mark marks ne = sum_by-cons (worth row) mark marks ∙ ap (λ b. cond b (mark.1.0 + 1) 0 + sum_by (worth row) marks) (off mark.0 row ne) ∙ zero-add (sum_by (worth row) marks)

no_worth : (row : ℕ) (marks : List Mark) → counted row marks ≡ 0 → sum_by (worth row) marks ≡ 0
no_worth row [] none = refl
no_worth row (mark ∷ marks) none =
    let hit : mark.0 ≡ row → sum_by (worth row) (mark ∷ marks) ≡ 0 = λ e. absurd (let a = counted-hit row mark marks e in omega arith) in
    let miss : mark.0 ≢ row → sum_by (worth row) (mark ∷ marks) ≡ 0 = λ ne. sum-miss row mark marks ne ∙ no_worth row marks (sym (counted-miss row mark marks ne) ∙ none) in
    ⊎_elim hit miss (cases_eq mark.0 row)

worth_is : (row : ℕ) (marks : List Mark) → counted row marks ≤ 1 → sum_by (worth row) marks ≡ told (death_at row (map death_of marks))
unfolding told
worth_is row [] few = refl
worth_is row (mark ∷ marks) few =
    let hit : mark.0 ≡ row → sum_by (worth row) (mark ∷ marks) ≡ told (death_at row (map death_of (mark ∷ marks))) = λ e.
    let a = counted-hit row mark marks e in
    let b : counted row marks ≡ 0 = omega arith in
    let d = no_worth row marks b in
    let f = sum-hit row mark marks e in
    let g : told (death_at row (map death_of (mark ∷ marks))) ≡ mark.1.0 + 1 = ap told (found_first row mark marks e) in
    omega arith in
    let miss : mark.0 ≢ row → sum_by (worth row) (mark ∷ marks) ≡ told (death_at row (map death_of (mark ∷ marks))) = λ ne.
    let a = tail_counted row mark marks in
    let b : counted row marks ≤ 1 = omega arith in
    sum-miss row mark marks ne ∙ worth_is row marks b ∙ sym (ap told (passed_first row mark marks ne)) in
    ⊎_elim hit miss (cases_eq mark.0 row)

pub apart_permuted : (xs ys : List Mark) → IsPermutation xs ys → AreApart xs → AreApart ys
unfolding AreApart
apart_permuted xs ys moved apart row = subst (λ n. n ≤ 1) (sym (sum_by-IsPermutation (λ mark. cond (nat_eq mark.0 row) 1 0) xs ys moved)) (apart row)

few_of : (marks : List Mark) → AreApart marks → (row : ℕ) → counted row marks ≤ 1
unfolding AreApart counted
few_of marks apart row = apart row

apart_of : (marks : List Mark) → ((row : ℕ) → counted row marks ≤ 1) → AreApart marks
unfolding AreApart counted
apart_of marks few = few

pub deaths_permuted : (xs ys : List Mark) → IsPermutation xs ys → AreApart xs → deaths_in ys ≡ deaths_in xs
deaths_permuted xs ys moved apart =
    let same : (row : ℕ) → death_at row (map death_of ys) ≡ death_at row (map death_of xs) = λ row.
    told_same _ _ (sym (worth_is row ys (few_of ys (apart_permuted xs ys moved apart) row)) ∙ sum_by-IsPermutation (worth row) xs ys moved ∙ worth_is row xs (few_of xs apart row)) in
    ap fin.entries (fin.same_map nat_cmp_total fin.nat_cmp-IsAntisymmetric (fin.from_entries (map death_of ys)) (fin.from_entries (map death_of xs)) (λ row.
    fin.get-from_entries nat_cmp_total (map death_of ys) row ∙ same row ∙ sym (fin.get-from_entries nat_cmp_total (map death_of xs) row)))

-- ---- rising rows

pub rise_apart : (marks : List Mark) → RowsRise marks → AreApart marks
rise_apart marks rise = apart_of marks (go marks rise)
  where
    go : (marks : List Mark) → RowsRise marks → (row : ℕ) → counted row marks ≤ 1
    go [] rise row = let a = counted-none row in omega arith
    go (mark ∷ marks) rise row =
        let hit : mark.0 ≡ row → counted row (mark ∷ marks) ≤ 1 = λ e. let a = counted-hit row mark marks e in let b = none_counted row marks (none_above row marks (subst (λ k. AllByRecursion (λ later. k < later.0) marks) e rise.0)) in omega arith in
        let miss : mark.0 ≢ row → counted row (mark ∷ marks) ≤ 1 = λ ne. let a = counted-miss row mark marks ne in let b = go marks rise.1 row in omega arith in
        ⊎_elim hit miss (cases_eq mark.0 row)

all_above : (row : ℕ) (marks : List Mark) → ((j : ℕ) (d : Mark) → j < length marks → row ≤ (get_or marks j d).0) → counted row marks ≡ 0 → AllByRecursion (λ later. row < later.0) marks
all_above row [] up none = tt
all_above row (mark ∷ marks) up none =
    let first : row ≤ mark.0 = up 0 mark (omega arith) in
    let apart : mark.0 ≢ row = λ e. let a = counted-hit row mark marks e in absurd (omega arith) in
    let rest : counted row marks ≡ 0 = let a = tail_counted row mark marks in omega arith in
    (omega arith, all_above row marks (λ j d lt. up (suc j) d (omega arith)) rest)

-- sorted marks of different rows rise
pub rise_sorted : (marks : List Mark) → IsNonDecreasingBy (λ mark. mark.0) marks → AreApart marks → RowsRise marks
rise_sorted marks up apart = go marks up (few_of marks apart)
  where
    go : (marks : List Mark) → IsNonDecreasingBy (λ mark. mark.0) marks → ((row : ℕ) → counted row marks ≤ 1) → RowsRise marks
    go [] up few = tt
    go (mark ∷ marks) up few =
        let none : counted mark.0 marks ≡ 0 = let a = counted-hit mark.0 mark marks refl in let b = few mark.0 in omega arith in
        (all_above mark.0 marks (λ j d lt. up 0 (suc j) d (omega arith) (omega arith)) none, go marks (λ i j d le lt. up (suc i) (suc j) d (omega arith) (omega arith)) (λ row. let a = tail_counted row mark marks in let b = few row in omega arith))

counted-append : (row : ℕ) (xs ys : List Mark) → counted row (xs ++ ys) ≡ counted row xs + counted row ys
unfolding counted
counted-append row xs ys = sum_by-append (λ mark. cond (nat_eq mark.0 row) 1 0) xs ys

-- one mark more, of a row that has none
pub apart_push : (marks : List Mark) (mark : Mark) → AreApart marks → death_at mark.0 (deaths_in marks) ≡ None → AreApart (marks ++ mark ∷ [])
apart_push marks mark apart none = apart_of (marks ++ mark ∷ []) (λ row.
    let a = counted-append row marks (mark ∷ []) in
    let b = few_of marks apart row in
    let d = counted-none row in
    let hit : mark.0 ≡ row → counted row (marks ++ mark ∷ []) ≤ 1 = λ e.
    let f = counted-hit row mark [] e in
    let g : counted row marks ≡ 0 = none_counted row marks (subst (λ k. death_at k (map death_of marks) ≡ None) e (sym (death_in mark.0 marks) ∙ none)) in
    omega arith in
    let miss : mark.0 ≢ row → counted row (marks ++ mark ∷ []) ≤ 1 = λ ne. let f = counted-miss row mark [] ne in omega arith in
    ⊎_elim hit miss (cases_eq mark.0 row))

from_least : (least : ℕ) (marks : List Mark) → InTurn IsMarkFrom after_mark least marks → AllByRecursion (λ later. least ≤ later.0) marks
from_least least [] turn = tt
from_least least (mark ∷ marks) turn =
    let h = turn.0.1 in
    (h, weaker marks (from_least (mark.0 + 1) marks turn.1))
  where
    weaker : (marks : List Mark) → AllByRecursion (λ later. mark.0 + 1 ≤ later.0) marks → AllByRecursion (λ later. least ≤ later.0) marks
    weaker [] all = tt
    weaker (later ∷ marks) all = let a = all.0 in let b = turn.0.1 in (omega arith, weaker marks all.1)

-- the marks of a delete log rise
pub log_rises : (least : ℕ) (marks : List Mark) → InTurn IsMarkFrom after_mark least marks → RowsRise marks
log_rises least [] turn = tt
log_rises least (mark ∷ marks) turn = (above marks (from_least (mark.0 + 1) marks turn.1), log_rises (mark.0 + 1) marks turn.1)
  where
    above : (marks : List Mark) → AllByRecursion (λ later. mark.0 + 1 ≤ later.0) marks → AllByRecursion (λ later. mark.0 < later.0) marks
    above [] all = tt
    above (later ∷ marks) all = let a = all.0 in (omega arith, above marks all.1)

pub marks_back : (marks : List Mark) → map mark_of (map death_of marks) ≡ marks
marks_back [] = refl
marks_back (mark ∷ marks) = ap (λ xs. mark ∷ xs) (marks_back marks)

-- marks cut in two, with the first mark of the second half
pub cut : (marks before from : List Mark) (k : ℕ) (d : Mark) → before ≡ take k marks → from ≡ drop k marks → k < length marks → before ++ get_or from 0 d ∷ drop 1 from ≡ marks
cut marks before from k d is are lt =
    let some : 0 < length from = let a : length from ≡ length (drop k marks) = ap length are in let b = length-drop k marks in omega arith in
    ap (λ xs. before ++ xs) (sym (drop-cons from 0 d some)) ∙ ap (λ xs. xs ++ from) is ∙ ap (λ xs. take k marks ++ xs) are ∙ take-append-drop k marks

pub some_marks : (n : ℕ) → (n == 0) ≡ false → 0 < n
some_marks zero e = absurd (true_false e)
some_marks (suc n) e = omega arith

pub part_whole : (xs : List Mark) → take (length xs - 1) (drop 1 xs) ≡ drop 1 xs
part_whole [] = refl
part_whole (x ∷ xs) = subst (λ n. take n xs ≡ xs) (let e : length xs ≡ length (x ∷ xs) - 1 = omega arith in e) (take-length xs)

append_none : (xs : List Mark) → xs ++ [] ≡ xs
append_none [] = refl
append_none (x ∷ xs) = ap (λ ys. x ∷ ys) (append_none xs)

-- sorted marks with none behind them
pub keeps_sorted : (marks : List Mark) → RowsRise marks → KeepsMarks marks []
keeps_sorted marks rise = record { rise = rise; apart = subst AreApart (sym (append_none marks)) (rise_apart marks rise) }

pub deaths_sorted : (marks : List Mark) → RowsRise marks → deaths_in (marks ++ []) ≡ map death_of marks
deaths_sorted marks rise = ap deaths_in (append_none marks) ∙ deaths_rise marks rise

-- what a sort of all marks gives
pub sorted_rise : (all sorted : List Mark) → IsPermutation all sorted → IsNonDecreasingBy (λ mark. mark.0) sorted → AreApart all → RowsRise sorted
sorted_rise all sorted moved up apart = rise_sorted sorted up (apart_permuted all sorted moved apart)

pub sorted_same : (all sorted : List Mark) → IsPermutation all sorted → IsNonDecreasingBy (λ mark. mark.0) sorted → AreApart all → map death_of sorted ≡ deaths_in all
sorted_same all sorted moved up apart = sym (deaths_rise sorted (sorted_rise all sorted moved up apart)) ∙ deaths_permuted all sorted moved apart

pub push_keeps : (frozen latest : List Mark) (mark : Mark) → KeepsMarks frozen latest → death_at mark.0 (deaths_in (frozen ++ latest)) ≡ None → KeepsMarks frozen (latest ++ mark ∷ [])
push_keeps frozen latest mark kept none = record { rise = kept.rise; apart = subst AreApart (append_assoc frozen latest (mark ∷ [])) (apart_push (frozen ++ latest) mark kept.apart none) }

pub push_deaths : (frozen latest : List Mark) (row ts : ℕ) → death_at row (deaths_in (frozen ++ latest)) ≡ None → deaths_in (frozen ++ (latest ++ (row, record { 0 = ts }) ∷ [])) ≡ with_death row ts (deaths_in (frozen ++ latest))
push_deaths frozen latest row ts none = ap deaths_in (sym (append_assoc frozen latest ((row, record { 0 = ts }) ∷ []))) ∙ deaths_push (frozen ++ latest) row ts none

pub found_frozen : (frozen latest : List Mark) (row ts : ℕ) → death_at row (map death_of frozen) ≡ Some ts → death_at row (deaths_in (frozen ++ latest)) ≡ Some ts
found_frozen frozen latest row ts is = death_in row (frozen ++ latest) ∙ found_either row frozen latest ∙ ap (λ o. option_or o (death_at row (map death_of latest))) is

pub found_latest : (frozen latest : List Mark) (row : ℕ) → death_at row (map death_of frozen) ≡ None → death_at row (deaths_in (frozen ++ latest)) ≡ death_at row (map death_of latest)
found_latest frozen latest row none = death_in row (frozen ++ latest) ∙ found_either row frozen latest ∙ ap (λ o. option_or o (death_at row (map death_of latest))) none

-- ---- how many rows are marked

none_of : (row : ℕ) (marks : List Mark) → counted row marks ≡ 0 → death_at row (map death_of marks) ≡ None
unfolding told
none_of row marks none = told_same (death_at row (map death_of marks)) None (sym (worth_is row marks (omega arith)) ∙ no_worth row marks none)

-- marks of different rows are as many deaths
pub deaths_count : (marks : List Mark) → AreApart marks → length (deaths_in marks) ≡ length marks
deaths_count marks apart = go marks (few_of marks apart)
  where
    go : (marks : List Mark) → ((row : ℕ) → counted row marks ≤ 1) → length (deaths_in marks) ≡ length marks
    go [] few = sym (fin.len-entries fin.empty) ∙ fin.len-empty nat_cmp ℕ
    go (mark ∷ marks) few =
        let none : counted mark.0 marks ≡ 0 = let a = counted-hit mark.0 mark marks refl in let b = few mark.0 in omega arith in
        let held : fin.get (fin.from_entries {R = nat_cmp} (map death_of marks)) mark.0 ≡ None = fin.get-from_entries nat_cmp_total (map death_of marks) mark.0 ∙ none_of mark.0 marks none in
        let more : fin.len (fin.insert (fin.from_entries {R = nat_cmp} (map death_of marks)) mark.0 mark.1.0) ≡ fin.len (fin.from_entries {R = nat_cmp} (map death_of marks)) + 1 =
        fin.len-insert nat_cmp_total (fin.from_entries (map death_of marks)) mark.0 mark.1.0 ∙ ap (λ o. cond (is_some o) (fin.len (fin.from_entries {R = nat_cmp} (map death_of marks))) (fin.len (fin.from_entries {R = nat_cmp} (map death_of marks)) + 1)) held in
        let rest : length (deaths_in marks) ≡ length marks = go marks (λ row. let a = tail_counted row mark marks in let b = few row in omega arith) in
        let below : fin.len (fin.from_entries {R = nat_cmp} (map death_of marks)) ≡ length (deaths_in marks) = fin.len-entries (fin.from_entries (map death_of marks)) in
        sym (fin.len-entries (fin.insert (fin.from_entries {R = nat_cmp} (map death_of marks)) mark.0 mark.1.0)) ∙ more ∙ (omega arith)

-- ---- marks by their places

apart_back_sum : (row : ℕ) (xs ys : List Mark) → counted row (xs ++ ys) ≤ 1 → counted row ys ≤ 1
apart_back_sum row xs ys few = let a = counted-append row xs ys in omega arith

pub apart_back : (xs ys : List Mark) → AreApart (xs ++ ys) → AreApart ys
apart_back xs ys apart = apart_of ys (λ row. apart_back_sum row xs ys (few_of (xs ++ ys) apart row))

counted_at : (marks : List Mark) (i row : ℕ) (d : Mark) → i < length marks → (get_or marks i d).0 ≡ row → 1 ≤ counted row marks
counted_at [] i row d lt e = absurd (omega arith)
counted_at (mark ∷ marks) zero row d lt e = let a = counted-hit row mark marks e in omega arith
counted_at (mark ∷ marks) (suc i) row d lt e = let a = counted_at marks i row d (omega arith) e in let b = tail_counted row mark marks in omega arith

-- a mark is found by its row where the rows are different
pub found_at : (marks : List Mark) (i row : ℕ) (d : Mark) → AreApart marks → i < length marks → (get_or marks i d).0 ≡ row → death_at row (map death_of marks) ≡ Some (get_or marks i d).1.0
found_at marks i row d apart lt e = go marks i (few_of marks apart row) lt e
  where
    go : (marks : List Mark) (i : ℕ) → counted row marks ≤ 1 → i < length marks → (get_or marks i d).0 ≡ row → death_at row (map death_of marks) ≡ Some (get_or marks i d).1.0
    go [] i few lt e = absurd (omega arith)
    go (mark ∷ marks) zero few lt e = found_first row mark marks e
    go (mark ∷ marks) (suc i) few lt e =
        let one : 1 ≤ counted row marks = counted_at marks i row d (omega arith) e in
        let ne : mark.0 ≢ row = λ f. let a = counted-hit row mark marks f in absurd (omega arith) in
        passed_first row mark marks ne ∙ go marks i (let a = tail_counted row mark marks in omega arith) (omega arith) e

pub none_at : (row : ℕ) (marks : List Mark) (d : Mark) → ((i : ℕ) → i < length marks → (get_or marks i d).0 ≢ row) → death_at row (map death_of marks) ≡ None
none_at row [] d none = refl
none_at row (mark ∷ marks) d none = passed_first row mark marks (none 0 (omega arith)) ∙ none_at row marks d (λ i lt. none (suc i) (omega arith))
