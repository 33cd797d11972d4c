-- Counting the rows that are not dead at or before a floor.
use Rattle.std.proofs.Common.{◌≡◌, ◌≢◌, ℕ, suc, ◌+◌, ◌<◌, ◌≤◌, nat_le, Bool, true, false, not, cond, List, [], ◌∷◌, length, map, Option, Some, None, refl, sym, ap, subst, ◌∙◌, ⊎_elim, arith}
use Rattle.std.specs.List.{AllByRecursion, count_by}
use Rattle.std.proofs.lemmas.Bool.{cases_eq, cases_lt}
use Rattle.std.proofs.lemmas.List.Sums.{sum_by-cons}
use Rattle.hybrid_time.specs.declared.times.Timestamp.{Timestamp}
use Rattle.log_model.specs.Places.{Placed}
use Rattle.log_model.proofs.LogLaws.{each_implied}
use Rattle.journal_model.specs.Puts.{is_dead_by}
use Rattle.journal_model.specs.Views.{Shown}
use Rattle.seg_sealed.specs.Marks.{RowsRise, death_at, mark_of}
use Rattle.seg_sealed.specs.Parts.{AreDeathsOf, shown_from, shown_as}
use Rattle.channel_pieces.specs.Keeping.{outlives}
use Rattle.channel_pieces.proofs.HomeLaws.{cmp_same}
use Rattle.channel_pieces.proofs.CountLaws.{Deaths, Rising, none_there, passed}

abbrev pub is_by : ℕ → ℕ × ℕ → Bool
is_by floor d = nat_le d.1 floor

one_of : (b : Bool) → cond {A = ℕ} (not b) 1 0 + cond {A = ℕ} b 1 0 ≡ 1
one_of true = refl
one_of false = refl

kept_first : (floor : ℕ) (x : Placed) (o p : Option ℕ) (rows : List Shown) → o ≡ p → count_by (outlives floor) (shown_as x o ∷ rows) ≡ cond {A = ℕ} (not (is_dead_by floor p)) 1 0 + count_by (outlives floor) rows
kept_first floor x o p rows e = sum_by-cons (λ s. cond (outlives floor s) 1 0) (shown_as x o) rows ∙ ap (λ (q : Option ℕ). cond {A = ℕ} (not (is_dead_by floor q)) 1 0 + count_by (outlives floor) rows) e

dead_first : (floor : ℕ) (d : ℕ × ℕ) (deaths : Deaths) → count_by (is_by floor) (d ∷ deaths) ≡ cond {A = ℕ} (nat_le d.1 floor) 1 0 + count_by (is_by floor) deaths
dead_first floor d deaths = sum_by-cons (λ e. cond (is_by floor e) 1 0) d deaths

kept_from : (floor : ℕ) (deaths : Deaths) (i : ℕ) (rows : List Placed) → Rising deaths → AllByRecursion (λ d. i ≤ d.0) deaths → AllByRecursion (λ d. d.0 < i + length rows) deaths
    → count_by (outlives floor) (shown_from deaths i rows) + count_by (is_by floor) deaths ≡ length rows
kept_from floor [] i [] rise low high = refl
kept_from floor (d ∷ deaths) i [] rise low high = let a = low.0 in let b = high.0 in absurd (omega arith)
kept_from floor [] i (x ∷ rows) rise low high =
    let first : count_by (outlives floor) (shown_from [] i (x ∷ rows)) ≡ 1 + count_by (outlives floor) (shown_from [] (suc i) rows) = kept_first floor x None None (shown_from [] (suc i) rows) refl in
    let rest : count_by (outlives floor) (shown_from [] (suc i) rows) + 0 ≡ length rows = kept_from floor [] (suc i) rows tt tt tt in
    let sum : count_by (outlives floor) (shown_from [] i (x ∷ rows)) + 0 ≡ suc (length rows) = omega arith in
    sum
kept_from floor (d ∷ deaths) i (x ∷ rows) rise low high =
    let within : AllByRecursion (λ e. e.0 < suc i + length rows) deaths = each_implied (λ e. e.0 < i + suc (length rows)) (λ e. e.0 < suc i + length rows) (λ e h. omega arith) deaths high.1 in
    ⊎_elim
    (λ (same : d.0 ≡ i).
    let there : death_at i (d ∷ deaths) ≡ Some d.1 = ap (λ b. cond b (Some d.1) (death_at i deaths)) (cmp_same d.0 i (sym same)) in
    let first : count_by (outlives floor) (shown_from (d ∷ deaths) i (x ∷ rows)) ≡ cond {A = ℕ} (not (nat_le d.1 floor)) 1 0 + count_by (outlives floor) (shown_from (d ∷ deaths) (suc i) rows) = kept_first floor x (death_at i (d ∷ deaths)) (Some d.1) (shown_from (d ∷ deaths) (suc i) rows) there in
    let more : count_by (outlives floor) (shown_from (d ∷ deaths) (suc i) rows) ≡ count_by (outlives floor) (shown_from deaths (suc i) rows) = ap (count_by (outlives floor)) (passed d deaths (suc i) rows (omega arith)) in
    let rest : count_by (outlives floor) (shown_from deaths (suc i) rows) + count_by (is_by floor) deaths ≡ length rows = kept_from floor deaths (suc i) rows rise.1 (each_implied (λ e. d.0 < e.0) (λ e. suc i ≤ e.0) (λ e h. omega arith) deaths rise.0) within in
    let dead : count_by (is_by floor) (d ∷ deaths) ≡ cond {A = ℕ} (nat_le d.1 floor) 1 0 + count_by (is_by floor) deaths = dead_first floor d deaths in
    let one : cond {A = ℕ} (not (nat_le d.1 floor)) 1 0 + cond {A = ℕ} (nat_le d.1 floor) 1 0 ≡ 1 = one_of (nat_le d.1 floor) in
    let sum : count_by (outlives floor) (shown_from (d ∷ deaths) i (x ∷ rows)) + count_by (is_by floor) (d ∷ deaths) ≡ suc (length rows) = omega arith in
    sum)
    (λ (ne : d.0 ≢ i).
    let least : i ≤ d.0 = low.0 in
    let above : i < d.0 = ⊎_elim (λ (lt : i < d.0). lt) (λ (ge : d.0 ≤ i). let e : d.0 ≡ i = omega arith in absurd (ne e)) (cases_lt i d.0) in
    let later : AllByRecursion (λ e. i < e.0) deaths = each_implied (λ e. d.0 < e.0) (λ e. i < e.0) (λ e h. omega arith) deaths rise.0 in
    let first : count_by (outlives floor) (shown_from (d ∷ deaths) i (x ∷ rows)) ≡ 1 + count_by (outlives floor) (shown_from (d ∷ deaths) (suc i) rows) = kept_first floor x (death_at i (d ∷ deaths)) None (shown_from (d ∷ deaths) (suc i) rows) (none_there i (d ∷ deaths) (above, later)) in
    let top : d.0 < i + suc (length rows) = high.0 in
    let rest : count_by (outlives floor) (shown_from (d ∷ deaths) (suc i) rows) + count_by (is_by floor) (d ∷ deaths) ≡ length rows = kept_from floor (d ∷ deaths) (suc i) rows rise (omega arith, each_implied (λ e. i < e.0) (λ e. suc i ≤ e.0) (λ e h. omega arith) deaths later) (omega arith, within) in
    let sum : count_by (outlives floor) (shown_from (d ∷ deaths) i (x ∷ rows)) + count_by (is_by floor) (d ∷ deaths) ≡ suc (length rows) = omega arith in
    sum)
    (cases_eq d.0 i)

-- ---- the marks of a delete log

above_log : (n : ℕ) (deaths : Deaths) → AllByRecursion (λ (later : ℕ × Timestamp). n < later.0) (map mark_of deaths) → AllByRecursion (λ d. n < d.0) deaths
above_log n [] all = tt
above_log n (d ∷ deaths) all = (all.0, above_log n deaths all.1)

rising_log : (deaths : Deaths) → RowsRise (map mark_of deaths) → Rising deaths
rising_log [] rise = tt
rising_log (d ∷ deaths) rise = (above_log d.0 deaths rise.0, rising_log deaths rise.1)

counted_log : (floor : ℕ) (deaths : Deaths) → count_by (λ (mark : ℕ × Timestamp). nat_le mark.1.0 floor) (map mark_of deaths) ≡ count_by (is_by floor) deaths
counted_log floor [] = refl
counted_log floor (d ∷ deaths) =
    sum_by-cons (λ (mark : ℕ × Timestamp). cond (nat_le mark.1.0 floor) 1 0) (mark_of d) (map mark_of deaths)
    ∙ ap (λ n. cond {A = ℕ} (nat_le d.1 floor) 1 0 + n) (counted_log floor deaths)
    ∙ sym (dead_first floor d deaths)

-- the rows that a floor leaves, and the deaths up to it, are all rows
pub kept_marked : (floor : ℕ) (marks : List (ℕ × Timestamp)) (deaths : Deaths) (rows : List Placed) → marks ≡ map mark_of deaths → RowsRise marks → AreDeathsOf (length rows) deaths
    → count_by (outlives floor) (shown_from deaths 0 rows) + count_by (λ (mark : ℕ × Timestamp). nat_le mark.1.0 floor) marks ≡ length rows
kept_marked floor marks deaths rows is rise within =
    let all : count_by (outlives floor) (shown_from deaths 0 rows) + count_by (is_by floor) deaths ≡ length rows =
    kept_from floor deaths 0 rows (rising_log deaths (subst RowsRise is rise)) (from_zero deaths) (each_implied (λ d. d.0 < length rows) (λ d. d.0 < 0 + length rows) (λ d h. omega arith) deaths within) in
    let same : count_by (λ (mark : ℕ × Timestamp). nat_le mark.1.0 floor) marks ≡ count_by (is_by floor) deaths = ap (count_by (λ (mark : ℕ × Timestamp). nat_le mark.1.0 floor)) is ∙ counted_log floor deaths in
    omega arith
  where
    from_zero : (ds : Deaths) → AllByRecursion (λ d. 0 ≤ d.0) ds
    from_zero [] = tt
    from_zero (d ∷ ds) = (omega arith, from_zero ds)
