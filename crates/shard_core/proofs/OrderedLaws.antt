-- The rows of the sources of a merge: no position stands twice, and timestamps do not fall by position.
use Rattle.std.proofs.Common.{◌≡◌, ◌≢◌, ℕ, ◌+◌, ◌<◌, ◌≤◌, nat_eq, cond, List, [], ◌∷◌, ◌++◌, ap, ◌∙◌, ⊎_elim, inl, inr, eq-eqb, refl, length, map, suc, Some, ◌⊎◌, arith}
use Rattle.std.specs.List.{count_by, sum_by}
use Rattle.std.proofs.lemmas.Bool.{cases_eq, cases_lt}
use Rattle.log_model.specs.Places.{Placed, PlacedBefore}
use Rattle.journal_model.specs.declared.notes.Note.{Note}
use Rattle.journal_model.specs.Journals.{IsJournal}
use Rattle.journal_model.specs.Puts.{put_at}
use Rattle.journal_model.specs.Layouts.{Channel, Segment, is_among, sources_in, rows_in, kept_in, layout_of}
use Rattle.journal_model.specs.Runs.{State, IsSound, AreCorrect, AreApart}
use Rattle.journal_model.specs.Groups.{kept_rows}
use Rattle.journal_model.specs.Views.{shown, merged_parts}
use Rattle.journal_model.proofs.ListLaws.{all_from, in_left, count-cons, count_some, count-append}
use Rattle.journal_model.proofs.PieceLaws.{rows_in-some, count-either}
use Rattle.journal_model.proofs.PlaceLaws.{ts_rises, length-kept}
use Rattle.journal_model.proofs.PartLaws.{merge_stands}
use Rattle.seg_merge.specs.Merges.{AreInOrder}

one_more : (a b c : ℕ) → a ≤ 1 → a ≡ 1 + b → c ≤ b → c ≤ 0
one_more a b c le e f = omega arith

ordered : (notes : List Note) → IsJournal notes → (xs : List Placed) → AreCorrect notes xs → AreApart xs → AreInOrder xs
ordered notes journal [] correct apart = tt
ordered notes journal (x ∷ xs) correct apart =
    let put : put_at notes x.position ≡ Some x = correct x (inl refl) in (
      all_from (λ y. PlacedBefore x y ⊎ PlacedBefore y x) xs (λ y i.
          let there : put_at notes y.position ≡ Some y = correct y (inr i) in
          ⊎_elim
          (λ (same : y.position ≡ x.position).
          let first : count_by (λ z. nat_eq z.position x.position) (x ∷ xs) ≡ 1 + count_by (λ z. nat_eq z.position x.position) xs =
          count-cons (λ (z : Placed). nat_eq z.position x.position) x xs ∙ ap (λ b. cond {A = ℕ} b 1 0 + count_by (λ (z : Placed). nat_eq z.position x.position) xs) (eq-eqb x.position x.position refl) in
          let some : 1 ≤ count_by (λ z. nat_eq z.position x.position) xs = count_some (λ (z : Placed). nat_eq z.position x.position) xs y i (eq-eqb y.position x.position same) in
          let few : count_by (λ z. nat_eq z.position x.position) (x ∷ xs) ≤ 1 = apart x.position in
          absurd (omega arith))
          (λ (ne : y.position ≢ x.position).
          ⊎_elim
          (λ (lt : x.position < y.position). inl (record { lower = lt; not_later = ts_rises notes journal x y put there lt }))
          (λ (ge : y.position ≤ x.position).
          let lt : y.position < x.position = ⊎_elim (λ (h : y.position < x.position). h) (λ (h : x.position ≤ y.position). let same : y.position ≡ x.position = omega arith in absurd (ne same)) (cases_lt y.position x.position) in
          inr (record { lower = lt; not_later = ts_rises notes journal y x there put lt }))
          (cases_lt x.position y.position))
          (cases_eq y.position x.position)),
      ordered notes journal xs (λ y i. correct y (inr i)) (λ position.
          let whole : count_by (λ z. nat_eq z.position position) (x ∷ xs) ≤ 1 = apart position in
          let first : count_by (λ z. nat_eq z.position position) (x ∷ xs) ≡ cond {A = ℕ} (nat_eq x.position position) 1 0 + count_by (λ z. nat_eq z.position position) xs = count-cons (λ (z : Placed). nat_eq z.position position) x xs in
          omega arith),
    )

-- the rows of some of the segments of a sound state
pub sources_ordered : (channel : Channel) (s : State) → IsSound channel s → (sources : List ℕ) → AreInOrder (rows_in (sources_in sources (layout_of channel s.notes).segments))
sources_ordered channel s sound sources =
    let segments : List Segment = (layout_of channel s.notes).segments in
    ordered s.notes sound.journal (rows_in (sources_in sources segments))
    (λ x i. sound.rows.correct x (in_left x (rows_in segments) (layout_of channel s.notes).tail (rows_in-some (is_among sources) x segments i)))
    (λ position.
    let all : count_by (λ z. nat_eq z.position position) (rows_in segments ++ (layout_of channel s.notes).tail) ≤ 1 = sound.rows.apart position in
    let split : count_by (λ z. nat_eq z.position position) (rows_in segments ++ (layout_of channel s.notes).tail) ≡ count_by (λ z. nat_eq z.position position) (rows_in segments) + count_by (λ z. nat_eq z.position position) (layout_of channel s.notes).tail =
    count-append (λ (z : Placed). nat_eq z.position position) (rows_in segments) (layout_of channel s.notes).tail in
    let parts = count-either (λ (z : Placed). nat_eq z.position position) (is_among sources) segments in
    omega arith)

length_map : {X Y : Type 0} (f : X → Y) (xs : List X) → length (map f xs) ≡ length xs
length_map f [] = refl
length_map f (x ∷ xs) = ap suc (length_map f xs)

-- how many rows their merge keeps
pub merged_count : (notes : List Note) (floor : ℕ) (segments : List Segment) → length (merged_parts floor (map (λ s. map (shown notes) s.piece) segments)) ≡ sum_by (kept_rows notes floor) segments
merged_count notes floor segments =
    ap length (merge_stands notes floor segments) ∙ length_map (shown notes) (kept_in notes floor segments) ∙ length-kept notes floor segments
