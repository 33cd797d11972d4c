-- The words, at each step.
use Rattle.std.proofs.Common.{◌≡◌, ℕ, ◌+◌, ◌<◌, ◌≢◌, List, length, get_or, set, ap, sym, ◌∙◌, subst, ⊎_elim, arith, length-set, get_or-set_same, get_or-set_other}
use Rattle.turn_facts.proofs.Places.{same_or, put_here, put_else}
use Rattle.turn_table.specs.Rule.{Truth, Measured, grown_truth}

module _ {N B : Type 0} where
  -- one of the first two words changes
  pub measured_kept : {t : Truth N B} {ws : List ℕ} {slots : ℕ} (i n : ℕ) → i < 2 → Measured t ws slots → Measured t (set ws i n) slots
  measured_kept {t} {ws} {slots} i n low s = record {
    wide = length-set ws i n ∙ s.wide;
    lengths = λ k h. get_or-set_other ws i (k + 2) n 0 (λ p. omega arith) ∙ s.lengths k h;
  }

  pub measured_counts : {t : Truth N B} {ws : List ℕ} {slots : ℕ} (k : ℕ) (l : List N) (n : ℕ) → k < slots → n ≡ length l → Measured t ws slots → Measured (grown_truth t k l) (set ws (k + 2) n) slots
  measured_counts {t} {ws} {slots} k l n here is s = record {
    wide = length-set ws (k + 2) n ∙ s.wide;
    lengths = λ j h. let wide : length ws ≡ slots + 2 = s.wide in
        ⊎_elim (λ (p : j ≡ k). let P : ℕ → Type 0 = λ i. get_or (set ws (k + 2) n) (i + 2) 0 ≡ length ((grown_truth t k l).journals i) in subst P (sym p) (get_or-set_same ws (k + 2) n 0 (omega arith) ∙ is ∙ ap length (sym (put_here t.journals k l))))
        (λ (p : j ≢ k). get_or-set_other ws (k + 2) (j + 2) n 0 (λ q. p (omega arith)) ∙ s.lengths j h ∙ ap length (sym (put_else t.journals k l j p))) (same_or j k);
  }
