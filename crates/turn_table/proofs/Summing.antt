-- What all seats have together, and the bounds on the clock and on the numbers of seats, at each step.
use Rattle.std.proofs.Common.{◌≡◌, ℕ, suc, ◌+◌, ◌^◌, ◌<◌, ◌≤◌, max, Bool, true, cond, List, [], ◌∷◌, ◌++◌, length, length-append, get_or, drop, set, ap, ◌∙◌, arith}
use Rattle.turn_facts.specs.Counts.{total}
use Rattle.turn_facts.specs.Prefixes.{IsAt}
use Rattle.turn_facts.proofs.Totals.{total_set, total_below, total_cut, total_pair}
use Rattle.turn_table.specs.declared.knows.Know.{Know}
use Rattle.turn_table.specs.Knowledge.{weight, allowance, own, drew, lifted, numbered, stayed, given, joined, spent}
use Rattle.turn_table.specs.Rule.{Truth, Summed, clock, next_seat}

module _ {N B : Type 0} where
  living : (v : Know N B) → v.live ≡ true → cond {A = ℕ} v.live 1 0 ≡ 1
  living v e = ap (λ (b : Bool). cond {A = ℕ} b 1 0) e

  pub summed_kept : {t : Truth N B} {ws : List ℕ} {vs : List (Know N B)} (ws' : List ℕ) (id : ℕ) (v w : Know N B) → Summed t ws vs → IsAt vs id v → clock ws' ≡ clock ws → next_seat ws' ≡ next_seat ws → weight w ≡ weight v → w.allowance ≡ v.allowance → Summed t ws' (set vs id w)
  summed_kept {t} {ws} {vs} ws' id v w s e c n p q =
      let a : total weight (set vs id w) + weight v ≡ total weight vs + weight w = total_set weight vs id v w e in
      let b : total allowance (set vs id w) + allowance v ≡ total allowance vs + allowance w = total_set allowance vs id v w e in
      let d : total weight (set vs id w) ≡ total weight vs = omega arith in
      let f : total allowance (set vs id w) ≡ total allowance vs = omega arith in
      let room : clock ws + total allowance vs ≤ 2 ^ 40 + max t.first (2 ^ 63) = s.room in
      let few : next_seat ws + total allowance vs ≤ 2 ^ 40 + 1 = s.few in
      record { weights = d ∙ s.weights; room = omega arith; few = omega arith; low = s.low }

  -- allowances make at most 2 ^ 40 together
  pub allowed : {t : Truth N B} {ws : List ℕ} {vs : List (Know N B)} (id : ℕ) (v : Know N B) → Summed t ws vs → IsAt vs id v → v.live ≡ true → total allowance vs ≤ 2 ^ 40
  allowed {t} {ws} {vs} id v s e live =
      let a : total allowance vs + weight v ≤ total weight vs + allowance v = total_below allowance weight (λ u. omega arith) vs id v e in
      let b : total weight vs ≡ 2 ^ 40 + 1 = s.weights in let c : cond {A = ℕ} v.live 1 0 ≡ 1 = living v live in omega arith

  pub clock_low : {t : Truth N B} {ws : List ℕ} {vs : List (Know N B)} → Summed t ws vs → clock ws < 2 ^ 63 + 2 ^ 61
  clock_low {t} {ws} {vs} s = let a : clock ws + total allowance vs ≤ 2 ^ 40 + max t.first (2 ^ 63) = s.room in let b : t.first < 2 ^ 63 + 2 ^ 60 = s.low in omega arith

  pub summed_draws : {t : Truth N B} {ws : List ℕ} {vs : List (Know N B)} (ws' : List ℕ) (id : ℕ) (v : Know N B) (x : ℕ) → Summed t ws vs → IsAt vs id v → 1 ≤ v.allowance → clock ws' ≡ clock ws + 1 → next_seat ws' ≡ next_seat ws → Summed t ws' (set vs id (drew v x))
  summed_draws {t} {ws} {vs} ws' id v x s e one c n =
      let w : Know N B = drew v x in
      let l : length w.drawn ≡ length v.drawn + 1 = length-append v.drawn (x ∷ []) in
      let a : total weight (set vs id w) + weight v ≡ total weight vs + weight w = total_set weight vs id v w e in
      let b : total allowance (set vs id w) + allowance v ≡ total allowance vs + allowance w = total_set allowance vs id v w e in
      let d : weight w ≡ weight v = omega arith in
      let f : total weight (set vs id w) ≡ total weight vs = omega arith in
      let g : total allowance (set vs id w) + 1 ≡ total allowance vs = omega arith in
      let room : clock ws + total allowance vs ≤ 2 ^ 40 + max t.first (2 ^ 63) = s.room in
      let few : next_seat ws + total allowance vs ≤ 2 ^ 40 + 1 = s.few in
      record { weights = f ∙ s.weights; room = omega arith; few = omega arith; low = s.low }

  pub summed_lifts : {t : Truth N B} {ws : List ℕ} {vs : List (Know N B)} (ws' : List ℕ) (id : ℕ) (v : Know N B) (x : ℕ) → Summed t ws vs → IsAt vs id v → v.live ≡ true → x < 2 ^ 63 → clock ws' ≡ max (clock ws) x → next_seat ws' ≡ next_seat ws → Summed t ws' (set vs id (lifted v x))
  summed_lifts {t} {ws} {vs} ws' id v x s e live low c n =
      let w : Know N B = lifted v x in
      let a : total weight (set vs id w) + weight v ≡ total weight vs + weight w = total_set weight vs id v w e in
      let b : total allowance (set vs id w) + allowance v ≡ total allowance vs + allowance w = total_set allowance vs id v w e in
      let f : total weight (set vs id w) ≡ total weight vs = omega arith in
      let g : total allowance (set vs id w) ≡ total allowance vs = omega arith in
      let room : clock ws + total allowance vs ≤ 2 ^ 40 + max t.first (2 ^ 63) = s.room in
      let few : next_seat ws + total allowance vs ≤ 2 ^ 40 + 1 = s.few in
      let most : total allowance vs ≤ 2 ^ 40 = allowed id v s e live in
      record { weights = f ∙ s.weights; room = omega arith; few = omega arith; low = s.low }

  pub summed_numbers : {t : Truth N B} {ws : List ℕ} {vs : List (Know N B)} (ws' : List ℕ) (id : ℕ) (v : Know N B) (x : ℕ) → Summed t ws vs → IsAt vs id v → 1 ≤ v.allowance → clock ws' ≡ clock ws → next_seat ws' ≡ next_seat ws + 1 → Summed t ws' (set vs id (numbered v x))
  summed_numbers {t} {ws} {vs} ws' id v x s e one c n =
      let w : Know N B = numbered v x in
      let a : total weight (set vs id w) + weight v ≡ total weight vs + weight w = total_set weight vs id v w e in
      let b : total allowance (set vs id w) + allowance v ≡ total allowance vs + allowance w = total_set allowance vs id v w e in
      let f : total weight (set vs id w) ≡ total weight vs = omega arith in
      let g : total allowance (set vs id w) + 1 ≡ total allowance vs = omega arith in
      let room : clock ws + total allowance vs ≤ 2 ^ 40 + max t.first (2 ^ 63) = s.room in
      let few : next_seat ws + total allowance vs ≤ 2 ^ 40 + 1 = s.few in
      record { weights = f ∙ s.weights; room = omega arith; few = omega arith; low = s.low }

  pub summed_splits : {t : Truth N B} {ws : List ℕ} {vs : List (Know N B)} (id : ℕ) (v : Know N B) → Summed t ws vs → IsAt vs id v → v.live ≡ true → v.gift ≤ v.allowance → v.spare ≡ get_or v.spare 0 0 ∷ drop 1 v.spare → Summed t ws (set vs id (stayed v) ++ given v ∷ [])
  summed_splits {t} {ws} {vs} id v s e live g sp =
      let l : length v.spare ≡ suc (length (drop 1 v.spare)) = ap length sp in
      let c : cond {A = ℕ} v.live 1 0 ≡ 1 = living v live in
      let a : total weight (set vs id (stayed v) ++ given v ∷ []) ≡ total weight vs = total_cut weight vs id v (stayed v) (given v) e (omega arith) in
      let b : total allowance (set vs id (stayed v) ++ given v ∷ []) ≡ total allowance vs = total_cut allowance vs id v (stayed v) (given v) e (omega arith) in
      let room : clock ws + total allowance vs ≤ 2 ^ 40 + max t.first (2 ^ 63) = s.room in
      let few : next_seat ws + total allowance vs ≤ 2 ^ 40 + 1 = s.few in
      record { weights = a ∙ s.weights; room = omega arith; few = omega arith; low = s.low }

  pub summed_joins : {t : Truth N B} {ws : List ℕ} {vs : List (Know N B)} (id other : ℕ) (v w : Know N B) → Summed t ws vs → IsAt vs id v → IsAt (set vs id (joined v w)) other w → v.live ≡ true → w.live ≡ true → Summed t ws (set (set vs id (joined v w)) other spent)
  summed_joins {t} {ws} {vs} id other v w s e e' lv lw =
      let both : Know N B = joined v w in
      let own_w : length (own w) ≡ 1 = ap (λ (b : Bool). length (cond b (w.number ∷ []) [])) lw in
      let i : length (v.drawn ++ w.drawn) ≡ length v.drawn + length w.drawn = length-append v.drawn w.drawn in
      let j : length (v.spare ++ w.spare) ≡ length v.spare + length w.spare = length-append v.spare w.spare in
      let k : length (v.joined ++ (own w ++ w.joined)) ≡ length v.joined + length (own w ++ w.joined) = length-append v.joined (own w ++ w.joined) in
      let l : length (own w ++ w.joined) ≡ length (own w) + length w.joined = length-append (own w) w.joined in
      let c : cond {A = ℕ} w.live 1 0 ≡ 1 = living w lw in
      let a : total weight (set (set vs id both) other spent) ≡ total weight vs = total_pair weight vs id other v w both spent e e' (omega arith) in
      let b : total allowance (set (set vs id both) other spent) ≡ total allowance vs = total_pair allowance vs id other v w both spent e e' (omega arith) in
      let room : clock ws + total allowance vs ≤ 2 ^ 40 + max t.first (2 ^ 63) = s.room in
      let few : next_seat ws + total allowance vs ≤ 2 ^ 40 + 1 = s.few in
      record { weights = a ∙ s.weights; room = omega arith; few = omega arith; low = s.low }
