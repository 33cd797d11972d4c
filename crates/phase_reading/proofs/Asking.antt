-- What the calls of an engine require is there.
use Rattle.std.proofs.Common.{◌≡◌, ℕ, ◌<◌, ◌≤◌, Bool, true, List, [], ◌∷◌, ◌++◌, length, sym, arith, length-append}
use Rattle.input_lines.specs.declared.limits.TheConstants.{MAX_LINES}
use Rattle.phase_reading.specs.Phases.{Meets, whole_lines}
use Rattle.phase_reading.specs.Engines.{Account, CanTake, CanRun, CanEnd, Takes}
use Rattle.phase_reading.specs.Steps.{meets_behind}
use Rattle.phase_reading.proofs.Splits.{plain_phase}

module _ (account : Account) (meets : Meets) where
  pub can_take : (done phase : List (List ℕ)) (output : List ℕ) → 0 < length (done ++ phase) → length (done ++ phase) < MAX_LINES → whole_lines meets (done ++ phase) ≡ done → account done phase output → CanTake account meets
  can_take [] [] output some room whole told = absurd (omega (arith, some))
  can_take [] (h ∷ phase) output some room whole told = absurd cc
  can_take (h ∷ done) phase output some room whole told = record {
    header = h;
    done = done;
    waiting = phase;
    output = output;
    told = told;
    room = omega (arith, room, length-append (h ∷ done) phase);
    plain = plain_phase meets h done phase whole;
  }

  pub can_end : (done phase : List (List ℕ)) (output : List ℕ) → 0 < length (done ++ phase) → length (done ++ phase) ≤ MAX_LINES → whole_lines meets (done ++ phase) ≡ done → account done phase output → CanEnd account meets
  can_end [] [] output some few whole told = absurd (omega (arith, some))
  can_end [] (h ∷ phase) output some few whole told = absurd cc
  can_end (h ∷ done) phase output some few whole told = record {
    header = h;
    done = done;
    waiting = phase;
    output = output;
    told = told;
    few = omega (arith, few, length-append (h ∷ done) phase);
    plain = plain_phase meets h done phase whole;
  }

  module _ (next : Account) (line : List ℕ) where
    -- a line was taken
    pub took : (meet : Bool) (done phase : List (List ℕ)) (output : List ℕ) → Takes account next meets line meet → 0 < length (done ++ phase) → whole_lines meets (done ++ phase) ≡ done → account done phase output
        → (meets_behind meets (done ++ phase) line ≡ meet) × next done (phase ++ line ∷ []) output
    took meet [] [] output takes some whole told = absurd (omega (arith, some))
    took meet [] (h ∷ phase) output takes some whole told = absurd cc
    took meet (h ∷ done) phase output takes some whole told = let t = takes h done phase output told in (sym t.0, t.1)

    pub can_run : (done phase : List (List ℕ)) (output : List ℕ) → Takes account next meets line true → 0 < length (done ++ phase) → length (done ++ phase) < MAX_LINES → whole_lines meets (done ++ phase) ≡ done → account done phase output → CanRun next meets
    can_run [] [] output takes some room whole told = absurd (omega (arith, some))
    can_run [] (h ∷ phase) output takes some room whole told = absurd cc
    can_run (h ∷ done) phase output takes some room whole told =
        let t = takes h done phase output told in
        record {
          header = h;
          done = done;
          phase = phase;
          meet = line;
          output = output;
          told = t.1;
          few = omega (arith, room, length-append (h ∷ done) phase, length-append phase (line ∷ []));
          plain = plain_phase meets h done phase whole;
          meets_there = sym t.0;
        }
