-- What a step of the reading keeps.
use Rattle.std.proofs.Common.{◌≡◌, ℕ, zero, suc, ◌+◌, ◌<◌, ◌≤◌, true, false, List, [], ◌∷◌, ◌++◌, length, refl, sym, ap, ◌∙◌, subst, arith, Option, append-nil, append_assoc, length-append}
use Rattle.std.specs.List.{AllByRecursion}
use Rattle.std.specs.Io.KnownBytes.{Appends}
use Rattle.input_lines.specs.declared.limits.TheConstants.{MAX_LINE, MAX_LINES}
use Rattle.input_lines.specs.Lines.{lines_of}
use Rattle.phase_reading.specs.Phases.{Begins, Meets, ended_lines, whole_lines, joined}
use Rattle.phase_reading.specs.Engines.{Account}
use Rattle.phase_reading.specs.Steps.{meets_behind, IsOpen, IsLine, IsSoFar}
use Rattle.phase_reading.proofs.Splits.{open-append, lines_of-joined, ended-joined, line_split, each-append, whole-meet, whole-other, begun_more}
use Rattle.phase_reading.proofs.Pieces.{none_appended, appended_more}

some_join : (P : Type 0) (a b : ℕ) → (0 < a → P) → (0 < b → P) → 0 < a + b → P
some_join P zero b p q h = q (omega arith)
some_join P (suc a) b p q h = p (omega arith)

module _ (begins : Begins) (meets : Meets) (before : Option (List ℕ)) where
  pub at_start : (account : Account) → account [] [] [] → IsSoFar account begins meets before before [] [] 0
  at_start account told = record {
    done = [];
    phase = [];
    output = [];
    split = refl;
    count = refl;
    clean = tt;
    clean_last = (tt, omega arith);
    few = omega arith;
    few_last = λ h. absurd (omega (arith, h));
    whole = refl;
    begun = tt;
    told = told;
    silent = λ _. refl;
    written = none_appended before;
  }

  module _ (account : Account) (now : Option (List ℕ)) (all last : List ℕ) (lines : ℕ) (s : IsSoFar account begins meets before now all last lines) where
    -- the last line goes on
    pub grown : (tail : List ℕ) → IsOpen tail → length last + length tail ≤ MAX_LINE → (0 < length tail → lines < MAX_LINES) → IsSoFar account begins meets before now (all ++ tail) (last ++ tail) lines
    grown tail unended size room = record {
      done = s.done;
      phase = s.phase;
      output = s.output;
      split = ap (λ l. l ++ tail) s.split ∙ append_assoc (joined (s.done ++ s.phase)) last tail;
      count = s.count;
      clean = s.clean;
      clean_last = (open-append last tail s.clean_last.0 unended, omega (arith, size, length-append last tail));
      few = s.few;
      few_last = λ h. some_join (lines < MAX_LINES) (length last) (length tail) s.few_last room (omega (arith, h, length-append last tail));
      whole = s.whole;
      begun = s.begun;
      told = s.told;
      silent = s.silent;
      written = s.written;
    }

    pub more_clean : AllByRecursion IsLine ((s.done ++ s.phase) ++ last ∷ [])
    more_clean = each-append IsLine (s.done ++ s.phase) (last ∷ []) s.clean (s.clean_last, tt)

    more_count : lines + 1 ≡ length ((s.done ++ s.phase) ++ last ∷ [])
    more_count = omega (arith, s.count, length-append (s.done ++ s.phase) (last ∷ []))

    -- the last line ends, and no phase with it
    pub lined : (next : Account) → lines < MAX_LINES → meets_behind meets (s.done ++ s.phase) last ≡ false → next s.done (s.phase ++ last ∷ []) s.output → IsSoFar next begins meets before now (all ++ 10 ∷ []) [] (lines + 1)
    lined next room other told =
        let moved : (s.done ++ s.phase) ++ last ∷ [] ≡ s.done ++ (s.phase ++ last ∷ []) = append_assoc s.done s.phase (last ∷ []) in
        record {
          done = s.done;
          phase = s.phase ++ last ∷ [];
          output = s.output;
          split = line_split (s.done ++ s.phase) last all s.split ∙ ap (λ ls. joined ls ++ []) moved;
          count = more_count ∙ ap length moved;
          clean = subst (AllByRecursion IsLine) moved more_clean;
          clean_last = (tt, omega arith);
          few = omega (arith, room);
          few_last = λ h. absurd (omega (arith, h));
          whole = ap (whole_lines meets) (sym moved) ∙ whole-other meets (s.done ++ s.phase) last other ∙ s.whole;
          begun = s.begun;
          told = told;
          silent = s.silent;
          written = s.written;
        }

    -- the last line ends, and a phase with it, which was run and written
    pub ran : (next : Account) (later : Option (List ℕ)) (text : List ℕ) → lines < MAX_LINES → meets_behind meets (s.done ++ s.phase) last ≡ true → (length (s.done ++ s.phase) ≡ 0 → begins last)
        → next ((s.done ++ s.phase) ++ last ∷ []) [] (s.output ++ text) → Appends now later text → IsSoFar next begins meets before later (all ++ 10 ∷ []) [] (lines + 1)
    ran next later text room meet first told written =
        let same : ((s.done ++ s.phase) ++ last ∷ []) ++ [] ≡ (s.done ++ s.phase) ++ last ∷ [] = append-nil ((s.done ++ s.phase) ++ last ∷ []) in
        record {
          done = (s.done ++ s.phase) ++ last ∷ [];
          phase = [];
          output = s.output ++ text;
          split = line_split (s.done ++ s.phase) last all s.split ∙ ap (λ ls. joined ls ++ []) (sym same);
          count = more_count ∙ ap length (sym same);
          clean = subst (AllByRecursion IsLine) (sym same) more_clean;
          clean_last = (tt, omega arith);
          few = omega (arith, room);
          few_last = λ h. absurd (omega (arith, h));
          whole = ap (whole_lines meets) same ∙ whole-meet meets (s.done ++ s.phase) last meet;
          begun = begun_more begins meets s.done s.phase last s.whole s.begun first;
          told = told;
          silent = λ none. absurd (omega (arith, none, length-append (s.done ++ s.phase) (last ∷ [])));
          written = appended_more before now later s.output text s.written written;
        }

    -- ---- within the limits

    pub lines_now : lines_of all ≡ (s.done ++ s.phase) ++ lines_of last
    lines_now = ap lines_of s.split ∙ lines_of-joined (s.done ++ s.phase) last s.clean

    pub ended_now : ended_lines all ≡ s.done ++ s.phase
    ended_now = ap ended_lines s.split ∙ ended-joined (s.done ++ s.phase) last s.clean s.clean_last.0

    pub whole_now : whole_lines meets (ended_lines all) ≡ s.done
    whole_now = ap (whole_lines meets) ended_now ∙ s.whole

    pub ended_next : ended_lines (all ++ 10 ∷ []) ≡ (s.done ++ s.phase) ++ last ∷ []
    ended_next = ap ended_lines (line_split (s.done ++ s.phase) last all s.split) ∙ ended-joined ((s.done ++ s.phase) ++ last ∷ []) [] more_clean tt
