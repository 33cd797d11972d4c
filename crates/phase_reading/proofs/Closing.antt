-- The end of a line.
use Rattle.std.proofs.Common.{◌≡◌, inl, ℕ, ◌+◌, ◌<◌, ◌≤◌, true, false, List, [], ◌∷◌, ◌++◌, length, refl, sym, ap, ◌∙◌, subst, arith, Option, append-nil, append_assoc, length-append}
use Rattle.std.specs.Io.KnownBytes.{Appends}
use Rattle.input_lines.specs.declared.limits.TheConstants.{MAX_INPUT, MAX_LINES}
use Rattle.input_lines.specs.Lines.{lines_of}
use Rattle.input_lines.specs.Limits.{IsWithin}
use Rattle.phase_reading.specs.Phases.{Begins, Meets, ended_lines, joined}
use Rattle.phase_reading.specs.Engines.{Account, Answers, CanTake, CanRun, AnswersFirst, Takes, AnswersPhase}
use Rattle.phase_reading.specs.Outputs.{AppendsFront, OfPhases}
use Rattle.phase_reading.specs.Steps.{meets_behind, IsSoFar, Writes, Fails, Halts, Stops}
use Rattle.phase_reading.specs.declared.stops.Stop.{Stop}
use Rattle.phase_reading.specs.declared.stops.Stop.TheVariants.{BadHeader, ReadFault, WriteFault, Limit, Memory}
use Rattle.phase_reading.proofs.Splits.{lines_of-joined, line_split, whole-meet}
use Rattle.phase_reading.proofs.Steps.{ran, lined, more_clean, ended_next}
use Rattle.phase_reading.proofs.Asking.{can_take, can_run, took}
use Rattle.phase_reading.proofs.Cutting.{few_with, none_more, some_more, unwritten}

nil_of : (xs : List (List ℕ)) → length xs ≡ 0 → xs ≡ []
nil_of [] e = refl
nil_of (x ∷ xs) e = absurd (omega (arith, e))

nil_front : (xs ys : List (List ℕ)) → length (xs ++ ys) ≡ 0 → xs ≡ []
nil_front xs ys e = nil_of xs (omega (arith, e, length-append xs ys))

nil_back : (xs ys : List (List ℕ)) → length (xs ++ ys) ≡ 0 → ys ≡ []
nil_back xs ys e = nil_of ys (omega (arith, e, length-append xs ys))

module _ (stopped : Answers) (account : Account) (stands : (done waiting : List (List ℕ)) (output : List ℕ) → account done waiting output → stopped done output)
    (begins : Begins) (meets : Meets) (before now : Option (List ℕ)) (all last : List ℕ) (lines : ℕ) (s : IsSoFar account begins meets before now all last lines) where
  -- the line keeps the limits where it ends within them
  within_next : lines < MAX_LINES → length all + 1 ≤ MAX_INPUT → IsWithin (all ++ 10 ∷ [])
  within_next room size =
      let split : all ++ 10 ∷ [] ≡ joined ((s.done ++ s.phase) ++ last ∷ []) ++ [] = line_split (s.done ++ s.phase) last all s.split in
      let clean = more_clean begins meets before account now all last lines s in
      let is : lines_of (all ++ 10 ∷ []) ≡ ((s.done ++ s.phase) ++ last ∷ []) ++ [] = ap lines_of split ∙ lines_of-joined ((s.done ++ s.phase) ++ last ∷ []) [] clean in
      let few = few_with ((s.done ++ s.phase) ++ last ∷ []) [] (lines + 1) (omega (arith, s.count, length-append (s.done ++ s.phase) (last ∷ []))) clean (tt, omega arith) (omega (arith, room)) (λ h. absurd (omega (arith, h))) in
      record { bytes = omega (arith, size, length-append all (10 ∷ [])); lines = rw is few }

  pub stops_here : (stop : Stop) (later : Option (List ℕ)) → lines < MAX_LINES → length all + 1 ≤ MAX_INPUT → Halts stopped begins meets stop (ended_lines (all ++ 10 ∷ [])) before later → Stops stopped begins meets stop (all ++ 10 ∷ []) before later
  stops_here stop later room size h = inl (record { part = all ++ 10 ∷ []; rest = []; split = sym (append-nil (all ++ 10 ∷ [])); within = within_next room size; holds = h })

  pub no_memory : (later : Option (List ℕ)) → Appends now later [] → OfPhases stopped meets (ended_lines (all ++ 10 ∷ [])) (Appends before later)
  no_memory later a = none_more stopped account stands begins meets before now all last lines s later (ended_lines (all ++ 10 ∷ [])) (last ∷ []) (ended_next begins meets before account now all last lines s) a

  some_done : 0 < lines → 0 < length (s.done ++ s.phase)
  some_done some = omega (arith, some, s.count)

  pub ready_take : 0 < lines → lines < MAX_LINES → CanTake account meets
  ready_take some room = can_take account meets s.done s.phase s.output (some_done some) (omega (arith, room, s.count)) s.whole s.told

  pub ready_run : (mid : Account) → 0 < lines → lines < MAX_LINES → Takes account mid meets last true → CanRun mid meets
  ready_run mid some room takes = can_run account meets mid last s.done s.phase s.output takes (some_done some) (omega (arith, room, s.count)) s.whole s.told

  -- no meet
  pub other : (next : Account) → 0 < lines → lines < MAX_LINES → Takes account next meets last false → IsSoFar next begins meets before now (all ++ 10 ∷ []) [] (lines + 1)
  other next some room takes =
      let t = took account meets next last false s.done s.phase s.output takes (some_done some) s.whole s.told in
      lined begins meets before account now all last lines s next room t.0 t.1

  module _ (next : Account) (next_stands : (done waiting : List (List ℕ)) (output : List ℕ) → next done waiting output → stopped done output) (later : Option (List ℕ)) where
    torn : (text : List ℕ) → meets_behind meets (s.done ++ s.phase) last ≡ true → next ((s.done ++ s.phase) ++ last ∷ []) [] (s.output ++ text) → AppendsFront now later text → OfPhases stopped meets (ended_lines (all ++ 10 ∷ [])) (AppendsFront before later)
    torn text meet told a =
        some_more stopped account stands begins meets before now all last lines s later ((s.done ++ s.phase) ++ last ∷ []) [] (ended_lines (all ++ 10 ∷ [])) text
        (ended_next begins meets before account now all last lines s ∙ sym (append-nil ((s.done ++ s.phase) ++ last ∷ []))) (whole-meet meets (s.done ++ s.phase) last meet) (next_stands _ _ _ told) a

    -- ---- line 1

    module _ (first : lines ≡ 0) where
      none : length (s.done ++ s.phase) ≡ 0
      none = omega (arith, first, s.count)

      first_meets : meets_behind meets (s.done ++ s.phase) last ≡ true
      first_meets = ap (λ ls. meets_behind meets ls last) (nil_of (s.done ++ s.phase) none)

      first_told : (text : List ℕ) → AnswersFirst account next begins last text → next ((s.done ++ s.phase) ++ last ∷ []) [] (s.output ++ text)
      first_told text runs =
          let front : account [] s.phase s.output = subst (λ (ls : List (List ℕ)). account ls s.phase s.output) (nil_front s.done s.phase none) s.told in
          let told : account [] [] s.output = subst (λ (ls : List (List ℕ)). account [] ls s.output) (nil_back s.done s.phase none) front in
          subst (λ (ls : List (List ℕ)). next (ls ++ last ∷ []) [] (s.output ++ text)) (sym (nil_of (s.done ++ s.phase) none)) (runs.1 s.output told)

      pub began : lines < MAX_LINES → Writes (AnswersFirst account next begins last) now later → IsSoFar next begins meets before later (all ++ 10 ∷ []) [] (lines + 1)
      began room w = ran begins meets before account now all last lines s next later w.0 room first_meets (λ _. w.1.0) (first_told w.0 w.1) w.2

      pub not_begun : (stop : Stop) → Fails (AnswersFirst account next begins last) (begins last → ⊥) stop now later → Halts stopped begins meets stop (ended_lines (all ++ 10 ∷ [])) before later
      not_begun BadHeader f =
          let one : ended_lines (all ++ 10 ∷ []) ≡ last ∷ [] = ended_next begins meets before account now all last lines s ∙ ap (λ ls. ls ++ last ∷ []) (nil_of (s.done ++ s.phase) none) in
          let quiet : s.output ≡ [] = s.silent (ap length (nil_front s.done s.phase none)) in
          (record { line = last; rest = []; split = one; short = s.clean_last.1; bad = f.0 }, subst (λ (l : List ℕ). Appends before later l) quiet (unwritten stopped account stands begins meets before now all last lines s later f.1))
      not_begun ReadFault f = absurd f
      not_begun WriteFault f = torn f.0 first_meets (first_told f.0 f.1) f.2
      not_begun Limit f = absurd f
      not_begun Memory f = no_memory later f

    -- ---- a meet

    module _ (mid : Account) (some : 0 < lines) (takes : Takes account mid meets last true) where
      met : (meets_behind meets (s.done ++ s.phase) last ≡ true) × mid s.done (s.phase ++ last ∷ []) s.output
      met = took account meets mid last true s.done s.phase s.output takes (some_done some) s.whole s.told

      ran_told : (text : List ℕ) → AnswersPhase mid next text → next ((s.done ++ s.phase) ++ last ∷ []) [] (s.output ++ text)
      ran_told text runs = subst (λ (ls : List (List ℕ)). next ls [] (s.output ++ text)) (sym (append_assoc s.done s.phase (last ∷ []))) (runs s.done (s.phase ++ last ∷ []) s.output met.1)

      pub ran_next : lines < MAX_LINES → Writes (AnswersPhase mid next) now later → IsSoFar next begins meets before later (all ++ 10 ∷ []) [] (lines + 1)
      ran_next room w = ran begins meets before account now all last lines s next later w.0 room met.0 (λ none. absurd (omega (arith, none, some_done some))) (ran_told w.0 w.1) w.2

      pub not_ran : (stop : Stop) → Fails (AnswersPhase mid next) ⊥ stop now later → Halts stopped begins meets stop (ended_lines (all ++ 10 ∷ [])) before later
      not_ran BadHeader f = absurd f.0
      not_ran ReadFault f = absurd f
      not_ran WriteFault f = torn f.0 met.0 (ran_told f.0 f.1) f.2
      not_ran Limit f = absurd f
      not_ran Memory f = no_memory later f
