-- Bytes that come behind those that are known, and the end of the input.
use Rattle.std.proofs.Common.{◌≡◌, ◌⊎◌, inl, inr, ℕ, ◌+◌, ◌<◌, ◌≤◌, List, [], ◌∷◌, ◌++◌, length, take, refl, sym, ap, ◌∙◌, subst, arith, Option, append-nil, append_assoc, length-append}
use Rattle.std.specs.Io.KnownBytes.{Appends}
use Rattle.std.specs.List.{AllByRecursion}
use Rattle.input_lines.specs.declared.limits.TheConstants.{MAX_INPUT, MAX_LINE, MAX_LINES}
use Rattle.phase_reading.specs.Phases.{Begins, Meets, ended_lines, all_lines, joined}
use Rattle.phase_reading.specs.Engines.{Account, Answers, CanEnd, AnswersEnd}
use Rattle.phase_reading.specs.Outputs.{WritesLimited, OfWhole}
use Rattle.phase_reading.specs.Steps.{IsOpen, IsLine, IsSoFar, Writes, Fails, Halts, Stops, Ends}
use Rattle.phase_reading.specs.declared.stops.Stop.{Stop}
use Rattle.phase_reading.specs.declared.stops.Stop.TheVariants.{BadHeader, ReadFault, WriteFault, Limit, Memory}
use Rattle.phase_reading.proofs.Splits.{all-ended, all-joined, some_bytes}
use Rattle.phase_reading.proofs.Steps.{grown, ended_now, ended_next}
use Rattle.phase_reading.proofs.Asking.{can_end}
use Rattle.phase_reading.proofs.Cutting.{within_now, none_more, over_lines, over_long, take_front}
use Rattle.phase_reading.proofs.Pieces.{none_appended, appended_more}

pub no_more : (xs : List ℕ) → length xs ≡ 0 → xs ≡ []
no_more [] e = refl
no_more (x ∷ xs) e = absurd (omega (arith, e))

module _ (stopped : Answers) (account : Account) (stands : (done waiting : List (List ℕ)) (output : List ℕ) → account done waiting output → stopped done output)
    (begins : Begins) (meets : Meets) (before now : Option (List ℕ)) (all last : List ℕ) (lines : ℕ) (s : IsSoFar account begins meets before now all last lines) where
  pub extended : (tail held : List ℕ) (count : ℕ) → IsOpen tail → held ≡ last ++ tail → (count ≡ lines) × (lines < MAX_LINES) → length last + length tail ≤ MAX_LINE → IsSoFar account begins meets before now (all ++ tail) held count
  extended tail held count unended held_is count_is size =
      rw (held_is, count_is.0) (grown begins meets before account now all last lines s tail unended size (λ _. count_is.1))

  over : (tail rest : List ℕ) → IsOpen tail → 0 < length (tail ++ rest) → length all + length tail ≤ MAX_INPUT → (MAX_LINES ≤ lines) ⊎ ((lines < MAX_LINES) × (MAX_LINE < length last + length tail)) → WritesLimited stopped begins meets ((all ++ tail) ++ rest) before now
  over tail rest unended some size why = elim why [
    | inl full ↦
        let b = some_bytes (tail ++ rest) some in
        let apart : (all ++ tail) ++ rest ≡ all ++ b.0 ∷ b.1 = append_assoc all tail rest ∙ ap (λ l. all ++ l) b.2 in
        subst (λ (l : List ℕ). WritesLimited stopped begins meets l before now) (sym apart) (over_lines stopped account stands begins meets before now all last lines s b.0 b.1 (omega (arith, full, s.few)) (omega (arith, size)))
    | inr long ↦ over_long stopped account stands begins meets before now all last lines s tail rest unended long.0 long.1 size
  ]

  -- there was no memory for what came
  no_room : length all ≤ MAX_INPUT → (more : List ℕ) → Stops stopped begins meets Memory (all ++ more) before now
  no_room size more = inl (record {
    part = all;
    rest = more;
    split = refl;
    within = within_now account begins meets before now all last lines s size;
    holds = none_more stopped account stands begins meets before now all last lines s now (ended_lines all) [] (ended_now begins meets before account now all last lines s ∙ sym (append-nil (s.done ++ s.phase))) (none_appended now);
  })

  pub not_extended : (stop : Stop) (tail rest : List ℕ) → IsOpen tail → 0 < length (tail ++ rest) → length all + length tail ≤ MAX_INPUT
      → (stop ≡ Memory) ⊎ ((stop ≡ Limit) × ((MAX_LINES ≤ lines) ⊎ ((lines < MAX_LINES) × (MAX_LINE < length last + length tail)))) → Stops stopped begins meets stop ((all ++ tail) ++ rest) before now
  not_extended stop tail rest unended some size why = elim why [
    | inl e ↦ rw (e, append_assoc all tail rest) (no_room (omega (arith, size)) (tail ++ rest))
    | inr e ↦ inr (e.0, over tail rest unended some size e.1)
  ]

  -- ---- at the end of the input

  pub has_room : (0 < length last) ⊎ (lines ≡ 0) → lines < MAX_LINES
  has_room some = elim some [ inl p ↦ s.few_last p | inr e ↦ omega (arith, e) ]

  pub all_next : (0 < length last) ⊎ (lines ≡ 0) → all_lines all ≡ ended_lines (all ++ 10 ∷ [])
  all_next some =
      let line : (0 < length last) ⊎ (length (s.done ++ s.phase) ≡ 0) = elim some [ inl p ↦ inl p | inr e ↦ inr (omega (arith, e, s.count)) ] in
      ap all_lines s.split ∙ all-ended (s.done ++ s.phase) last s.clean s.clean_last.0 line ∙ sym (ended_next begins meets before account now all last lines s)

  all_lined : (ls : List (List ℕ)) → 0 < length ls → ls ≡ s.done ++ s.phase → last ≡ [] → all_lines all ≡ ls
  all_lined [] some is none = absurd (omega arith)
  all_lined (l ∷ ls) some is none = ap all_lines (s.split ∙ ap (λ ls. joined ls ++ last) (sym is) ∙ ap (λ m. joined (l ∷ ls) ++ m) none) ∙ all-joined l ls (subst (AllByRecursion IsLine) (sym is) s.clean)

  pub all_same : 0 < lines → last ≡ [] → all_lines all ≡ ended_lines all
  all_same some none = all_lined (s.done ++ s.phase) (omega (arith, some, s.count)) refl none ∙ sym (ended_now begins meets before account now all last lines s)

  pub close_none : 0 < lines → last ≡ [] → (closed : List ℕ) × (n : ℕ) × (all_lines all ≡ ended_lines closed) × (0 < n) × IsSoFar account begins meets before now closed [] n
  close_none some none = (all, lines, all_same some none, some, subst (λ (l : List ℕ). IsSoFar account begins meets before now all l lines) none s)

  pub close_next : (next : Account) (later : Option (List ℕ)) (held : List ℕ) → held ≡ last → (0 < length last) ⊎ (lines ≡ 0)
      → (IsSoFar account begins meets before now all held lines → IsSoFar next begins meets before later (all ++ 10 ∷ []) [] (lines + 1))
      → (closed : List ℕ) × (n : ℕ) × (all_lines all ≡ ended_lines closed) × (0 < n) × IsSoFar next begins meets before later closed [] n
  close_next next later held is some step = (all ++ 10 ∷ [], lines + 1, all_next some, omega arith, step (subst (λ (l : List ℕ). IsSoFar account begins meets before now all l lines) (sym is) s))

  pub close_ended : (stop : Stop) (later : Option (List ℕ)) (held : List ℕ) → held ≡ last → (0 < length last) ⊎ (lines ≡ 0)
      → (IsSoFar account begins meets before now all held lines → Halts stopped begins meets stop (ended_lines (all ++ 10 ∷ [])) before later)
      → Halts stopped begins meets stop (all_lines all) before later
  close_ended stop later held is some step =
      subst (λ (ls : List (List ℕ)). Halts stopped begins meets stop ls before later) (sym (all_next some)) (step (subst (λ (l : List ℕ). IsSoFar account begins meets before now all l lines) (sym is) s))

  pub ready_end : 0 < lines → CanEnd account meets
  ready_end some = can_end account meets s.done s.phase s.output (omega (arith, some, s.count)) (omega (arith, s.few, s.count)) s.whole s.told

  module _ (whole : Answers) (later : Option (List ℕ)) (input : List ℕ) (is : all_lines input ≡ ended_lines all) where
    end_told : (text : List ℕ) → AnswersEnd account whole text → whole (all_lines input) (s.output ++ text)
    end_told text runs =
        subst (λ (ls : List (List ℕ)). whole ls (s.output ++ text)) (sym (is ∙ ended_now begins meets before account now all last lines s)) (runs s.done s.phase s.output s.told)

    pub finished : Writes (AnswersEnd account whole) now later → OfWhole whole input (Appends before later)
    finished w = record { output = s.output ++ w.0; stands = end_told w.0 w.1; holds = appended_more before now later s.output w.0 s.written w.2 }

    pub not_finished : (stop : Stop) → Fails (AnswersEnd account whole) ⊥ stop now later → Ends stopped whole begins meets stop input before later
    not_finished BadHeader f = absurd f.0
    not_finished ReadFault f = absurd f
    not_finished WriteFault f = inr (
      refl,
      record {
        output = s.output ++ f.0;
        stands = end_told f.0 f.1;
        holds = (length s.output + f.2.0, subst (λ (l : List ℕ). Appends before later l) (sym (take_front s.output f.0 f.2.0)) (appended_more before now later s.output (take f.2.0 f.0) s.written f.2.1));
      },
    )
    not_finished Limit f = absurd f
    not_finished Memory f = inl (none_more stopped account stands begins meets before now all last lines s later (all_lines input) [] (is ∙ ended_now begins meets before account now all last lines s ∙ sym (append-nil (s.done ++ s.phase))) f)

-- ---- a line within a piece

pub step_piece : (piece used rest text after : List ℕ) → piece ≡ used ++ rest → rest ≡ text ++ 10 ∷ after → piece ≡ (used ++ (text ++ 10 ∷ [])) ++ after
step_piece piece used rest text after e f = e ∙ ap (λ l. used ++ l) (f ∙ sym (append_assoc text (10 ∷ []) after)) ∙ sym (append_assoc used (text ++ 10 ∷ []) after)

pub step_all : (all used text : List ℕ) → ((all ++ used) ++ text) ++ 10 ∷ [] ≡ all ++ (used ++ (text ++ 10 ∷ []))
step_all all used text = append_assoc (all ++ used) text (10 ∷ []) ∙ append_assoc all used (text ++ 10 ∷ [])

pub step_whole : (all piece used rest text after : List ℕ) → piece ≡ used ++ rest → rest ≡ text ++ 10 ∷ after → (((all ++ used) ++ text) ++ 10 ∷ []) ++ after ≡ all ++ piece
step_whole all piece used rest text after e f =
    ap (λ l. l ++ after) (step_all all used text) ∙ append_assoc all (used ++ (text ++ 10 ∷ [])) after ∙ ap (λ l. all ++ l) (sym (step_piece piece used rest text after e f))

pub step_size : (all piece used rest text after : List ℕ) → piece ≡ used ++ rest → rest ≡ text ++ 10 ∷ after → length all + length piece ≤ MAX_INPUT → length (all ++ used) + (length text + 1) ≤ MAX_INPUT
step_size all piece used rest text after e f size =
    omega (arith, size, ap length e, ap length f, length-append used rest, length-append text (10 ∷ after), length-append all used)

pub last_size_of : (all piece used rest : List ℕ) → piece ≡ used ++ rest → length all + length piece ≤ MAX_INPUT → length (all ++ used) + length rest ≤ MAX_INPUT
last_size_of all piece used rest e size = omega (arith, size, ap length e, length-append used rest, length-append all used)
