-- Where a limit is passed, and what was written by then.
use Rattle.std.proofs.Common.{◌≡◌, inl, inr, ℕ, suc, ◌+◌, ◌-◌, ◌<◌, ◌≤◌, ◌==◌, false, List, [], ◌∷◌, ◌++◌, length, take, refl, sym, ap, ◌∙◌, subst, arith, Option, append-nil, zero-add, append_assoc, length-append}
use Rattle.std.specs.List.{AllByRecursion}
use Rattle.std.specs.Io.KnownBytes.{Appends}
use Rattle.input_lines.specs.declared.limits.TheConstants.{MAX_INPUT, MAX_LINE, MAX_LINES}
use Rattle.input_lines.specs.Lines.{lines_of, first_or_empty}
use Rattle.input_lines.specs.Limits.{IsShort, IsWithin}
use Rattle.phase_reading.specs.Phases.{Begins, Meets, ended_lines, whole_lines, IsBegun, IsCut, joined}
use Rattle.phase_reading.specs.Engines.{Account, Answers}
use Rattle.phase_reading.specs.Outputs.{AppendsFront, WritesStopped, WritesLimited, OfPhases}
use Rattle.phase_reading.specs.Steps.{IsOpen, IsLine, IsSoFar, Stops}
use Rattle.phase_reading.specs.declared.stops.Stop.{Stop}
use Rattle.phase_reading.proofs.Splits.{open-append, open-parts, cut_at, some_line, long_first, lines_of-joined, lines_of-open, each-append, each-behind, whole-again, begun_all}
use Rattle.phase_reading.proofs.Steps.{grown, lines_now, ended_now, whole_now}
use Rattle.phase_reading.proofs.Pieces.{appended_more}

first_is_short : (lines : List (List ℕ)) → AllByRecursion IsShort lines → IsShort (first_or_empty lines)
first_is_short [] h = omega arith
first_is_short (line ∷ lines) h = h.0

each_short : (lines : List (List ℕ)) → AllByRecursion IsLine lines → AllByRecursion IsShort lines
each_short [] c = tt
each_short (line ∷ lines) c = (c.0.1, each_short lines c.1)

pub few_with : (ls : List (List ℕ)) (last : List ℕ) (lines : ℕ) → lines ≡ length ls → AllByRecursion IsLine ls → IsLine last → lines ≤ MAX_LINES → (0 < length last → lines < MAX_LINES)
    → AllByRecursion IsShort (ls ++ lines_of last) × (length (ls ++ lines_of last) ≤ MAX_LINES)
few_with ls [] lines count c o few few_last = (each-append IsShort ls [] (each_short ls c) tt, omega (arith, count, few, length-append ls []))
few_with ls (x ∷ xs) lines count c o few few_last =
    rw (lines_of-open x xs o.0) (each-append IsShort ls ((x ∷ xs) ∷ []) (each_short ls c) (o.1, tt), omega (arith, count, few_last (omega arith), length-append ls ((x ∷ xs) ∷ [])))

no_bytes : (xs : List ℕ) → (0 < length xs → ⊥) → xs ≡ []
no_bytes [] none = refl
no_bytes (x ∷ xs) none = absurd (none (omega arith))

pub take_front : (xs ys : List ℕ) (n : ℕ) → take (length xs + n) (xs ++ ys) ≡ xs ++ take n ys
take_front [] ys n = rw (zero-add n) refl
take_front (x ∷ xs) ys n =
    let e : suc (length xs) + n ≡ suc (length xs + n) = omega arith in
    ap (λ m. take m (x ∷ xs ++ ys)) e ∙ ap (λ l. x ∷ l) (take_front xs ys n)

-- the bytes so far keep the limits
pub within_now : (account : Account) (begins : Begins) (meets : Meets) (before now : Option (List ℕ)) (all last : List ℕ) (lines : ℕ) → IsSoFar account begins meets before now all last lines → length all ≤ MAX_INPUT → IsWithin all
within_now account begins meets before now all last lines s size =
    let few = few_with (s.done ++ s.phase) last lines s.count s.clean s.clean_last s.few s.few_last in
    record { bytes = size; lines = rw (lines_now begins meets before account now all last lines s) few }

pub begun_now : (account : Account) (begins : Begins) (meets : Meets) (before now : Option (List ℕ)) (all last : List ℕ) (lines : ℕ) → IsSoFar account begins meets before now all last lines → IsBegun begins (ended_lines all)
begun_now account begins meets before now all last lines s =
    subst (IsBegun begins) (sym (ended_now begins meets before account now all last lines s)) (begun_all begins meets s.done s.phase s.whole s.begun)

module _ (stopped : Answers) (account : Account) (stands : (done waiting : List (List ℕ)) (output : List ℕ) → account done waiting output → stopped done output)
    (begins : Begins) (meets : Meets) (before now : Option (List ℕ)) (all last : List ℕ) (lines : ℕ) (s : IsSoFar account begins meets before now all last lines) where
  pub stopped_now : WritesStopped stopped meets (ended_lines all) before now
  stopped_now = record {
    output = s.output;
    stands = subst (λ (ls : List (List ℕ)). stopped ls s.output) (sym (whole_now begins meets before account now all last lines s)) (stands s.done s.phase s.output s.told);
    written = s.written;
  }

  limited : (more : List ℕ) → IsCut more all → WritesLimited stopped begins meets more before now
  limited more cut = record { part = all; cut = cut; begun = begun_now account begins meets before now all last lines s; writes = stopped_now }

  -- one byte more than an input may have
  pub over_bytes : (byte : ℕ) (rest : List ℕ) → length all ≡ MAX_INPUT → WritesLimited stopped begins meets (all ++ byte ∷ rest) before now
  over_bytes byte rest size = limited (all ++ byte ∷ rest) (record {
    byte = byte;
    rest = rest;
    split = refl;
    within = within_now account begins meets before now all last lines s (omega (arith, size));
    past = λ more w. omega (arith, size, w.bytes, length-append all (byte ∷ more));
  })

  joined_more : (byte : ℕ) (more : List ℕ) → lines ≡ MAX_LINES → lines_of (all ++ byte ∷ more) ≡ (s.done ++ s.phase) ++ lines_of (byte ∷ more)
  joined_more byte more full =
      let none : last ≡ [] = no_bytes last (λ some. omega (arith, full, s.few_last some)) in
      let split : all ≡ joined (s.done ++ s.phase) = s.split ∙ ap (λ l. joined (s.done ++ s.phase) ++ l) none ∙ append-nil (joined (s.done ++ s.phase)) in
      ap (λ l. lines_of (l ++ byte ∷ more)) split ∙ lines_of-joined (s.done ++ s.phase) (byte ∷ more) s.clean

  -- one line more
  pub over_lines : (byte : ℕ) (rest : List ℕ) → lines ≡ MAX_LINES → length all ≤ MAX_INPUT → WritesLimited stopped begins meets (all ++ byte ∷ rest) before now
  over_lines byte rest full size = limited (all ++ byte ∷ rest) (record {
    byte = byte;
    rest = rest;
    split = refl;
    within = within_now account begins meets before now all last lines s size;
    past = λ more w. omega (arith, full, s.count, w.lines.1, ap length (joined_more byte more full), length-append (s.done ++ s.phase) (lines_of (byte ∷ more)), some_line byte more);
  })

  -- one byte of the last line more
  long_line : (byte : ℕ) (more : List ℕ) → length last ≡ MAX_LINE → (byte == 10) ≡ false → IsWithin (all ++ byte ∷ more) → ⊥
  long_line byte more full other w =
      let apart : all ++ byte ∷ more ≡ joined (s.done ++ s.phase) ++ ((last ++ byte ∷ []) ++ more) =
      ap (λ l. l ++ byte ∷ more) s.split ∙ append_assoc (joined (s.done ++ s.phase)) last (byte ∷ more) ∙ ap (λ l. joined (s.done ++ s.phase) ++ l) (sym (append_assoc last (byte ∷ []) more)) in
      let found : lines_of (all ++ byte ∷ more) ≡ (s.done ++ s.phase) ++ lines_of ((last ++ byte ∷ []) ++ more) = ap lines_of apart ∙ lines_of-joined (s.done ++ s.phase) ((last ++ byte ∷ []) ++ more) s.clean in
      let short : AllByRecursion IsShort (lines_of ((last ++ byte ∷ []) ++ more)) = each-behind IsShort (s.done ++ s.phase) (lines_of ((last ++ byte ∷ []) ++ more)) (subst (AllByRecursion IsShort) found w.lines.0) in
      omega (arith, full, first_is_short (lines_of ((last ++ byte ∷ []) ++ more)) short, long_first (last ++ byte ∷ []) more (open-append last (byte ∷ []) s.clean_last.0 (other, tt)), length-append last (byte ∷ []))

  over_full : (byte : ℕ) (rest : List ℕ) → length last ≡ MAX_LINE → (byte == 10) ≡ false → length all ≤ MAX_INPUT → WritesLimited stopped begins meets (all ++ byte ∷ rest) before now
  over_full byte rest full other size = limited (all ++ byte ∷ rest) (record {
    byte = byte;
    rest = rest;
    split = refl;
    within = within_now account begins meets before now all last lines s size;
    past = λ more w. long_line byte more full other w;
  })

-- a line that has not ended goes on past its limit
module _ (stopped : Answers) (account : Account) (stands : (done waiting : List (List ℕ)) (output : List ℕ) → account done waiting output → stopped done output)
    (begins : Begins) (meets : Meets) (before now : Option (List ℕ)) (all last : List ℕ) (lines : ℕ) (s : IsSoFar account begins meets before now all last lines) where
  pub over_long : (tail rest : List ℕ) → IsOpen tail → lines < MAX_LINES → MAX_LINE < length last + length tail → length all + length tail ≤ MAX_INPUT → WritesLimited stopped begins meets ((all ++ tail) ++ rest) before now
  over_long tail rest unended room long size =
      let c = cut_at tail (MAX_LINE - length last) (omega (arith, long, s.clean_last.1)) in
      let parts : IsOpen c.0 × IsOpen (c.1 ∷ c.2) = open-parts c.0 (c.1 ∷ c.2) (subst IsOpen c.3 unended) in
      let shorter : length c.0 ≤ length tail = omega (arith, ap length c.3, length-append c.0 (c.1 ∷ c.2)) in
      let g = grown begins meets before account now all last lines s c.0 parts.0 (omega (arith, c.4, s.clean_last.1)) (λ _. room) in
      let apart : (all ++ tail) ++ rest ≡ (all ++ c.0) ++ c.1 ∷ (c.2 ++ rest) = ap (λ l. (all ++ l) ++ rest) c.3 ∙ ap (λ l. l ++ rest) (sym (append_assoc all c.0 (c.1 ∷ c.2))) ∙ append_assoc (all ++ c.0) (c.1 ∷ c.2) rest in
      subst (λ (l : List ℕ). WritesLimited stopped begins meets l before now) (sym apart)
      (over_full stopped account stands begins meets before now (all ++ c.0) (last ++ c.0) lines g c.1 (c.2 ++ rest) (omega (arith, c.4, s.clean_last.1, length-append last c.0)) parts.1.0 (omega (arith, shorter, size, length-append all c.0)))

  -- ---- a step that failed

  pub unwritten : (later : Option (List ℕ)) → Appends now later [] → Appends before later s.output
  unwritten later a = subst (λ (l : List ℕ). Appends before later l) (append-nil s.output) (appended_more before now later s.output [] s.written a)

  -- nothing more was written
  pub none_more : (later : Option (List ℕ)) (ls rest : List (List ℕ)) → ls ≡ (s.done ++ s.phase) ++ rest → Appends now later [] → OfPhases stopped meets ls (Appends before later)
  none_more later ls rest is a = record {
    run = s.done;
    rest = s.phase ++ rest;
    front = is ∙ append_assoc s.done s.phase rest;
    phases = ap (whole_lines meets) (sym s.whole) ∙ whole-again meets (s.done ++ s.phase) ∙ s.whole;
    output = s.output;
    stands = stands s.done s.phase s.output s.told;
    holds = unwritten later a;
  }

  -- a part of a text more was written
  pub some_more : (later : Option (List ℕ)) (run rest ls : List (List ℕ)) (text : List ℕ) → ls ≡ run ++ rest → whole_lines meets run ≡ run → stopped run (s.output ++ text) → AppendsFront now later text → OfPhases stopped meets ls (AppendsFront before later)
  some_more later run rest ls text is phases told a = record {
    run = run;
    rest = rest;
    front = is;
    phases = phases;
    output = s.output ++ text;
    stands = told;
    holds = (length s.output + a.0, subst (λ (l : List ℕ). Appends before later l) (sym (take_front s.output text a.0)) (appended_more before now later s.output (take a.0 text) s.written a.1));
  }

limited_longer : (stopped : Answers) (begins : Begins) (meets : Meets) (xs ys : List ℕ) (before now : Option (List ℕ)) → WritesLimited stopped begins meets xs before now → WritesLimited stopped begins meets (xs ++ ys) before now
limited_longer stopped begins meets xs ys before now w = record {
  part = w.part;
  cut = record { byte = w.cut.byte; rest = w.cut.rest ++ ys; split = ap (λ l. l ++ ys) w.cut.split ∙ append_assoc w.part (w.cut.byte ∷ w.cut.rest) ys; within = w.cut.within; past = w.cut.past };
  begun = w.begun;
  writes = w.writes;
}

-- what ended the reading within some bytes ends it whatever comes behind them
pub stops-longer : (stopped : Answers) (begins : Begins) (meets : Meets) (stop : Stop) (xs ys : List ℕ) (before now : Option (List ℕ)) → Stops stopped begins meets stop xs before now → Stops stopped begins meets stop (xs ++ ys) before now
stops-longer stopped begins meets stop xs ys before now w = elim w [
  | inl p ↦ inl (record { part = p.part; rest = p.rest ++ ys; split = ap (λ l. l ++ ys) p.split ∙ append_assoc p.part p.rest ys; within = p.within; holds = p.holds })
  | inr q ↦ inr (q.0, limited_longer stopped begins meets xs ys before now q.1)
]
