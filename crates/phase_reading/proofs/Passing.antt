-- A limit that was passed, in the words of the whole input.
use Rattle.std.proofs.Common.{◌≡◌, ℕ, ◌≤◌, ◌==◌, Bool, true, false, if◌then◌else◌, List, [], ◌∷◌, ◌++◌, length, refl, sym, ap, ◌∙◌, subst, arith, Option, Some, None, append_assoc, length-append}
use Rattle.std.specs.List.{AllByRecursion}
use Rattle.std.specs.Prelude.{IfSome}
use Rattle.std.proofs.lemmas.Bool.Decides.{nat_tests}
use Rattle.input_lines.specs.declared.limits.TheConstants.{MAX_LINE, MAX_LINES}
use Rattle.input_lines.specs.Lines.{lines_of, first_line, first_or_empty}
use Rattle.input_lines.specs.Limits.{IsShort, IsWithin}
use Rattle.phase_reading.specs.Phases.{Begins, Meets, ended_lines, onto_ended, IsBegun}
use Rattle.phase_reading.specs.Engines.{Answers}
use Rattle.phase_reading.specs.Outputs.{WritesLimited}
use Rattle.phase_reading.specs.Outcomes.{PassesLimit}
use Rattle.phase_reading.specs.Steps.{IsOpen}
use Rattle.phase_reading.proofs.Splits.{lines_of-line, lines_of-open, open-append, ended-longer, all-front, long_first}

open_onto : (x : ℕ) (lines : List (List ℕ)) → onto_ended x lines ≡ [] → lines ≡ []
open_onto x [] e = refl
open_onto x (l ∷ ls) e = absurd cc

open_if : (b : Bool) (x : ℕ) (lines : List (List ℕ)) → (if b then [] ∷ lines else onto_ended x lines) ≡ [] → (b ≡ false) × (lines ≡ [])
open_if true x lines e = absurd cc
open_if false x lines e = (refl, open_onto x lines e)

ended-none : (xs : List ℕ) → ended_lines xs ≡ [] → IsOpen xs
ended-none [] e = tt
ended-none (x ∷ xs) e = let p = open_if (x == 10) x (ended_lines xs) e in (p.0, ended-none xs p.1)

head_same : (a b : List ℕ) (xs ys : List (List ℕ)) → a ∷ xs ≡ b ∷ ys → a ≡ b
head_same a b xs ys e = ap first_or_empty e

pub first_of : (part rest line : List ℕ) (lines : List (List ℕ)) → ended_lines part ≡ line ∷ lines → first_line (part ++ rest) ≡ line
first_of part rest line lines e =
    let more = ended-longer part rest in
    let front = all-front (part ++ rest) in
    ap first_or_empty (front.1 ∙ ap (λ ls. ls ++ front.0) (more.1 ∙ ap (λ ls. ls ++ more.0) e))

open_size : (part : List ℕ) → IsOpen part → IsWithin part → length part ≤ MAX_LINE
open_size [] o w = omega arith
open_size (x ∷ xs) o w = (subst (AllByRecursion IsShort) (lines_of-open x xs o) w.lines.0).0

ended_is : (byte : ℕ) → (byte == 10) ≡ true → byte ≡ 10
ended_is byte e = grind (arith, nat_tests)

few_open : (xs : List ℕ) → IsOpen xs → length xs ≤ MAX_LINE → AllByRecursion IsShort (lines_of xs) × (length (lines_of xs) ≤ MAX_LINES)
few_open [] o fits = (tt, omega arith)
few_open (x ∷ xs) o fits = rw (lines_of-open x xs o) ((fits, tt), omega arith)

-- an open line and one byte more keep the limits where the first line does
one_more : (part : List ℕ) (b : Bool) (byte : ℕ) (rest : List ℕ) → (byte == 10) ≡ b → IsOpen part → IsWithin part → IsShort (first_line (part ++ byte ∷ rest)) → IsWithin (part ++ byte ∷ [])
one_more part true byte rest e o w short =
    let size : length part ≤ MAX_LINE = open_size part o w in
    let is : byte ≡ 10 = ended_is byte e in
    rw is (record { bytes = omega (arith, size, length-append part (10 ∷ [])); lines = rw (lines_of-line part [] o) ((size, tt), omega arith) })
one_more part false byte rest e o w short =
    let o' : IsOpen (part ++ byte ∷ []) = open-append part (byte ∷ []) o (e, tt) in
    let long : length (part ++ byte ∷ []) ≤ MAX_LINE = omega (arith, short, long_first (part ++ byte ∷ []) rest o', ap (λ l. length (first_line l)) (append_assoc part (byte ∷ []) rest)) in
    record { bytes = omega (arith, long); lines = few_open (part ++ byte ∷ []) o' long }

good : (begins : Begins) (part rest : List ℕ) (byte : ℕ) (ended : List (List ℕ)) → ended_lines part ≡ ended → IsBegun begins ended → IsWithin part → ((more : List ℕ) → IsWithin (part ++ byte ∷ more) → ⊥) → IsShort (first_line (part ++ byte ∷ rest)) → begins (first_line (part ++ byte ∷ rest))
good begins part rest byte [] e begun w past short = absurd (past [] (one_more part (byte == 10) byte rest refl (ended-none part e) w short))
good begins part rest byte (line ∷ lines) e begun w past short = subst begins (sym (first_of part (byte ∷ rest) line lines e)) begun

pub passes : (stopped : Answers) (begins : Begins) (meets : Meets) (input : List ℕ) (before now : Option (List ℕ)) → WritesLimited stopped begins meets input before now → PassesLimit begins input
passes stopped begins meets input before now w = record {
  past = λ within. w.cut.past w.cut.rest (subst IsWithin w.cut.split within);
  header = λ short. subst (λ (l : List ℕ). begins (first_line l)) (sym w.cut.split) (good begins w.part w.cut.rest w.cut.byte (ended_lines w.part) refl w.begun w.cut.within w.cut.past (subst (λ (l : List ℕ). IsShort (first_line l)) w.cut.split short));
}

pub limit_passed : (stopped : Answers) (begins : Begins) (meets : Meets) (left before now : Option (List ℕ)) → IfSome left (λ input. WritesLimited stopped begins meets input before now) → IfSome left (PassesLimit begins)
limit_passed stopped begins meets None before now w = tt
limit_passed stopped begins meets (Some input) before now w = passes stopped begins meets input before now w
