-- Lines behind lines, whatever a line is read as.
use Rattle.std.proofs.Common.{◌≡◌, ℕ, ◌+◌, ◌≤◌, List, [], ◌∷◌, ◌++◌, map, length, Ok, refl, sym, ap, ◌∙◌, subst, arith}
use Rattle.std.specs.List.{AllByRecursion as Each}
use Rattle.std.proofs.lemmas.List.{append-nil, length-map, map-append, length-append}
use Rattle.std.proofs.lemmas.Grind.{flat_map-append}
use Rattle.std.proofs.lemmas.Simd.{map-map}
use Rattle.request_lines.specs.declared.requests.Request.{Request}
use Rattle.legal_output.specs.Lines.{Asked, Line}
use Rattle.legal_output.specs.Legal.{Numbered}
use Rattle.legal_output.specs.Outputs.{asked_of}
use Rattle.legal_output.specs.Phases.{Phase, lines_in}
use Rattle.phase_lines.specs.Waiting.{Read}

-- ---- any lists

pub each_last : {X : Type 0} (P : X → Type 0) (xs : List X) (x : X) → Each P (xs ++ x ∷ []) → P x
each_last P [] x all = all.0
each_last P (y ∷ xs) x all = each_last P xs x all.1

pub each-map : {X Y : Type 0} (P : Y → Type 0) (f : X → Y) (xs : List X) → Each (λ x. P (f x)) xs → Each P (map f xs)
each-map P f [] all = tt
each-map P f (x ∷ xs) all = (all.0, each-map P f xs all.1)

-- ---- numbers

pub numbered-append : (first : ℕ) (xs ys : List Line) → Numbered first xs → Numbered (first + length xs) ys → Numbered first (xs ++ ys)
numbered-append first [] ys left right = let e : first + 0 ≡ first = omega arith in subst (λ (n : ℕ). Numbered n ys) e right
numbered-append first (x ∷ xs) ys left right =
    let e : first + length (x ∷ xs) ≡ first + 1 + length xs = omega arith in
    (left.0, numbered-append (first + 1) xs ys left.1 (subst (λ (n : ℕ). Numbered n ys) e right))

-- a block behind lines, and one line behind the block
pub numbered_behind : (first : ℕ) (before block : List Line) (last : Line) → Numbered first before → Numbered (first + length before) block → last.number ≡ first + length before + length block
    → Numbered first (before ++ (block ++ last ∷ []))
numbered_behind first before block last left right is =
    numbered-append first before (block ++ last ∷ []) left (numbered-append (first + length before) block (last ∷ []) right (is, tt))

-- ---- what is asked

abbrev pub asks_in : List Line → List Asked
asks_in lines = map (λ (line : Line). line.asked) lines

pub asks_long : (lines : List Line) (asks : List Asked) → asks_in lines ≡ asks → length lines ≡ length asks
asks_long lines asks e = sym (length-map lines (λ (line : Line). line.asked)) ∙ ap length e

-- the lines answer the lines that `f` reads, and the block what was read behind them
pub asked_behind : (f : List ℕ → Read) (lines waiting : List (List ℕ)) (before block : List Line) → asks_in before ≡ map (λ line. asked_of (f line)) lines
    → asks_in block ≡ map asked_of (map f waiting) → asks_in (before ++ block) ≡ map (λ line. asked_of (f line)) (lines ++ waiting)
asked_behind f lines waiting before block left right =
    map-append (λ (line : Line). line.asked) before block
    ∙ ap (λ (l : List Asked). l ++ asks_in block) left
    ∙ ap (λ (l : List Asked). map (λ line. asked_of (f line)) lines ++ l) (right ∙ map-map asked_of f waiting)
    ∙ sym (map-append (λ line. asked_of (f line)) lines waiting)

-- one line behind a block
pub asked_one : (reads : List Read) (read : Read) (block : List Line) (last : Line) → asks_in block ≡ map asked_of reads → last.asked ≡ asked_of read
    → asks_in (block ++ last ∷ []) ≡ map asked_of (reads ++ read ∷ [])
asked_one reads read block last left is =
    map-append (λ (line : Line). line.asked) block (last ∷ [])
    ∙ ap (λ (l : List Asked). l ++ last.asked ∷ []) left
    ∙ ap (λ (asked : Asked). map asked_of reads ++ asked ∷ []) is
    ∙ sym (map-append asked_of reads (read ∷ []))

-- ---- phases

pub lines-more : (phases : List Phase) (phase : Phase) → lines_in (phases ++ phase ∷ []) ≡ lines_in phases ++ (phase.lines ++ phase.meet ∷ [])
lines-more phases phase =
    flat_map-append (λ (p : Phase). p.lines ++ p.meet ∷ []) phases (phase ∷ [])
    ∙ ap (λ (l : List Line). lines_in phases ++ l) (append-nil (phase.lines ++ phase.meet ∷ []))
