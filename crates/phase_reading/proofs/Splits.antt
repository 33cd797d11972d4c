-- Lines and their bytes.
use Rattle.std.proofs.Common.{◌≡◌, ◌≢◌, ◌⊎◌, inl, inr, ℕ, zero, suc, ◌<◌, ◌≤◌, ◌==◌, Bool, true, false, List, [], ◌∷◌, ◌++◌, length, get_or, if◌then◌else◌, refl, sym, ap, ◌∙◌, arith, append-nil, append_assoc}
use Rattle.std.specs.List.{AllByRecursion}
use Rattle.input_lines.specs.Lines.{lines_of, onto_first, first_line, first_or_empty, behind_first}
use Rattle.std.proofs.lemmas.Bool.Decides.{nat_tests}
use Rattle.phase_reading.specs.Phases.{Begins, Meets, ended_lines, onto_ended, all_lines, keep, through_meet, whole_lines, IsBegun, joined}
use Rattle.phase_reading.specs.Steps.{meets_behind, IsOpen, IsLine}

not_end : (b : ℕ) → b ≢ 10 → (b == 10) ≡ false
not_end b other = grind (arith, nat_tests)

pub open_of : (xs : List ℕ) → ((k : ℕ) → k < length xs → get_or xs k 0 ≢ 10) → IsOpen xs
open_of [] none = tt
open_of (x ∷ xs) none = (not_end x (none 0 (omega arith)), open_of xs (λ k lt. none (suc k) (omega arith)))

pub open-append : (xs ys : List ℕ) → IsOpen xs → IsOpen ys → IsOpen (xs ++ ys)
open-append [] ys p q = q
open-append (x ∷ xs) ys p q = (p.0, open-append xs ys p.1 q)

pub lines_of-line : (line rest : List ℕ) → IsOpen line → lines_of (line ++ 10 ∷ rest) ≡ line ∷ lines_of rest
lines_of-line [] rest o = refl
lines_of-line (x ∷ xs) rest o = rw (o.0, lines_of-line xs rest o.1) refl

pub ended-line : (line rest : List ℕ) → IsOpen line → ended_lines (line ++ 10 ∷ rest) ≡ line ∷ ended_lines rest
ended-line [] rest o = refl
ended-line (x ∷ xs) rest o = rw (o.0, ended-line xs rest o.1) refl

pub ended-open : (xs : List ℕ) → IsOpen xs → ended_lines xs ≡ []
ended-open [] o = refl
ended-open (x ∷ xs) o = rw (o.0, ended-open xs o.1) refl

pub lines_of-open : (x : ℕ) (xs : List ℕ) → IsOpen (x ∷ xs) → lines_of (x ∷ xs) ≡ (x ∷ xs) ∷ []
lines_of-open x [] o = rw o.0 refl
lines_of-open x (y ∷ ys) o = let rest : lines_of (y ∷ ys) ≡ (y ∷ ys) ∷ [] = lines_of-open y ys o.1 in rw (o.0, rest) refl

pub lines_of-joined : (lines : List (List ℕ)) (rest : List ℕ) → AllByRecursion IsLine lines → lines_of (joined lines ++ rest) ≡ lines ++ lines_of rest
lines_of-joined [] rest c = refl
lines_of-joined (line ∷ lines) rest c =
    ap lines_of (append_assoc line (10 ∷ joined lines) rest) ∙ lines_of-line line (joined lines ++ rest) c.0.0 ∙ ap (λ ls. line ∷ ls) (lines_of-joined lines rest c.1)

pub ended-joined-more : (lines : List (List ℕ)) (rest : List ℕ) → AllByRecursion IsLine lines → ended_lines (joined lines ++ rest) ≡ lines ++ ended_lines rest
ended-joined-more [] rest c = refl
ended-joined-more (line ∷ lines) rest c =
    ap ended_lines (append_assoc line (10 ∷ joined lines) rest) ∙ ended-line line (joined lines ++ rest) c.0.0 ∙ ap (λ ls. line ∷ ls) (ended-joined-more lines rest c.1)

pub ended-joined : (lines : List (List ℕ)) (last : List ℕ) → AllByRecursion IsLine lines → IsOpen last → ended_lines (joined lines ++ last) ≡ lines
ended-joined lines last c o = ended-joined-more lines last c ∙ ap (λ ls. lines ++ ls) (ended-open last o) ∙ append-nil lines

pub joined-append : (xs ys : List (List ℕ)) → joined (xs ++ ys) ≡ joined xs ++ joined ys
joined-append [] ys = refl
joined-append (x ∷ xs) ys = ap (λ l. x ++ 10 ∷ l) (joined-append xs ys) ∙ sym (append_assoc x (10 ∷ joined xs) (joined ys))

-- an LF ends the last line
pub line_split : (lines : List (List ℕ)) (last all : List ℕ) → all ≡ joined lines ++ last → all ++ 10 ∷ [] ≡ joined (lines ++ last ∷ []) ++ []
line_split lines last all e =
    ap (λ l. l ++ 10 ∷ []) e ∙ append_assoc (joined lines) last (10 ∷ []) ∙ sym (append-nil (joined (lines ++ last ∷ [])) ∙ joined-append lines (last ∷ []))

pub each-append : (P : List ℕ → Type 0) (xs ys : List (List ℕ)) → AllByRecursion P xs → AllByRecursion P ys → AllByRecursion P (xs ++ ys)
each-append P [] ys p q = q
each-append P (x ∷ xs) ys p q = (p.0, each-append P xs ys p.1 q)

pub each-behind : (P : List ℕ → Type 0) (xs ys : List (List ℕ)) → AllByRecursion P (xs ++ ys) → AllByRecursion P ys
each-behind P [] ys p = p
each-behind P (x ∷ xs) ys p = each-behind P xs ys p.1

-- ---- phases

keep_some : (b : Bool) (x l : List ℕ) (xs : List (List ℕ)) → keep b x (xs ++ l ∷ []) ≡ x ∷ xs ++ l ∷ []
keep_some true x l xs = refl
keep_some false x l [] = refl
keep_some false x l (y ∷ ys) = refl

through-meet : (m : List ℕ → Bool) (ls : List (List ℕ)) (l : List ℕ) → m l ≡ true → through_meet m (ls ++ l ∷ []) ≡ ls ++ l ∷ []
through-meet m [] l h = rw h refl
through-meet m (x ∷ xs) l h = ap (keep (m x) x) (through-meet m xs l h) ∙ keep_some (m x) x l xs

through-other : (m : List ℕ → Bool) (ls : List (List ℕ)) (l : List ℕ) → m l ≡ false → through_meet m (ls ++ l ∷ []) ≡ through_meet m ls
through-other m [] l h = rw h refl
through-other m (x ∷ xs) l h = ap (keep (m x) x) (through-other m xs l h)

keep_again : (m : List ℕ → Bool) (b : Bool) (x : List ℕ) (ls : List (List ℕ)) → m x ≡ b → through_meet m ls ≡ ls → through_meet m (keep b x ls) ≡ keep b x ls
keep_again m true x ls h e = rw (h, e) refl
keep_again m false x [] h e = refl
keep_again m false x (l ∷ ls) h e = rw (h, e) refl

through-again : (m : List ℕ → Bool) (ls : List (List ℕ)) → through_meet m (through_meet m ls) ≡ through_meet m ls
through-again m [] = refl
through-again m (x ∷ xs) = keep_again m (m x) x (through_meet m xs) refl (through-again m xs)

pub whole-again : (meets : Meets) (ls : List (List ℕ)) → whole_lines meets (whole_lines meets ls) ≡ whole_lines meets ls
whole-again meets [] = refl
whole-again meets (h ∷ ls) = ap (λ l. h ∷ l) (through-again (meets h) ls)

pub whole-meet : (meets : Meets) (ls : List (List ℕ)) (l : List ℕ) → meets_behind meets ls l ≡ true → whole_lines meets (ls ++ l ∷ []) ≡ ls ++ l ∷ []
whole-meet meets [] l h = refl
whole-meet meets (x ∷ xs) l h = ap (λ ls. x ∷ ls) (through-meet (meets x) xs l h)

pub whole-other : (meets : Meets) (ls : List (List ℕ)) (l : List ℕ) → meets_behind meets ls l ≡ false → whole_lines meets (ls ++ l ∷ []) ≡ whole_lines meets ls
whole-other meets [] l h = cc
whole-other meets (x ∷ xs) l h = ap (λ ls. x ∷ ls) (through-other (meets x) xs l h)

pub begun_more : (begins : Begins) (meets : Meets) (done phase : List (List ℕ)) (line : List ℕ) → whole_lines meets (done ++ phase) ≡ done → IsBegun begins done → (length (done ++ phase) ≡ 0 → begins line) → IsBegun begins ((done ++ phase) ++ line ∷ [])
begun_more begins meets [] [] line whole begun first = first refl
begun_more begins meets [] (h ∷ phase) line whole begun first = absurd cc
begun_more begins meets (h ∷ done) phase line whole begun first = begun

pub begun_all : (begins : Begins) (meets : Meets) (done phase : List (List ℕ)) → whole_lines meets (done ++ phase) ≡ done → IsBegun begins done → IsBegun begins (done ++ phase)
begun_all begins meets [] [] whole begun = tt
begun_all begins meets [] (h ∷ phase) whole begun = absurd cc
begun_all begins meets (h ∷ done) phase whole begun = begun

onto_longer : (x : ℕ) (had bs more : List (List ℕ)) → bs ≡ had ++ more → (rest : List (List ℕ)) × (onto_ended x bs ≡ onto_ended x had ++ rest)
onto_longer x [] bs more e = (onto_ended x bs, refl)
onto_longer x (a ∷ tail) bs more e = (more, ap (onto_ended x) e)

if_longer : (b : Bool) (x : ℕ) (had bs more : List (List ℕ)) → bs ≡ had ++ more → (rest : List (List ℕ)) × ((if b then [] ∷ bs else onto_ended x bs) ≡ (if b then [] ∷ had else onto_ended x had) ++ rest)
if_longer true x had bs more e = (more, ap (λ ls. [] ∷ ls) e)
if_longer false x had bs more e = onto_longer x had bs more e

-- the lines that have ended stay the first ones
pub ended-longer : (xs ys : List ℕ) → (more : List (List ℕ)) × (ended_lines (xs ++ ys) ≡ ended_lines xs ++ more)
ended-longer [] ys = (ended_lines ys, refl)
ended-longer (x ∷ xs) ys = let l = ended-longer xs ys in if_longer (x == 10) x (ended_lines xs) (ended_lines (xs ++ ys)) l.0 l.1

-- an LF behind an input that has come to its end makes its last line one that ended
pub all-ended : (lines : List (List ℕ)) (last : List ℕ) → AllByRecursion IsLine lines → IsOpen last → (0 < length last) ⊎ (length lines ≡ 0) → all_lines (joined lines ++ last) ≡ lines ++ last ∷ []
all-ended [] [] c o some = refl
all-ended (l ∷ ls) [] c o some = absurd (elim some [ inl p ↦ omega (arith, p) | inr p ↦ omega (arith, p) ])
all-ended [] (x ∷ last) c o some = rw (lines_of-open x last o) refl
all-ended (l ∷ ls) (x ∷ last) c o some = rw (lines_of-joined (l ∷ ls) (x ∷ last) c, lines_of-open x last o) refl

-- the lines of an input whose last line has ended
pub all-joined : (line : List ℕ) (lines : List (List ℕ)) → AllByRecursion IsLine (line ∷ lines) → all_lines (joined (line ∷ lines) ++ []) ≡ line ∷ lines
all-joined line lines c = rw (lines_of-joined (line ∷ lines) [] c, append-nil lines) refl

pub open-parts : (xs ys : List ℕ) → IsOpen (xs ++ ys) → IsOpen xs × IsOpen ys
open-parts [] ys o = (tt, o)
open-parts (x ∷ xs) ys o = let p = open-parts xs ys o.1 in ((o.0, p.0), p.1)

-- some bytes at a place within them
pub cut_at : (xs : List ℕ) (n : ℕ) → n < length xs → (front : List ℕ) × (byte : ℕ) × (rest : List ℕ) × (xs ≡ front ++ byte ∷ rest) × (length front ≡ n)
cut_at [] n h = absurd (omega arith)
cut_at (x ∷ xs) zero h = ([], x, xs, refl, refl)
cut_at (x ∷ xs) (suc n) h = let c = cut_at xs n (omega arith) in (x ∷ c.0, c.1, c.2, ap (λ l. x ∷ l) c.3, omega (arith, c.4))

some_onto : (x : ℕ) (lines : List (List ℕ)) → 0 < length (onto_first x lines)
some_onto x [] = omega arith
some_onto x (l ∷ ls) = omega arith

some_if : (b : Bool) (x : ℕ) (lines : List (List ℕ)) → 0 < length (if b then [] ∷ lines else onto_first x lines)
some_if true x lines = omega arith
some_if false x lines = some_onto x lines

pub some_line : (x : ℕ) (xs : List ℕ) → 0 < length (lines_of (x ∷ xs))
some_line x xs = some_if (x == 10) x (lines_of xs)

longer_onto : (b : ℕ) (n : ℕ) (lines : List (List ℕ)) → n ≤ length (first_or_empty lines) → suc n ≤ length (first_or_empty (onto_first b lines))
longer_onto b n [] h = omega arith
longer_onto b n (line ∷ lines) h = omega arith

-- a line that has not ended goes on with what comes
pub long_first : (xs rest : List ℕ) → IsOpen xs → length xs ≤ length (first_line (xs ++ rest))
long_first [] rest o = omega arith
long_first (x ∷ xs) rest o = rw o.0 (longer_onto x (length xs) (lines_of (xs ++ rest)) (long_first xs rest o.1))

onto_all : (x : ℕ) (had alls more : List (List ℕ)) → alls ≡ had ++ more → (rest : List (List ℕ)) × (onto_first x alls ≡ onto_ended x had ++ rest)
onto_all x [] alls more e = (onto_first x alls, refl)
onto_all x (a ∷ tail) alls more e = (more, ap (onto_first x) e)

if_all : (b : Bool) (x : ℕ) (had alls more : List (List ℕ)) → alls ≡ had ++ more → (rest : List (List ℕ)) × ((if b then [] ∷ alls else onto_first x alls) ≡ (if b then [] ∷ had else onto_ended x had) ++ rest)
if_all true x had alls more e = (more, ap (λ ls. [] ∷ ls) e)
if_all false x had alls more e = onto_all x had alls more e

lines-front : (xs : List ℕ) → (more : List (List ℕ)) × (lines_of xs ≡ ended_lines xs ++ more)
lines-front [] = ([], refl)
lines-front (x ∷ xs) = let l = lines-front xs in if_all (x == 10) x (ended_lines xs) (lines_of xs) l.0 l.1

all_some : (lines : List (List ℕ)) → 0 < length lines → first_or_empty lines ∷ behind_first lines ≡ lines
all_some [] h = absurd (omega arith)
all_some (l ∷ ls) h = refl

-- the lines that have ended are the first of all
pub all-front : (xs : List ℕ) → (more : List (List ℕ)) × (all_lines xs ≡ ended_lines xs ++ more)
all-front [] = ([] ∷ [], refl)
all-front (x ∷ xs) = let l = lines-front (x ∷ xs) in (l.0, all_some (lines_of (x ∷ xs)) (some_line x xs) ∙ l.1)

pub some_bytes : (xs : List ℕ) → 0 < length xs → (x : ℕ) × (more : List ℕ) × (xs ≡ x ∷ more)
some_bytes [] h = absurd (omega arith)
some_bytes (x ∷ xs) h = (x, xs, refl)

pub first_ended : (line rest : List ℕ) → IsOpen line → first_line (line ++ 10 ∷ rest) ≡ line
first_ended line rest o = ap first_or_empty (lines_of-line line rest o)

-- ---- no meet stands behind the last one that is done

cons_tail : (x y : List ℕ) (xs ys : List (List ℕ)) → x ∷ xs ≡ y ∷ ys → xs ≡ ys
cons_tail x y xs ys e = ap behind_first e

keep_nil : (b : Bool) (x : List ℕ) (ls : List (List ℕ)) → keep b x ls ≡ [] → (b ≡ false) × (ls ≡ [])
keep_nil true x ls e = absurd cc
keep_nil false x [] e = (refl, refl)
keep_nil false x (l ∷ ls) e = absurd cc

keep_tail : (b : Bool) (x : List ℕ) (ls xs : List (List ℕ)) → keep b x ls ≡ x ∷ xs → ls ≡ xs
keep_tail true x ls xs e = cons_tail x x ls xs e
keep_tail false x [] xs e = absurd cc
keep_tail false x (l ∷ ls) xs e = cons_tail x x (l ∷ ls) xs e

none_meets : (m : List ℕ → Bool) (ls : List (List ℕ)) → through_meet m ls ≡ [] → AllByRecursion (λ l. m l ≡ false) ls
none_meets m [] e = tt
none_meets m (x ∷ xs) e = let p = keep_nil (m x) x (through_meet m xs) e in (p.0, none_meets m xs p.1)

later_none : (m : List ℕ → Bool) (done phase : List (List ℕ)) → through_meet m (done ++ phase) ≡ done → AllByRecursion (λ l. m l ≡ false) phase
later_none m [] phase e = none_meets m phase e
later_none m (x ∷ xs) phase e = later_none m xs phase (keep_tail (m x) x (through_meet m (xs ++ phase)) xs e)

pub plain_phase : (meets : Meets) (header : List ℕ) (done phase : List (List ℕ)) → whole_lines meets ((header ∷ done) ++ phase) ≡ header ∷ done → AllByRecursion (λ l. meets header l ≡ false) phase
plain_phase meets header done phase e = later_none (meets header) done phase (cons_tail header header (through_meet (meets header) (done ++ phase)) done e)
