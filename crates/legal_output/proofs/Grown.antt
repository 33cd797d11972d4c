-- Facts of all lines, and of all numbers, as one line comes behind the others.
use Rattle.std.proofs.Common.{◌≡◌, ◌≢◌, ℕ, ◌+◌, ◌<◌, ◌≤◌, Bool, true, false, cond, List, [], ◌∷◌, ◌++◌, length, refl, sym, ap, subst, ◌∙◌, append_assoc, arith}
use Rattle.std.specs.Prelude.{Option, Some, None, max}
use Rattle.std.specs.List.{AllByRecursion as Each, filter, flat_map}
use Rattle.std.proofs.lemmas.List.{append-nil}
use Rattle.std.proofs.lemmas.List.Elements.{filter-append}
use Rattle.std.proofs.lemmas.Grind.{flat_map-append}
use Rattle.log_model.proofs.LogLaws.{each-append, each_implied}
use Rattle.legal_output.specs.Lines.{Line, caller_of, written_of, met_of}
use Rattle.legal_output.specs.Printed.{greatest, lines_of, is_caller, meet_behind, meet_or, write_behind, write_or}
use Rattle.legal_output.specs.Legal.{AtEach, Differ, Rising, Numbered}

pub each-push : {X : Type 0} (P : X → Type 0) (xs : List X) (x : X) → Each P xs → P x → Each P (xs ++ x ∷ [])
each-push P xs x all one = each-append P xs (x ∷ []) all (one, tt)

pub flat_map-push : {X A : Type 0} (f : X → List A) (xs : List X) (x : X) → flat_map f (xs ++ x ∷ []) ≡ flat_map f xs ++ f x
flat_map-push f xs x = flat_map-append f xs (x ∷ []) ∙ ap (λ l. flat_map f xs ++ l) (append-nil (f x))

pub at_each-push : (P : List Line → Line → Type 0) (before lines : List Line) (line : Line)
    → AtEach P before lines → P (before ++ lines) line → AtEach P before (lines ++ line ∷ [])
at_each-push P before [] line all one = (subst (λ b. P b line) (append-nil before) one, tt)
at_each-push P before (first ∷ lines) line all one =
    (all.0, at_each-push P (before ++ first ∷ []) lines line all.1 (subst (λ b. P b line) (sym (append_assoc before (first ∷ []) lines)) one))

pub numbered-push : (first : ℕ) (lines : List Line) (line : Line) → Numbered first lines → line.number ≡ first + length lines → Numbered first (lines ++ line ∷ [])
numbered-push first [] line all one = (omega arith, tt)
numbered-push first (other ∷ lines) line all one = (all.0, numbered-push (first + 1) lines line all.1 (omega arith))

apart : (x n clock : ℕ) → x < clock → clock ≤ n → x ≡ n → ⊥
apart x n clock low high same = omega arith

pub differ-append : (clock : ℕ) (xs ys : List ℕ) → Differ xs → Differ ys → Each (λ n. n < clock) xs → Each (λ n. clock ≤ n) ys → Differ (xs ++ ys)
differ-append clock [] ys left right low high = right
differ-append clock (x ∷ xs) ys left right low high = (
  each-append (λ m. x ≢ m) xs ys left.0 (each_implied (λ n. clock ≤ n) (λ m. x ≢ m) (λ n above. λ same. apart x n clock low.0 above same) ys high),
  differ-append clock xs ys left.1 right low.1 high,
)

le_self : (n : ℕ) → n ≤ n
le_self n = omega arith

pub differ-rising : (ns : List ℕ) → Rising ns → Differ ns
differ-rising [] rises = tt
differ-rising (n ∷ ns) rises = (each_implied (λ m. n < m) (λ m. n ≢ m) (λ m above. λ same. apart n m m above (le_self m) same) ns rises.0, differ-rising ns rises.1)

-- what holds of all lines holds of a caller's
kept_each : (P : Line → Type 0) (b : Bool) (line : Line) (lines : List Line) → P line → Each P lines → Each P (cond b (line ∷ lines) lines)
kept_each P true line lines one all = (one, all)
kept_each P false line lines one all = all

filter_each : (P : Line → Type 0) (p : Line → Bool) (lines : List Line) → Each P lines → Each P (filter p lines)
filter_each P p [] all = tt
filter_each P p (line ∷ lines) all = kept_each P (p line) line (filter p lines) all.0 (filter_each P p lines all.1)

pub lines_of_each : (P : Line → Type 0) (who : Option ℕ) (lines : List Line) → Each P lines → Each P (lines_of who lines)
lines_of_each P None lines all = all
lines_of_each P (Some caller) lines all = filter_each P (λ line. is_caller caller (caller_of line.asked)) lines all

pub each-flat_map : {X A : Type 0} (P : A → Type 0) (f : X → List A) (xs : List X) → Each (λ x. Each P (f x)) xs → Each P (flat_map f xs)
each-flat_map P f [] all = tt
each-flat_map P f (x ∷ xs) all = each-append P (f x) (flat_map f xs) all.0 (each-flat_map P f xs all.1)

max_le : (a b c : ℕ) → a ≤ c → b ≤ c → max a b ≤ c
max_le a b c left right = omega arith

pub greatest-le : (most : ℕ) (ns : List ℕ) → Each (λ n. n ≤ most) ns → greatest ns ≤ most
greatest-le most [] all = omega arith
greatest-le most (n ∷ ns) all = max_le n (greatest ns) most all.0 (greatest-le most ns all.1)

max_lt : (a b c : ℕ) → a < c → b < c → max a b < c
max_lt a b c left right = omega arith

pub greatest-lt : (clock : ℕ) (ns : List ℕ) → 0 < clock → Each (λ n. n < clock) ns → greatest ns < clock
greatest-lt clock [] some all = some
greatest-lt clock (n ∷ ns) some all = max_lt n (greatest ns) clock all.0 (greatest-lt clock ns some all.1)

pub meet_behind-push : (met : ℕ) (lines : List Line) (line : Line) → meet_behind met (lines ++ line ∷ []) ≡ meet_or (meet_behind met lines) (met_of line.answer)
meet_behind-push met [] line = refl
meet_behind-push met (other ∷ lines) line = meet_behind-push (meet_or met (met_of other.answer)) lines line

pub write_behind-push : (mine : ℕ) (lines : List Line) (line : Line) → write_behind mine (lines ++ line ∷ []) ≡ write_or (write_behind mine lines) (written_of line.answer)
write_behind-push mine [] line = refl
write_behind-push mine (other ∷ lines) line = write_behind-push (write_or mine (written_of other.answer)) lines line

pub lines_of-push : (caller : ℕ) (lines : List Line) (line : Line) → lines_of (Some caller) (lines ++ line ∷ []) ≡ lines_of (Some caller) lines ++ cond (is_caller caller (caller_of line.asked)) (line ∷ []) []
lines_of-push caller lines line = filter-append (λ other. is_caller caller (caller_of other.asked)) lines (line ∷ [])
