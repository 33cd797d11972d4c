-- Writing items one after the other, as a loop does.
use Rattle.std.proofs.Common.{◌≡◌, ℕ, zero, suc, ◌+◌, ◌≤◌, ◌<◌, List, [], ◌∷◌, ◌++◌, length, get_or, take, sym, ap, subst, ◌∙◌, append_assoc, arith}
use Rattle.std.specs.List.{flat_map, AllByRecursion}
use Rattle.std.proofs.lemmas.Grind.{flat_map-append}
use Rattle.std.proofs.lemmas.List.{take_more, take_all, append-nil}

-- what a loop that writes keeps: the texts of the items so far stand behind what stood there before
pub put_more : {A : Type 0} (text : A → List ℕ) (old : List ℕ) (xs : List A) (i : ℕ) (d : A) (out new : List ℕ) → i < length xs
    → out ≡ old ++ flat_map text (take i xs) → new ≡ out ++ text (get_or xs i d) → new ≡ old ++ flat_map text (take (i + 1) xs)
put_more {A} text old xs i d out new lt so_far e =
    let x = get_or xs i d in
    let more : take (i + 1) xs ≡ take i xs ++ x ∷ [] = take_more xs i d lt in
    e ∙ ap (λ (o : List ℕ). o ++ text x) so_far ∙ append_assoc old (flat_map text (take i xs)) (text x)
    ∙ ap (λ (o : List ℕ). old ++ o) (ap (λ (o : List ℕ). flat_map text (take i xs) ++ o) (sym (append-nil (text x))) ∙ sym (flat_map-append text (take i xs) (x ∷ [])) ∙ ap (flat_map text) (sym more))

all_push : {A : Type 0} (P : A → Type 0) (xs : List A) (x : A) → AllByRecursion P xs → P x → AllByRecursion P (xs ++ x ∷ [])
all_push P [] x h k = (k, tt)
all_push P (y ∷ ys) x h k = (h.0, all_push P ys x h.1 k)

pub all_more : {A : Type 0} (P : A → Type 0) (xs : List A) (i : ℕ) (d : A) → i < length xs → AllByRecursion P (take i xs) → P (get_or xs i d) → AllByRecursion P (take (i + 1) xs)
all_more {A} P xs i d lt h k = subst (AllByRecursion P) (sym (take_more xs i d lt)) (all_push P (take i xs) (get_or xs i d) h k)

pub put_all : {A : Type 0} (text : A → List ℕ) (old : List ℕ) (xs : List A) (i : ℕ) (out : List ℕ) → length xs ≤ i → out ≡ old ++ flat_map text (take i xs) → out ≡ old ++ flat_map text xs
put_all {A} text old xs i out le h = h ∙ ap (λ (ys : List A). old ++ flat_map text ys) (take_all i xs le)

pub all_of_taken : {A : Type 0} (P : A → Type 0) (xs : List A) (i : ℕ) → length xs ≤ i → AllByRecursion P (take i xs) → AllByRecursion P xs
all_of_taken P xs i le h = subst (AllByRecursion P) (take_all i xs le) h

pub all_at : {A : Type 0} (P : A → Type 0) (xs : List A) (i : ℕ) (d : A) → AllByRecursion P xs → i < length xs → P (get_or xs i d)
all_at P [] i d h lt = absurd (omega arith)
all_at P (x ∷ xs) zero d h lt = h.0
all_at P (x ∷ xs) (suc i) d h lt = all_at P xs i d h.1 (omega arith)
