-- A list of notes in chunks: its length, the note at a position, and a chunk that goes to the others.
use Rattle.std.proofs.Common.{◌≡◌, ℕ, ◌+◌, ◌*◌, ◌<◌, List, [], ◌∷◌, ◌++◌, length, get_or, refl, sym, ap, ◌∙◌, arith, zero, suc, append_assoc, append-nil}
use Rattle.std.specs.Prelude.{slice_get}
use Rattle.std.specs.List.{AllByRecursion}
use Rattle.std.proofs.lemmas.List.{length-append}
use Rattle.journal_model.specs.declared.notes.Note.{Note}
use Rattle.journal_model.specs.Lists.{joined}
use Rattle.channel_journal.specs.Kept.{IsWhole, notes_in}

-- ---- any lists

pub all_append : {X : Type 0} (P : X → Type 0) (xs ys : List X) → AllByRecursion P xs → AllByRecursion P ys → AllByRecursion P (xs ++ ys)
all_append P [] ys a b = b
all_append P (x ∷ xs) ys a b = (a.0, all_append P xs ys a.1 b)

pub all_back : {X : Type 0} (P : X → Type 0) (xs ys : List X) → AllByRecursion P (xs ++ ys) → AllByRecursion P ys
all_back P [] ys a = a
all_back P (x ∷ xs) ys a = all_back P xs ys a.1

pub all_at : {X : Type 0} (P : X → Type 0) (xs : List X) (k : ℕ) (d : X) → AllByRecursion P xs → k < length xs → P (get_or xs k d)
all_at P [] k d a h = absurd (omega arith)
all_at P (x ∷ xs) zero d a h = a.0
all_at P (x ∷ xs) (suc k) d a h = all_at P xs k d a.1 (omega arith)

pub slice_get_left : {X : Type 0} (xs ys : List X) (i : ℕ) → i < length xs → slice_get (xs ++ ys) i ≡ slice_get xs i
slice_get_left [] ys i h = absurd (omega arith)
slice_get_left (x ∷ xs) ys zero h = refl
slice_get_left (x ∷ xs) ys (suc i) h = slice_get_left xs ys i (omega arith)

pub slice_get_right : {X : Type 0} (xs ys : List X) (n i : ℕ) → n ≡ length xs → slice_get (xs ++ ys) (n + i) ≡ slice_get ys i
slice_get_right [] ys n i h = let e : n + i ≡ i = omega arith in ap (slice_get ys) e
slice_get_right (x ∷ xs) ys zero i h = absurd (omega arith)
slice_get_right (x ∷ xs) ys (suc n) i h = let e : suc n + i ≡ suc (n + i) = omega arith in rw e (slice_get_right xs ys n i (omega arith))

-- ---- chunks

pub length-joined : (chunks : List (List Note)) → AllByRecursion IsWhole chunks → length (joined chunks) ≡ 256 * length chunks
length-joined [] w = refl
length-joined (c ∷ chunks) w = let rest = length-joined chunks w.1 in let one : length c ≡ 256 = w.0 in omega (arith, length-append c (joined chunks))

pub length-notes : (full : List (List Note)) (latest : List Note) → AllByRecursion IsWhole full → length (notes_in full latest) ≡ 256 * length full + length latest
length-notes full latest w = let rest = length-joined full w in omega (arith, length-append (joined full) latest)

pub joined-append : (xs ys : List (List Note)) → joined (xs ++ ys) ≡ joined xs ++ joined ys
joined-append [] ys = refl
joined-append (x ∷ xs) ys = ap (λ l. x ++ l) (joined-append xs ys) ∙ sym (append_assoc x (joined xs) (joined ys))

pub slice_get-joined : (chunks : List (List Note)) (k j : ℕ) (d : List Note) → AllByRecursion IsWhole chunks → k < length chunks → j < 256 → slice_get (joined chunks) (256 * k + j) ≡ slice_get (get_or chunks k d) j
slice_get-joined [] k j d w h i = absurd (omega arith)
slice_get-joined (c ∷ chunks) zero j d w h i =
    let e : 256 * 0 + j ≡ j = omega arith in
    let one : length c ≡ 256 = w.0 in
    rw e (slice_get_left c (joined chunks) j (omega arith))
slice_get-joined (c ∷ chunks) (suc k) j d w h i =
    let e : 256 * suc k + j ≡ 256 + (256 * k + j) = omega arith in
    rw e (slice_get_right c (joined chunks) 256 (256 * k + j) (sym w.0)) ∙ slice_get-joined chunks k j d w.1 (omega arith) i

-- the latest chunk goes behind the whole ones, and a blank one takes its place
pub notes_turned : (full : List (List Note)) (latest next : List Note) → next ≡ [] → notes_in (full ++ latest ∷ []) next ≡ notes_in full latest
notes_turned full latest next blank =
    ap (λ xs. joined (full ++ latest ∷ []) ++ xs) blank ∙ append-nil (joined (full ++ latest ∷ [])) ∙ joined-append full (latest ∷ []) ∙ ap (λ xs. joined full ++ xs) (append-nil latest)
