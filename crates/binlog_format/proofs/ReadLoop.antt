-- Reading items one after the other, as a loop does.
use Rattle.std.proofs.Common.{◌≡◌, ℕ, suc, ◌-◌, ◌+◌, ◌≤◌, ◌<◌, List, [], ◌∷◌, ◌++◌, Result, Ok, Err, refl, sym, ap, ◌∙◌, append_assoc, arith}
use Rattle.std.proofs.lemmas.List.{append-nil}
use Rattle.byte_fields.specs.Unread.{Unread}
use Rattle.binlog_format.specs.declared.refusals.FormatError.{FormatError}
use Rattle.binlog_format.specs.declared.refusals.FormatError.TheVariants as errors
use Rattle.binlog_format.specs.Reading.{Fault, Item, go_on, gives, items, Fails}

-- what was read before, and what is still read
abbrev pub with_front : {A : Type 0} → List A → Result (List A × Unread) Fault → Result (List A × Unread) Fault
with_front front read = go_on read (λ xs. gives (front ++ xs))

-- what a loop keeps: the items so far and those to come are those of the whole
abbrev pub Continues : {S A : Type 0} → (S → Item A) → (S → A → S) → List A → ℕ → S → Unread → Result (List A × Unread) Fault → Type 0
Continues item after front left state u total = with_front front (items item after left state u) ≡ total

regroup : {A : Type 0} (front : List A) (x : A) (read : Result (List A × Unread) Fault) → with_front front (go_on read (λ xs. gives (x ∷ xs))) ≡ with_front (front ++ x ∷ []) read
regroup {A} front x (Ok xs) = ap (λ (ns : List A). Ok (ns, xs.1)) (simp append_assoc)
regroup front x (Err f) = refl

nothing_before : {A : Type 0} (read : Result (List A × Unread) Fault) → with_front [] read ≡ read
nothing_before (Ok xs) = refl
nothing_before (Err f) = refl

pub starts : {S A : Type 0} (item : S → Item A) (after : S → A → S) (left : ℕ) (state : S) (u : Unread) → Continues item after [] left state u (items item after left state u)
starts item after left state u = nothing_before (items item after left state u)

pub continues : {S A : Type 0} (item : S → Item A) (after : S → A → S) (front : List A) (count i : ℕ) (state : S) (u : Unread) (x : A) (v : Unread) (total : Result (List A × Unread) Fault) → i < count → item state u ≡ Ok (x, v)
    → Continues item after front (count - i) state u total → Continues item after (front ++ x ∷ []) (count - (i + 1)) (after state x) v total
unfolding items
continues item after front count i state u x v total lt h so_far =
    let k : count - i ≡ suc (count - (i + 1)) = omega arith in
    let one : with_front front (items item after (count - i) state u) ≡ with_front (front ++ x ∷ []) (items item after (count - (i + 1)) (after state x) v) = rw (k, h) (regroup front x (items item after (count - (i + 1)) (after state x) v)) in
    sym one ∙ so_far

pub fails : {S A : Type 0} (item : S → Item A) (after : S → A → S) (e : FormatError) (front : List A) (count i : ℕ) (state : S) (u : Unread) (total : Result (List A × Unread) Fault) → i < count → Fails e (item state u)
    → Continues item after front (count - i) state u total → Fails e total
unfolding items
fails item after errors.Memory front count i state u total lt h so_far = tt
fails item after (errors.Bad at kind) front count i state u total lt h so_far =
    let k : count - i ≡ suc (count - (i + 1)) = omega arith in
    let one : with_front front (items item after (count - i) state u) ≡ Err (record { at = at; kind = kind }) = rw (k, h) refl in
    sym so_far ∙ one

pub is_done : {S A : Type 0} (item : S → Item A) (after : S → A → S) (front : List A) (count i : ℕ) (state : S) (u : Unread) (total : Result (List A × Unread) Fault) → count ≤ i → Continues item after front (count - i) state u total → total ≡ Ok (front, u)
unfolding items
is_done {S} {A} item after front count i state u total le so_far =
    let k : count - i ≡ 0 = omega arith in
    let one : with_front front (items item after (count - i) state u) ≡ Ok (front, u) = rw k (ap (λ (xs : List A). Ok (xs, u)) (append-nil front)) in
    sym so_far ∙ one
