-- Answers at the places of callers, and what is left of them behind a line.
use Rattle.std.proofs.Common.{◌≡◌, ◌≢◌, ℕ, zero, suc, ◌+◌, ◌-◌, ◌^◌, ◌<◌, ◌≤◌, List, [], ◌∷◌, ◌++◌, length, map, drop, get_or, set, replicate, refl, ap, sym, ◌∙◌, subst, ⊎_elim, arith}
use Rattle.std.specs.Global.{Vec}
use Rattle.std.proofs.Math.Path.{fun_ext}
use Rattle.std.proofs.lemmas.Bool.{cases_lt}
use Rattle.std.proofs.lemmas.List.{map-append, drop-drop, get_or-set_same, get_or-set_other, get_or-replicate, get_or_past, length-replicate, length-drop}
use mathlib.Core.Option.{some-ne-none}
use Rattle.answer_lines.specs.declared.answers.Answer.{Answer}
use Rattle.turn_facts.specs.Counts.{count, NoneTwice}
use Rattle.turn_facts.specs.Prefixes.{IsAt, put}
use Rattle.turn_facts.proofs.Counts.{count-here, count-append}
use Rattle.turn_facts.proofs.Places.{same_or, put_here, put_else, at_more}
use Rattle.phase_run.specs.declared.works.Done.{Done}
use Rattle.phase_lines.specs.declared.lines.Slot.{Slot}
use Rattle.phase_lines.specs.declared.lines.Slot.TheVariants.{Asked}
use Rattle.phase_lines.proofs.Counting.{at_among}
use Rattle.phase_lines.specs.Steps.{items_at, left_of, StandAt, first_of, left_behind, HasAnswer}

abbrev pub caller_of_done : Done → ℕ
caller_of_done done = done.caller

-- ---- places

items_at-set_same : (places : List (Vec (ℕ × Answer))) (caller : ℕ) (place : Vec (ℕ × Answer)) → caller < length places → items_at (set places caller place) caller ≡ place.items
items_at-set_same [] caller place low = absurd (omega arith)
items_at-set_same (x ∷ xs) zero place low = refl
items_at-set_same (x ∷ xs) (suc caller) place low = items_at-set_same xs caller place (omega arith)

items_at-set_other : (places : List (Vec (ℕ × Answer))) (caller other : ℕ) (place : Vec (ℕ × Answer)) → other ≢ caller → items_at (set places caller place) other ≡ items_at places other
items_at-set_other [] caller other place n = refl
items_at-set_other (x ∷ xs) zero zero place n = absurd (n refl)
items_at-set_other (x ∷ xs) zero (suc other) place n = refl
items_at-set_other (x ∷ xs) (suc caller) zero place n = refl
items_at-set_other (x ∷ xs) (suc caller) (suc other) place n = items_at-set_other xs caller other place (λ e. n (ap suc e))

-- what is read at a place
pub items_at-read : (places : List (Vec (ℕ × Answer))) (caller : ℕ) (place : Vec (ℕ × Answer)) → caller < length places → get_or places caller place ≡ place → items_at places caller ≡ place.items
items_at-read [] caller place low is = absurd (omega arith)
items_at-read (x ∷ xs) zero place low is = ap (λ (v : Vec (ℕ × Answer)). v.items) is
items_at-read (x ∷ xs) (suc caller) place low is = items_at-read xs caller place (omega arith) is

pub stand_none : (places : List (Vec (ℕ × Answer))) → StandAt [] places
stand_none places apart i done at = absurd (some-ne-none done (sym at))

pub stand_more : (dones : List Done) (done : Done) (places : List (Vec (ℕ × Answer))) → done.caller < length places → StandAt dones places → StandAt (dones ++ done ∷ []) (set places done.caller done.answers)
stand_more dones done places low stand apart i other at =
    let callers : map caller_of_done (dones ++ done ∷ []) ≡ map caller_of_done dones ++ done.caller ∷ [] = map-append caller_of_done dones (done ∷ []) in
    let counted : (x : ℕ) → count x (map caller_of_done (dones ++ done ∷ [])) ≡ count x (map caller_of_done dones) + count x (done.caller ∷ []) = λ x. ap (count x) callers ∙ count-append x (map caller_of_done dones) (done.caller ∷ []) in
    let before : NoneTwice (map caller_of_done dones) = λ x. (let e : count x (map caller_of_done (dones ++ done ∷ [])) ≡ count x (map caller_of_done dones) + count x (done.caller ∷ []) = counted x in let once : count x (map caller_of_done (dones ++ done ∷ [])) ≤ 1 = apart x in omega arith) in
    ⊎_elim
    (λ (t : IsAt dones i other).
    let there : 1 ≤ count other.caller (map caller_of_done dones) = at_among caller_of_done dones i other t in
    let differ : other.caller ≢ done.caller = λ same.
    (let e : count other.caller (map caller_of_done (dones ++ done ∷ [])) ≡ count other.caller (map caller_of_done dones) + count other.caller (done.caller ∷ []) = counted other.caller in
    let once : count other.caller (map caller_of_done (dones ++ done ∷ [])) ≤ 1 = apart other.caller in
    let one : count other.caller (done.caller ∷ []) ≡ 1 + count other.caller [] = ap (λ (n : ℕ). count other.caller (n ∷ [])) (sym same) ∙ count-here other.caller [] in omega arith) in
    items_at-set_other places done.caller other.caller done.answers differ ∙ stand before i other t)
    (λ (t : (done ≡ other) × (i ≡ length dones)). subst (λ (d : Done). items_at (set places done.caller done.answers) d.caller ≡ d.answers.items) t.0 (items_at-set_same places done.caller done.answers low))
    (at_more dones done other i at)

-- ---- what is left

abbrev zeros : ℕ → List ℕ
zeros n = replicate n 0

told_none : (n caller : ℕ) → get_or (zeros n) caller 0 ≡ 0
told_none n caller =
    let long : length (zeros n) ≡ n = length-replicate {A = ℕ} n 0 in
    ⊎_elim
    (λ (low : caller < n). get_or-replicate n caller 0 0 low)
    (λ (high : n ≤ caller). get_or_past (zeros n) caller 0 (omega arith))
    (cases_lt caller n)

pub left_none : (places : List (Vec (ℕ × Answer))) (n : ℕ) → left_of places (replicate n 0) ≡ items_at places
left_none places n = fun_ext (λ caller. ap (λ (k : ℕ). drop k (items_at places caller)) (told_none n caller))

-- behind a line of a caller one of its answers more is told
pub left_more : (places : List (Vec (ℕ × Answer))) (told : List ℕ) (caller : ℕ) → caller < length told → left_of places (set told caller (get_or told caller 0 + 1)) ≡ left_behind (Asked caller) (left_of places told)
left_more places told caller low =
    let n = get_or told caller 0 in
    let more = drop 1 (left_of places told caller) in
    fun_ext
    (λ other.
    ⊎_elim
    (λ (same : other ≡ caller).
    let here : left_of places (set told caller (n + 1)) caller ≡ put (left_of places told) caller more caller =
    ap (λ (k : ℕ). drop k (items_at places caller)) (get_or-set_same told caller (n + 1) 0 low)
    ∙ sym (drop-drop 1 n (items_at places caller))
    ∙ sym (put_here (left_of places told) caller more) in
    subst (λ (k : ℕ). left_of places (set told caller (n + 1)) k ≡ put (left_of places told) caller more k) (sym same) here)
    (λ (differ : other ≢ caller).
    ap (λ (k : ℕ). drop k (items_at places other)) (get_or-set_other told caller other (n + 1) 0 differ)
    ∙ sym (put_else (left_of places told) caller more other differ))
    (same_or other caller))

-- the first of what is left stands at the count of those that are told
pub first_of-drop : (xs : List (ℕ × Answer)) (n : ℕ) (d : ℕ × Answer) → 1 ≤ length (drop n xs) → first_of (drop n xs) ≡ (get_or xs n d).1
first_of-drop [] zero d some = absurd (omega arith)
first_of-drop [] (suc n) d some = absurd (omega arith)
first_of-drop (x ∷ xs) zero d some = refl
first_of-drop (x ∷ xs) (suc n) d some = first_of-drop xs n d some

-- a slot of a caller has one
pub asked_has : (slot : Slot) (caller : ℕ) (left : ℕ → List (ℕ × Answer)) → slot ≡ Asked caller → HasAnswer slot left → (caller < 16) × (1 ≤ length (left caller))
asked_has slot caller left is has = subst (λ (s : Slot). HasAnswer s left) is has

-- what is told can be counted
pub next_small : (places : List (Vec (ℕ × Answer))) (caller n : ℕ) → 1 ≤ length (drop n (items_at places caller)) → n + 1 < 2 ^ 64
next_small [] caller n some = let e : length (drop n (items_at [] caller)) ≡ 0 - n = length-drop n (items_at [] caller) in absurd (omega arith)
next_small (x ∷ xs) zero n some =
    let e : length (drop n x.items) ≡ length x.items - n = length-drop n x.items in
    let long : x.len ≡ length x.items = x.ok.0 in
    let small : x.cap < 2 ^ 63 = x.small in
    let within : x.len ≤ x.cap = x.ok.1 in omega arith
next_small (x ∷ xs) (suc caller) n some = next_small xs caller n some

module _ (places : List (Vec (ℕ × Answer))) (told : List ℕ) (caller : ℕ) (place : Vec (ℕ × Answer)) (n : ℕ) (low : caller < length places) (there : place ≡ get_or places caller place) (n_is : n ≡ get_or told caller 0) (some : 1 ≤ length (left_of places told caller)) where
  left_here : left_of places told caller ≡ drop n place.items
  left_here = ap (λ (k : ℕ). drop k (items_at places caller)) (sym n_is) ∙ ap (drop n) (items_at-read places caller place low (sym there))

  pub next_low : n < length place.items
  next_low =
      let e : length (left_of places told caller) ≡ length place.items - n = ap length left_here ∙ length-drop n place.items in omega arith

  pub next_answer : (shown : ℕ × Answer) → shown ≡ get_or place.items n shown → first_of (left_of places told caller) ≡ shown.1
  next_answer shown is =
      ap first_of left_here
      ∙ first_of-drop place.items n shown (subst (λ (l : List (ℕ × Answer)). 1 ≤ length l) left_here some)
      ∙ ap (λ (a : ℕ × Answer). a.1) (sym is)
