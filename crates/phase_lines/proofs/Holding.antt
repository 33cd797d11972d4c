-- Lines that come while others wait.
use Rattle.std.proofs.Common.{◌≡◌, ◌≢◌, ℕ, ◌+◌, ◌<◌, List, [], ◌∷◌, ◌++◌, length, get_or, set, All, Result, Ok, Err, OnErr, refl, ap, sym, ◌∙◌, subst, ⊎_elim, arith}
use Rattle.std.specs.List.{AllByRecursion as Each}
use Rattle.std.specs.Global.{Vec}
use Rattle.std.proofs.lemmas.List.{append-nil, map-append, length-map, length-set}
use Rattle.request_lines.specs.declared.requests.Request.{Request}
use Rattle.turn_facts.specs.Prefixes.{IsAt}
use Rattle.turn_facts.proofs.Places.{same_or, at_set, at_get, at_here, at_below, at_some, at_one}
use Rattle.phase_lines.specs.declared.lines.PhaseLines.{PhaseLines}
use Rattle.phase_lines.specs.declared.lines.Slot.{Slot}
use Rattle.phase_lines.specs.Waiting.{Read, own, requests_of, MayWait, slot_of, AreHeld}
use Rattle.phase_lines.specs.Steps.{Gains, Takes, Stays}
use Rattle.phase_lines.proofs.Weaving.{own_put, requests-append}

-- what holds of each of the list and of one more
each_more : {A : Type 0} (P : A → Type 0) (xs : List A) (x : A) → Each P xs → P x → Each P (xs ++ x ∷ [])
each_more P [] x each p = (p, tt)
each_more P (y ∷ xs) x each p = (each.0, each_more P xs x each.1 p)

pub held_none : (first : ℕ) (lines : PhaseLines) → lines.first ≡ first → lines.slots.items ≡ [] → length lines.places.items ≡ 16 → All (λ (place : Vec (ℕ × Request)). place.items ≡ []) lines.places.items → AreHeld first [] lines
held_none first lines first_is slots many none = record {
  first_is = first_is;
  slots = slots;
  many = many;
  places = λ caller place at.
      let is : get_or lines.places.items caller place ≡ place = at_get lines.places.items caller place place at in
      subst (λ (p : Vec (ℕ × Request)). p.items ≡ []) is (none caller place (at_below lines.places.items caller place at));
  may = tt;
}

pub held_more : (first : ℕ) (reads : List Read) (read : Read) (old new : PhaseLines) → MayWait read → Takes read old new → AreHeld first reads old → AreHeld first (reads ++ read ∷ []) new
held_more first reads read old new may takes held = record {
  first_is = takes.first ∙ held.first_is;
  slots = takes.slots ∙ ap (λ (l : List Slot). l ++ slot_of read ∷ []) held.slots ∙ sym (map-append slot_of reads (read ∷ []));
  many = takes.places.many ∙ held.many;
  places = λ caller place at.
      let many : length new.places.items ≡ length old.places.items = takes.places.many in
      let below : caller < length new.places.items = at_below new.places.items caller place at in
      let was = at_some old.places.items caller (omega arith) in
      let long : length old.slots.items ≡ length reads = ap length held.slots ∙ length-map reads slot_of in
      let number : old.first + length old.slots.items ≡ first + length reads = (let f : old.first ≡ first = held.first_is in omega arith) in
      takes.places.each caller was.0 place was.1 at
      ∙ ap (λ (l : List (ℕ × Request)). l ++ own caller (old.first + length old.slots.items) read) (held.places caller was.0 was.1)
      ∙ ap (λ (n : ℕ). requests_of caller first reads ++ own caller n read) number
      ∙ sym (requests-append caller first reads read);
  may = each_more MayWait reads read held.may may;
}

-- the same lines wait where nothing was taken in
pub held_same : (first : ℕ) (reads : List Read) (old new : PhaseLines) → Stays old new → AreHeld first reads old → AreHeld first reads new
held_same first reads old new stays held = record {
  first_is = stays.first ∙ held.first_is;
  slots = stays.slots ∙ held.slots;
  many = stays.places.many ∙ held.many;
  places = λ caller place at.
      let many : length new.places.items ≡ length old.places.items = stays.places.many in
      let below : caller < length new.places.items = at_below new.places.items caller place at in
      let was = at_some old.places.items caller (omega arith) in
      stays.places.each caller was.0 place was.1 at ∙ append-nil was.0.items ∙ held.places caller was.0 was.1;
  may = held.may;
}

-- no caller gains anything of a line that is refused
pub none_gains : (places : List (Vec (ℕ × Request))) → Gains (λ (caller : ℕ). []) places places
none_gains places = record {
  many = refl;
  each = λ caller a b at_a at_b. ap (λ (v : Vec (ℕ × Request)). v.items) (at_one places caller b a at_b at_a) ∙ sym (append-nil a.items);
}

-- what stands at a place once another is set there
set_at_else : (places : List (Vec (ℕ × Request))) (at caller : ℕ) (now a b : Vec (ℕ × Request)) → caller ≢ at → IsAt places caller a → IsAt (set places at now) caller b → b ≡ a
set_at_else places at caller now a b other at_a at_b =
    ⊎_elim
    (λ (t : (caller ≡ at) × (now ≡ b)). absurd (other t.0))
    (λ (t : (caller ≢ at) × IsAt places caller b). at_one places caller b a t.1 at_a)
    (at_set places at caller now b at_b)

-- a request that is set behind those of its caller
pub set_gains : (number : ℕ) (request : Request) (places : List (Vec (ℕ × Request))) (was now : Vec (ℕ × Request)) → MayWait (Ok request) → IsAt places request.caller was → now.items ≡ was.items ++ (number, request) ∷ []
    → Gains (λ (caller : ℕ). own caller number (Ok request)) places (set places request.caller now)
set_gains number request places was now may there items = record {
  many = length-set places request.caller now;
  each = λ caller a b at_a at_b.
      ⊎_elim
      (λ (o : (caller ≡ request.caller) × (own caller number (Ok request) ≡ (number, request) ∷ [])).
      let b_is : b ≡ now = at_one (set places request.caller now) request.caller b now (subst (λ (c : ℕ). IsAt (set places request.caller now) c b) o.0 at_b) (at_here places request.caller now (at_below places request.caller was there)) in
      let a_is : a ≡ was = at_one places request.caller a was (subst (λ (c : ℕ). IsAt places c a) o.0 at_a) there in
      ap (λ (v : Vec (ℕ × Request)). v.items) b_is ∙ items ∙ ap (λ (v : Vec (ℕ × Request)). v.items ++ (number, request) ∷ []) (sym a_is) ∙ ap (λ (l : List (ℕ × Request)). a.items ++ l) (sym o.1))
      (λ (o : (caller ≢ request.caller) × (own caller number (Ok request) ≡ [])).
      ap (λ (v : Vec (ℕ × Request)). v.items) (set_at_else places request.caller caller now a b o.0 at_a at_b) ∙ sym (append-nil a.items) ∙ ap (λ (l : List (ℕ × Request)). a.items ++ l) (sym o.1))
      (own_put caller number request may);
}

-- where the requests of a caller stay
pub set_stays : (at : ℕ) (places : List (Vec (ℕ × Request))) (was now : Vec (ℕ × Request)) → IsAt places at was → now.items ≡ was.items → Gains (λ (caller : ℕ). []) places (set places at now)
set_stays at places was now there items = record {
  many = length-set places at now;
  each = λ caller a b at_a at_b.
      ⊎_elim
      (λ (same : caller ≡ at).
      let b_is : b ≡ now = at_one (set places at now) at b now (subst (λ (c : ℕ). IsAt (set places at now) c b) same at_b) (at_here places at now (at_below places at was there)) in
      let a_is : a ≡ was = at_one places at a was (subst (λ (c : ℕ). IsAt places c a) same at_a) there in
      ap (λ (v : Vec (ℕ × Request)). v.items) b_is ∙ items ∙ ap (λ (v : Vec (ℕ × Request)). v.items) (sym a_is) ∙ sym (append-nil a.items))
      (λ (other : caller ≢ at). ap (λ (v : Vec (ℕ × Request)). v.items) (set_at_else places at caller now a b other at_a at_b) ∙ sym (append-nil a.items))
      (same_or caller at);
}

-- what is read within the list stands there
pub at_read : {A : Type 0} (xs : List A) (at : ℕ) (x : A) → at < length xs → x ≡ get_or xs at x → IsAt xs at x
at_read xs at x low is = let p = at_some xs at low in subst (IsAt xs at) (sym (at_get xs at p.0 x p.1) ∙ sym is) p.1

pub at_default : {A : Type 0} (xs : List A) (at : ℕ) (d : A) → at < length xs → IsAt xs at (get_or xs at d)
at_default xs at d low = let p = at_some xs at low in subst (IsAt xs at) (sym (at_get xs at p.0 d p.1)) p.1

-- what holds anyway holds where a call failed
pub on_err_any : {T E Q : Type 0} (r : Result T E) → Q → OnErr r Q
on_err_any (Ok x) q = tt
on_err_any (Err e) q = q
