-- A work for each caller that asks.
use Rattle.std.proofs.Common.{◌≡◌, ◌≢◌, ◌⊎◌, ℕ, ◌+◌, ◌<◌, ◌≤◌, List, [], ◌∷◌, ◌++◌, length, map, refl, ap, sym, ◌∙◌, subst, inl, inr, ⊎_elim, arith}
use Rattle.std.specs.Global.{Vec}
use Rattle.std.proofs.lemmas.Bool.{cases_lt}
use Rattle.std.proofs.lemmas.List.{map-append, length_push}
use mathlib.Core.Option.{some-ne-none}
use Rattle.hybrid_time.specs.declared.times.Timestamp.{Timestamp}
use Rattle.request_lines.specs.declared.requests.Request.{Request}
use Rattle.turn_facts.specs.Counts.{count}
use Rattle.turn_facts.specs.Prefixes.{IsAt}
use Rattle.turn_facts.proofs.Counts.{count-nil, count-here, count-else, count-append}
use Rattle.turn_facts.proofs.Places.{same_or, at_more, at_below, at_longer, at_last, at_some}
use Rattle.phase_run.specs.declared.works.Work.{Work}
use Rattle.phase_lines.specs.declared.lines.PhaseLines.{PhaseLines}
use Rattle.phase_lines.specs.Waiting.{Read, AreHeld, AreWorks}
use Rattle.phase_lines.specs.Steps.{AreWorksOf}
use Rattle.phase_lines.proofs.Counting.{among_at}
use Rattle.phase_lines.proofs.Weaving.{none_above}

pub none_or : {A : Type 0} (xs : List A) → (xs ≡ []) ⊎ (xs ≢ [])
none_or [] = inl refl
none_or (x ∷ xs) = inr (λ e. cc)

abbrev pub caller_of_work : Work → ℕ
caller_of_work work = work.caller

pub works_none : (mine : List Timestamp) → AreWorksOf [] mine []
works_none mine = record {
  few = omega arith;
  each = λ i work at. absurd (some-ne-none work (sym at));
  apart = λ x. (let e : count x [] ≡ 0 = count-nil x in omega arith);
  all = λ caller place at some. absurd (some-ne-none place (sym at));
}

-- a caller that asks nothing
pub works_same : (places : List (Vec (ℕ × Request))) (place : Vec (ℕ × Request)) (mine : List Timestamp) (works : List Work) → place.items ≡ [] → AreWorksOf places mine works → AreWorksOf (places ++ place ∷ []) mine works
works_same places place mine works none w = record {
  few = (let a : length works ≤ length places = w.few in let b : length (places ++ place ∷ []) ≡ length places + 1 = length_push places place in omega arith);
  each = λ i work at. (at_longer places (place ∷ []) work.caller work.requests (w.each i work at).0, (w.each i work at).1);
  apart = w.apart;
  all = λ caller other at some.
      ⊎_elim
      (λ (t : IsAt places caller other). w.all caller other t some)
      (λ (t : (place ≡ other) × (caller ≡ length places)). absurd (some (ap (λ (v : Vec (ℕ × Request)). v.items) (sym t.0) ∙ none)))
      (at_more places place other caller at);
}

-- a caller that asks
pub works_more : (places : List (Vec (ℕ × Request))) (place : Vec (ℕ × Request)) (mine : List Timestamp) (works : List Work) (work : Work) → work.caller ≡ length places → work.requests ≡ place → IsAt mine work.caller work.mine → AreWorksOf places mine works
    → AreWorksOf (places ++ place ∷ []) mine (works ++ work ∷ [])
works_more places place mine works work caller_is requests_are mine_is w =
    let callers : map caller_of_work (works ++ work ∷ []) ≡ map caller_of_work works ++ work.caller ∷ [] = map-append caller_of_work works (work ∷ []) in
    let counted : (x : ℕ) → count x (map caller_of_work (works ++ work ∷ [])) ≡ count x (map caller_of_work works) + count x (work.caller ∷ []) = λ x. ap (count x) callers ∙ count-append x (map caller_of_work works) (work.caller ∷ []) in
    let own_place : IsAt (places ++ place ∷ []) work.caller work.requests = subst (λ (c : ℕ). IsAt (places ++ place ∷ []) c work.requests) (sym caller_is) (subst (IsAt (places ++ place ∷ []) (length places)) (sym requests_are) (at_last places place)) in
    record {
      few = (let a : length works ≤ length places = w.few in let b : length (places ++ place ∷ []) ≡ length places + 1 = length_push places place in let d : length (works ++ work ∷ []) ≡ length works + 1 = length_push works work in omega arith);
      each = λ i other at.
          ⊎_elim
          (λ (t : IsAt works i other). (at_longer places (place ∷ []) other.caller other.requests (w.each i other t).0, (w.each i other t).1))
          (λ (t : (work ≡ other) × (i ≡ length works)). subst (λ (o : Work). IsAt (places ++ place ∷ []) o.caller o.requests × IsAt mine o.caller o.mine) t.0 (own_place, mine_is))
          (at_more works work other i at);
      apart = λ x.
          let e : count x (map caller_of_work (works ++ work ∷ [])) ≡ count x (map caller_of_work works) + count x (work.caller ∷ []) = counted x in
          let nil : count x [] ≡ 0 = count-nil x in
          let once : count x (map caller_of_work works) ≤ 1 = w.apart x in
          ⊎_elim
          (λ (same : work.caller ≡ x).
          let one : count x (work.caller ∷ []) ≡ 1 + count x [] = ap (λ (n : ℕ). count x (n ∷ [])) same ∙ count-here x [] in
          ⊎_elim
          (λ (there : 0 < count x (map caller_of_work works)).
          let t = among_at caller_of_work works x (omega arith) in
          let low : t.1.caller < length places = at_below places t.1.caller t.1.requests (w.each t.0 t.1 t.2).0 in
          let is : t.1.caller ≡ x = t.3 in absurd (omega arith))
          (λ (none : count x (map caller_of_work works) ≤ 0). omega arith)
          (cases_lt 0 (count x (map caller_of_work works))))
          (λ (other : work.caller ≢ x). let zero_there : count x (work.caller ∷ []) ≡ count x [] = count-else x work.caller [] other in omega arith)
          (same_or work.caller x);
      all = λ caller other at some.
          let e : count caller (map caller_of_work (works ++ work ∷ [])) ≡ count caller (map caller_of_work works) + count caller (work.caller ∷ []) = counted caller in
          ⊎_elim
          (λ (t : IsAt places caller other). let among : 1 ≤ count caller (map caller_of_work works) = w.all caller other t some in omega arith)
          (λ (t : (place ≡ other) × (caller ≡ length places)).
          let one : count caller (work.caller ∷ []) ≡ 1 + count caller [] = ap (λ (n : ℕ). count caller (n ∷ [])) (caller_is ∙ sym t.1) ∙ count-here caller [] in omega arith)
          (at_more places place other caller at);
    }

-- one place more, whether its caller asks or not
pub works_next : (places : List (Vec (ℕ × Request))) (place : Vec (ℕ × Request)) (mine : List Timestamp) (works later : List Work) (caller : ℕ) (own : Timestamp) → caller ≡ length places → IsAt mine caller own
    → (place.items ≢ [] → later ≡ works ++ record { caller = caller; mine = own; requests = place } ∷ []) → (place.items ≡ [] → later ≡ works) → AreWorksOf places mine works → AreWorksOf (places ++ place ∷ []) mine later
works_next places place mine works later caller own caller_is mine_is asks silent w =
    ⊎_elim
    (λ (none : place.items ≡ []). subst (AreWorksOf (places ++ place ∷ []) mine) (sym (silent none)) (works_same places place mine works none w))
    (λ (some : place.items ≢ []). subst (AreWorksOf (places ++ place ∷ []) mine) (sym (asks some)) (works_more places place mine works (record { caller = caller; mine = own; requests = place }) caller_is refl mine_is w))
    (none_or place.items)

-- the works of lines that wait
pub works_are : (first : ℕ) (reads : List Read) (lines : PhaseLines) (mine : List Timestamp) (works : List Work) → AreHeld first reads lines → AreWorksOf lines.places.items mine works → AreWorks first reads mine works
works_are first reads lines mine works held w =
    let many : length lines.places.items ≡ 16 = held.many in
    record {
      few = (let few : length works ≤ length lines.places.items = w.few in omega arith);
      each = λ i work at. record {
        caller = (let low : work.caller < length lines.places.items = at_below lines.places.items work.caller work.requests (w.each i work at).0 in omega arith);
        requests = held.places work.caller work.requests (w.each i work at).0;
        mine_is = (w.each i work at).1;
      };
      apart = w.apart;
      all = λ caller some.
          ⊎_elim
          (λ (low : caller < 16).
          let p = at_some lines.places.items caller (omega arith) in
          w.all caller p.0 p.1 (λ none. some (sym (held.places caller p.0 p.1) ∙ none)))
          (λ (high : 16 ≤ caller). absurd (some (none_above caller first reads held.may high)))
          (cases_lt caller 16);
    }
