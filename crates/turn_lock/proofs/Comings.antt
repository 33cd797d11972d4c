-- How the lock begins and ends, and how seats come and go.
use Rattle.std.proofs.Common.{◌≡◌, ℕ, zero, suc, ◌+◌, ◌<◌, ◌≤◌, ◌≢◌, List, [], ◌∷◌, ◌++◌, map, length, get_or, drop, set, replicate, sym, refl, ap, ◌∙◌, subst, arith, length-append}
use Rattle.std.proofs.lemmas.List.{map-set, get_or_append_left, get_or-replicate}
use mathlib.Core.Option.{none, some, some-injective, some-ne-none}
use mathlib.Core.Option as maybe
use mathlib.Core.List.{map-append}
use lib.ListN.{get_elem?, length-map, length-replicate}
use lib.Seq.{drop-append_seam}
use Rattle.std.specs.Prelude.{Option, Some, None}
use Rattle.atomic_table.specs.Table.{Splits, Joins, opening, Final, Seen}
use Rattle.atomic_table.proofs.Lists.{at_map}
use Rattle.turn_lock.specs.Client.{Homes, all_home, Forks, Merges, AllHome, Ended}
use Rattle.turn_lock.specs.declared.tickets.Doing.{Doing}
use Rattle.turn_lock.specs.declared.tickets.Ticket.{Ticket}
use Rattle.turn_lock.specs.Tickets.{client, doing, Has, IsPlaced, Ticketed}
use Rattle.turn_lock.proofs.Entries.{has_more}
use Rattle.turn_lock.proofs.Lines.{lined_same, lined_more}

nobody : {C : Type 0} (v : C) (j a : ℕ) (t : Ticket) → Has (doing [] v ∷ []) j a t → ⊥
nobody {C} v j a t h = let x = has_more [] (doing [] v) j a t refl h in some-ne-none x.0 (sym x.1)

placed_first : {S C : Type 0} (ds : List (Doing C)) (xs : List S) (k j : ℕ) (h : maybe.Option (Option S)) → get_elem? (map some (map Some xs)) k ≡ some h → IsPlaced ds j h
placed_first ds [] k j h e = absurd (some-ne-none h (sym e))
placed_first ds (x ∷ xs) zero j h e = subst (IsPlaced ds j) (some-injective (some (Some x)) h e) tt
placed_first ds (x ∷ xs) (suc k) j h e = placed_first ds xs k j h e

all_first : {S : Type 0} (xs : List S) → map some (map Some xs) ≡ all_home xs
all_first [] = refl
all_first (x ∷ xs) = ap (λ l. some (Some x) ∷ l) (all_first xs)

-- where each value is at home, the homes are some list of values
all_in : {S : Type 0} (hs : Homes S) → ((k : ℕ) (h : maybe.Option (Option S)) → get_elem? hs k ≡ some h → (x : S) × (h ≡ some (Some x))) → (xs : List S) × (hs ≡ all_home xs)
all_in [] each = ([], refl)
all_in (h ∷ hs) each = let x = each 0 h refl in let r = all_in hs (λ k. each (suc k)) in (x.0 ∷ r.0, λ i. x.1 i ∷ r.1 i)

same_values : {S : Type 0} (xs : List S) (ys : List (Option S)) → length (all_home xs) ≡ length ys → ((k : ℕ) (y : Option S) → get_elem? (all_home xs) k ≡ some (some y) → get_elem? ys k ≡ some y) → ys ≡ map Some xs
same_values [] [] long each = refl
same_values [] (y ∷ ys) long each = absurd (omega arith)
same_values (x ∷ xs) [] long each = absurd (omega arith)
same_values (x ∷ xs) (y ∷ ys) long each = let e = some-injective y (Some x) (each 0 (Some x) refl) in let r = same_values xs ys (omega arith) (λ k. each (suc k)) in λ i. e i ∷ r i

module _ {S C : Type 0} (holds : List ℕ → Homes S → List C → Type 0) where
  pub forks : (id : ℕ) (d : Doing C) (l k : C) → Forks holds id d.client l k → Splits (Ticketed holds) id d (doing d.tickets l) (doing [] k)
  forks id d l k law s r at = let w : Doing C = doing d.tickets l in let vs : List (Doing C) = set s.views id w in let one : map client vs ≡ set (map client s.views) id l = map-set client s.views id w in record {
    slots = r.slots;
    lined = lined_more r.slots s.words s.homes vs (lined_same r.slots s.words s.homes s.views r.lined id d w at refl) (doing [] k) refl;
    kept = subst (holds (drop (r.slots + r.slots) s.words) s.homes) (sym (map-append client vs (doing [] k ∷ []) ∙ ap (λ (us : List C). us ++ k ∷ []) one))
        (law (drop (r.slots + r.slots) s.words) s.homes (map client s.views) r.kept (at_map client s.views id d at));
  }

  pub merges : (id : ℕ) (d : Doing C) (other : ℕ) (e : Doing C) (both spent : C) → e.tickets ≡ [] → Merges holds id d.client other e.client both spent
      → Joins (Ticketed holds) id d other e (doing d.tickets both) (doing [] spent)
  merges id d other e both spent bare law s r at two at' = let w : Doing C = doing d.tickets both in let vs : List (Doing C) = set s.views id w in let one : map client vs ≡ set (map client s.views) id both = map-set client s.views id w in record {
    slots = r.slots;
    lined = lined_same r.slots s.words s.homes vs (lined_same r.slots s.words s.homes s.views r.lined id d w at refl) other e (doing [] spent) at' (sym bare);
    kept = subst (holds (drop (r.slots + r.slots) s.words) s.homes) (sym (map-set client vs other (doing [] spent) ∙ ap (λ (us : List C). set us other spent) one))
        (law (drop (r.slots + r.slots) s.words) s.homes (map client s.views) r.kept (at_map client s.views id d at) two (subst (λ (us : List C). get_elem? us other ≡ some e.client) one (at_map client vs other e at')));
  }

  pub starts : (ws own : List ℕ) (xs : List S) (v : C) → length xs + length xs ≤ length ws → ((k : ℕ) → k < length xs + length xs → get_or ws k 0 ≡ 0) → drop (length xs + length xs) ws ≡ own
      → holds own (all_home xs) (v ∷ []) → Ticketed holds (opening ws (map Some xs) (doing [] v))
  starts ws own xs v wide blank is first = let n : ℕ = length xs in record {
    slots = n;
    lined = record {
      many = length-map (map Some xs) some ∙ length-map xs Some;
      wide = wide;
      sits = λ j a t h. absurd (nobody v j a t h);
      held = λ k m near from to. let a = blank k (omega arith) in absurd (omega arith);
      apart = λ i j a b t u p q. absurd (nobody v i a t p);
      ordered = λ k near. let a = blank k (omega arith) in let b = blank (n + k) (omega arith) in omega arith;
      placed = λ k h e. placed_first (doing [] v ∷ []) xs k k h e;
    };
    kept = subst (λ (z : List ℕ × Homes S). holds z.0 z.1 (v ∷ [])) (λ j. (sym is j, sym (all_first xs) j)) first;
  }

  -- the lock as `new` lays it out
  pub opens : (row own : List ℕ) (xs : List S) (ys : List (Option S)) (n : ℕ) (v : C) → n ≡ length xs → row ≡ replicate (n + n) 0 ++ own → ys ≡ map Some xs → holds own (all_home xs) (v ∷ [])
      → Ticketed holds (opening row ys (doing [] v))
  opens row own xs ys n v count laid moved first = let m : ℕ = length xs in let zeros : List ℕ = replicate (m + m) 0 in let size : length zeros ≡ m + m = length-replicate (m + m) 0 in
      let is : row ≡ zeros ++ own = laid ∙ ap (λ (z : ℕ). replicate (z + z) 0 ++ own) count in
      subst (λ (z : List ℕ × List (Option S)). Ticketed holds (opening z.0 z.1 (doing [] v))) (λ j. (sym is j, sym moved j))
      (starts (zeros ++ own) own xs v (let e = length-append zeros own in omega arith) (λ k near. get_or_append_left zeros own 0 k (omega arith) ∙ get_or-replicate (m + m) k 0 0 near)
      (ap (λ (z : ℕ). drop z (zeros ++ own)) (sym size) ∙ drop-append_seam zeros own) first)

  home_at : (ds : List (Doing C)) (k : ℕ) (h : maybe.Option (Option S)) → h ≢ none → IsPlaced ds k h → (x : S) × (h ≡ some (Some x))
  home_at ds k none ne p = absurd (ne refl)
  home_at ds k (some None) ne p = absurd p
  home_at ds k (some (Some x)) ne p = (x, refl)

  pub ends : (id : ℕ) (d : Doing C) (ws : List ℕ) (ys : List (Option S)) (n : ℕ) → AllHome holds id d.client → Final (Seen (Ticketed holds) id d) ws ys → length ys ≡ n
      → (xs : List S) × (ys ≡ map Some xs) × Ended holds id d.client (drop (n + n) ws) xs
  ends id d ws ys n law f long = let s = f.0 in let r = f.1.0 in let at = f.1.1 in let cs : List C = map client s.views in let mine = at_map client s.views id d at in
      let sz : r.slots ≡ n = sym r.lined.many ∙ f.3 ∙ long in
      let away = law (drop (r.slots + r.slots) s.words) s.homes cs r.kept mine in
      let all = all_in s.homes (λ k h e. home_at s.views k h (λ is. away k (e ∙ ap some is)) (r.lined.placed k h e)) in let xs = all.0 in
      let vals = subst (λ (hs : Homes S). (length hs ≡ length ys) × ((k : ℕ) (y : Option S) → get_elem? hs k ≡ some (some y) → get_elem? ys k ≡ some y)) all.1 (f.3, f.4) in
      (xs, same_values xs ys vals.0 vals.1, (cs, subst (λ (z : List ℕ × Homes S). holds z.0 z.1 cs) (λ j. (ap (λ (m : ℕ × List ℕ). drop (m.0 + m.0) m.1) (λ i. (sz i, f.2 i)) j, all.1 j)) r.kept, mine))
