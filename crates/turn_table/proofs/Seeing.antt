-- What seats have seen, and the values at home, at each step.
use Rattle.std.proofs.Common.{◌≡◌, ℕ, ◌+◌, ◌<◌, ◌≤◌, ◌≢◌, true, List, [], ◌∷◌, length, set, drop, Option, Some, ap, sym, ◌∙◌, subst, ⊎_elim, arith, length-set, get_or-set_same, get_or-set_other}
use mathlib.Core.Option.{none, some, some-injective, some-ne-none}
use mathlib.Core.Option as maybe
use lib.ListN.{get_elem?}
use Rattle.turn_lock.specs.Client.{Homes, IsHome, IsOut}
use Rattle.turn_facts.specs.Counts.{count, Among, total}
use Rattle.turn_facts.specs.Prefixes.{StartsWith, IsAt}
use Rattle.turn_facts.proofs.Counts.{count-here, count-else}
use Rattle.turn_facts.proofs.Places.{same_or, at_set, at_below, at_here, at_else, each_set, each_set_else, some_set, put_here, put_else}
use Rattle.turn_facts.proofs.Prefixes.{starts_all, starts_trans}
use Rattle.turn_facts.proofs.Totals.{total_set, total_two}
use Rattle.turn_table.specs.declared.knows.Know.{Know}
use Rattle.turn_table.specs.Knowledge.{at_slot, entered, counted, left}
use Rattle.turn_table.specs.Rule.{Truth, SeesAll, IsNewest, Shown, gone, grown_truth}

module _ {S N B : Type 0} (journal : S → List N) (base : S → B) where
  -- a step that changes nothing of this part
  pub shown_kept : {t : Truth N B} {hs : Homes S} {vs : List (Know N B)} (id : ℕ) (v w : Know N B) → Shown journal base t hs vs → IsAt vs id v
      → (SeesAll t (length hs) v → SeesAll t (length hs) w) → ((k : ℕ) → IsNewest t k v → IsNewest t k w) → ((k : ℕ) → count k w.inside ≡ count k v.inside)
      → Shown journal base t hs (set vs id w)
  shown_kept {t} {hs} {vs} id v w s e p q r = record {
    home = s.home;
    based = s.based;
    begun = s.begun;
    views = each_set (SeesAll t (length hs)) vs id w s.views (p (s.views id v e));
    newest = λ k h. let n = s.newest k h in some_set (IsNewest t k) vs id v w e (q k) n.0 n.1 n.2 n.3;
    insides = λ k. let f : Know N B → ℕ = λ u. count k u.inside in let a : total f (set vs id w) + f v ≡ total f vs + f w = total_set f vs id v w e in let b : count k w.inside ≡ count k v.inside = r k in let c : total f vs ≡ gone (get_elem? hs k) = s.insides k in let d : total f (set vs id w) ≡ total f vs = omega arith in d ∙ c;
  }

  gone_home : {h : maybe.Option (maybe.Option (Option S))} (x : S) → h ≡ some (some (Some x)) → gone h ≡ 0
  gone_home x e = ap gone e

  -- the seat takes the value of the slot k
  pub shown_enters : {t : Truth N B} {hs : Homes S} {vs : List (Know N B)} (id : ℕ) (v : Know N B) (k : ℕ) (x : S) → Shown journal base t hs vs → IsAt vs id v → v.live ≡ true → IsHome hs k x
      → Shown journal base t (set hs k none) (set vs id (entered v k (journal x)))
  shown_enters {t} {hs} {vs} id v k x s e live h =
      let w : Know N B = entered v k (journal x) in
      let sv : SeesAll t (length hs) v = s.views id v e in
      let here : k < length hs = at_below hs k (some (Some x)) h in
      let here' : k < length v.seen = let l : length v.seen ≡ length hs = sv.long live in omega arith in
      let j_is : journal x ≡ t.journals k = (s.home k x h).0 in
      let same_len : length (set hs k none) ≡ length hs = length-set hs k none in
      let seen_k : at_slot w.seen k ≡ journal x = get_or-set_same v.seen k (journal x) [] here' in
      let seen_else : (j : ℕ) → j ≢ k → at_slot w.seen j ≡ at_slot v.seen j = λ j ne. get_or-set_other v.seen k j (journal x) [] ne in
      let newest_w : (j : ℕ) → IsNewest t j v → IsNewest t j w = λ j n. (live, ⊎_elim (λ (p : j ≡ k). let P : ℕ → Type 0 = λ m. at_slot w.seen m ≡ t.journals m in subst P (sym p) (seen_k ∙ j_is)) (λ (p : j ≢ k). seen_else j p ∙ n.1) (same_or j k)) in
      let sw : SeesAll t (length hs) w = record {
        long = λ l. length-set v.seen k (journal x) ∙ sv.long l;
        told = sv.told;
        front = λ j. ⊎_elim (λ (p : j ≡ k). let P : ℕ → Type 0 = λ m. StartsWith (t.journals m) (at_slot w.seen m) in let Q : List N → Type 0 = λ m. StartsWith (t.journals k) m in subst P (sym p) (subst Q (sym (seen_k ∙ j_is)) (starts_all (t.journals k))))
            (λ (p : j ≢ k). let Q : List N → Type 0 = λ m. StartsWith (t.journals j) m in subst Q (sym (seen_else j p)) (sv.front j)) (same_or j k);
        inside = λ j a. (
          live,
          ⊎_elim (λ (p : j ≡ k). let P : ℕ → Type 0 = λ m. at_slot w.seen m ≡ t.journals m in subst P (sym p) (seen_k ∙ j_is))
              (λ (p : j ≢ k). let c : count j (k ∷ v.inside) ≡ count j v.inside = count-else j k v.inside (λ q. p (sym q)) in let a' : Among j v.inside = omega arith in seen_else j p ∙ (sv.inside j a').1) (same_or j k),
        );
      } in
      record {
        home = λ j y hy. ⊎_elim (λ p. absurd (some-ne-none (Some y) (sym p.1))) (λ p. s.home j y p.1) (at_set hs k j none (some (Some y)) hy);
        based = s.based ∙ sym same_len;
        begun = s.begun ∙ sym same_len;
        views = let P : ℕ → Type 0 = λ n. (j : ℕ) (u : Know N B) → IsAt (set vs id w) j u → SeesAll t n u in subst P (sym same_len) (each_set (SeesAll t (length hs)) vs id w s.views sw);
        newest = λ j below. let n = s.newest j (omega arith) in some_set (IsNewest t j) vs id v w e (newest_w j) n.0 n.1 n.2 n.3;
        insides = λ j. let f : Know N B → ℕ = λ u. count j u.inside in let a : total f (set vs id w) + f v ≡ total f vs + f w = total_set f vs id v w e in let c : total f vs ≡ gone (get_elem? hs j) = s.insides j in
            ⊎_elim (λ (p : j ≡ k). let P : ℕ → Type 0 = λ m. total (λ (u : Know N B). count m u.inside) (set vs id w) ≡ gone (get_elem? (set hs k none) m) in
            subst P (sym p) (let f' : Know N B → ℕ = λ u. count k u.inside in let a' : total f' (set vs id w) + f' v ≡ total f' vs + f' w = total_set f' vs id v w e in let c' : total f' vs ≡ gone (get_elem? hs k) = s.insides k in let g : gone (get_elem? hs k) ≡ 0 = ap gone h in let g' : gone (get_elem? (set hs k none) k) ≡ 1 = ap gone (at_here hs k none here) in let b : count k (k ∷ v.inside) ≡ 1 + count k v.inside = count-here k v.inside in omega arith))
            (λ (p : j ≢ k). let b : count j (k ∷ v.inside) ≡ count j v.inside = count-else j k v.inside (λ q. p (sym q)) in let g : gone (get_elem? (set hs k none) j) ≡ gone (get_elem? hs j) = ap gone (at_else hs k j none p) in omega arith) (same_or j k);
      }

  -- the journal of the slot k, whose value is out with the seat, becomes l
  pub shown_counts : {t : Truth N B} {hs : Homes S} {vs : List (Know N B)} (id : ℕ) (v : Know N B) (k : ℕ) (l : List N) → Shown journal base t hs vs → IsAt vs id v → v.live ≡ true → IsOut hs k → Among k v.inside → StartsWith l (t.journals k)
      → Shown journal base (grown_truth t k l) hs (set vs id (counted v k l))
  shown_counts {t} {hs} {vs} id v k l s e live out ins more =
      let w : Know N B = counted v k l in
      let t' : Truth N B = grown_truth t k l in
      let sv : SeesAll t (length hs) v = s.views id v e in
      let here : k < length hs = at_below hs k none out in
      let here' : k < length v.seen = let m : length v.seen ≡ length hs = sv.long live in omega arith in
      let now : t'.journals k ≡ l = put_here t.journals k l in
      let same : (j : ℕ) → j ≢ k → t'.journals j ≡ t.journals j = λ j ne. put_else t.journals k l j ne in
      let seen_k : at_slot w.seen k ≡ l = get_or-set_same v.seen k l [] here' in
      let seen_else : (j : ℕ) → j ≢ k → at_slot w.seen j ≡ at_slot v.seen j = λ j ne. get_or-set_other v.seen k j l [] ne in
      let newest_w : (j : ℕ) → (j ≢ k) → IsNewest t j v → IsNewest t' j w = λ j ne n. (live, seen_else j ne ∙ n.1 ∙ sym (same j ne)) in
      let newest_k : IsNewest t' k w = (live, seen_k ∙ sym now) in
      let front : (j : ℕ) (m : List N) → StartsWith (t.journals j) m → StartsWith (t'.journals j) m = λ j m st.
      ⊎_elim (λ (p : j ≡ k). let P : ℕ → Type 0 = λ i. StartsWith (t'.journals i) m in let Q : List N → Type 0 = λ i. StartsWith i m in let st' : StartsWith (t.journals k) m = let R : ℕ → Type 0 = λ i. StartsWith (t.journals i) m in subst R p st in subst P (sym p) (subst Q (sym now) (starts_trans more st')))
      (λ (p : j ≢ k). let Q : List N → Type 0 = λ i. StartsWith i m in subst Q (sym (same j p)) st) (same_or j k) in
      let alone : (j : ℕ) (u : Know N B) → j ≢ id → IsAt vs j u → Among k u.inside → ⊥ = λ j u ne at a. let f : Know N B → ℕ = λ y. count k y.inside in let two : f u + f v ≤ total f vs = total_two f vs j id u v at e ne in let g : gone (get_elem? hs k) ≡ 1 = ap gone out in let c : total f vs ≡ gone (get_elem? hs k) = s.insides k in omega arith in
      let others : (j : ℕ) (u : Know N B) → j ≢ id → IsAt vs j u → SeesAll t' (length hs) u = λ j u ne at. let su : SeesAll t (length hs) u = s.views j u at in record {
        long = su.long;
        told = su.told;
        front = λ i. front i (at_slot u.seen i) (su.front i);
        inside = λ i a. let b = su.inside i a in (b.0, ⊎_elim (λ (p : i ≡ k). absurd (alone j u ne at (let P : ℕ → Type 0 = λ m. Among m u.inside in subst P p a))) (λ (p : i ≢ k). b.1 ∙ sym (same i p)) (same_or i k));
      } in
      let sw : SeesAll t' (length hs) w = record {
        long = λ li. length-set v.seen k l ∙ sv.long li;
        told = sv.told;
        front = λ j. ⊎_elim (λ (p : j ≡ k). let P : ℕ → Type 0 = λ i. StartsWith (t'.journals i) (at_slot w.seen i) in let Q : List N → Type 0 = λ i. StartsWith i (at_slot w.seen k) in let R : List N → Type 0 = λ i. StartsWith l i in subst P (sym p) (subst Q (sym now) (subst R (sym seen_k) (starts_all l))))
            (λ (p : j ≢ k). let Q : List N → Type 0 = λ i. StartsWith (t'.journals j) i in subst Q (sym (seen_else j p)) (front j (at_slot v.seen j) (sv.front j))) (same_or j k);
        inside = λ j a. ⊎_elim (λ (p : j ≡ k). let P : ℕ → Type 0 = λ i. (v.live ≡ true) × (at_slot w.seen i ≡ t'.journals i) in subst P (sym p) newest_k) (λ (p : j ≢ k). newest_w j p (sv.inside j a)) (same_or j k);
      } in
      record {
        home = λ j y hy. ⊎_elim (λ (p : j ≡ k). absurd (some-ne-none (Some y) (some-injective (some (Some y)) none (let q : get_elem? hs j ≡ some none = subst (λ (i : ℕ). get_elem? hs i ≡ some none) (sym p) out in sym hy ∙ q)))) (λ (p : j ≢ k). let h = s.home j y hy in (h.0 ∙ sym (same j p), h.1)) (same_or j k);
        based = s.based;
        begun = s.begun;
        views = each_set_else (SeesAll t' (length hs)) vs id w others sw;
        newest = λ j below. ⊎_elim (λ (p : j ≡ k). (id, w, at_here vs id w (at_below vs id v e), (let P : ℕ → Type 0 = λ i. IsNewest t' i w in subst P (sym p) newest_k)))
            (λ (p : j ≢ k). let n = s.newest j below in some_set (IsNewest t' j) vs id v w e (λ q. newest_w j p (q.0, q.1 ∙ same j p)) n.0 n.1 n.2 (n.3.0, n.3.1 ∙ sym (same j p))) (same_or j k);
        insides = λ j. let f : Know N B → ℕ = λ u. count j u.inside in let a : total f (set vs id w) + f v ≡ total f vs + f w = total_set f vs id v w e in let c : total f vs ≡ gone (get_elem? hs j) = s.insides j in omega arith;
      }

  -- the seat gives the value of the slot k back, with the journal that it has seen
  pub shown_leaves : {t : Truth N B} {hs : Homes S} {vs : List (Know N B)} (id : ℕ) (v : Know N B) (k : ℕ) (y : S) → Shown journal base t hs vs → IsAt vs id v → IsOut hs k → v.inside ≡ k ∷ drop 1 v.inside → journal y ≡ at_slot v.seen k → IsAt v.bases k (base y)
      → Shown journal base t (set hs k (some (Some y))) (set vs id (left v))
  shown_leaves {t} {hs} {vs} id v k y s e out ins j_is b_is =
      let w : Know N B = left v in
      let sv : SeesAll t (length hs) v = s.views id v e in
      let here : k < length hs = at_below hs k none out in
      let same_len : length (set hs k (some (Some y))) ≡ length hs = length-set hs k (some (Some y)) in
      let fewer : (j : ℕ) → Among j w.inside → Among j v.inside = λ j a. let c : count j v.inside ≡ count j (k ∷ w.inside) = ap (count j) ins in
      ⊎_elim (λ (p : k ≡ j). let P : ℕ → Type 0 = λ i. count j (i ∷ w.inside) ≡ 1 + count j w.inside in let d : count j (k ∷ w.inside) ≡ 1 + count j w.inside = subst P (sym p) (count-here j w.inside) in omega arith) (λ (p : k ≢ j). let d : count j (k ∷ w.inside) ≡ count j w.inside = count-else j k w.inside p in omega arith) (same_or k j) in
      let ins_k : Among k v.inside = let c : count k v.inside ≡ count k (k ∷ w.inside) = ap (count k) ins in let d : count k (k ∷ w.inside) ≡ 1 + count k w.inside = count-here k w.inside in omega arith in
      let at_k = sv.inside k ins_k in
      let sw : SeesAll t (length hs) w = record { long = sv.long; told = sv.told; front = sv.front; inside = λ j a. sv.inside j (fewer j a) } in
      record {
        home = λ j x hx. ⊎_elim (λ p. let same : y ≡ x = cc p.1 in
            let P : S → Type 0 = λ i. (journal i ≡ t.journals k) × IsAt t.bases k (base i) in let Q : ℕ → Type 0 = λ i. (journal x ≡ t.journals i) × IsAt t.bases i (base x) in
            subst Q (sym p.0) (subst P same (j_is ∙ at_k.1, (let R : List B → Type 0 = λ i. IsAt i k (base y) in subst R (sv.told at_k.0).0 b_is))))
            (λ p. s.home j x p.1) (at_set hs k j (some (Some y)) (some (Some x)) hx);
        based = s.based ∙ sym same_len;
        begun = s.begun ∙ sym same_len;
        views = let P : ℕ → Type 0 = λ n. (j : ℕ) (u : Know N B) → IsAt (set vs id w) j u → SeesAll t n u in subst P (sym same_len) (each_set (SeesAll t (length hs)) vs id w s.views sw);
        newest = λ j below. let n = s.newest j (omega arith) in some_set (IsNewest t j) vs id v w e (λ q. q) n.0 n.1 n.2 n.3;
        insides = λ j. let f : Know N B → ℕ = λ u. count j u.inside in let a : total f (set vs id w) + f v ≡ total f vs + f w = total_set f vs id v w e in let c : total f vs ≡ gone (get_elem? hs j) = s.insides j in let i : count j v.inside ≡ count j (k ∷ w.inside) = ap (count j) ins in
            ⊎_elim (λ (p : j ≡ k). let P : ℕ → Type 0 = λ m. total (λ (u : Know N B). count m u.inside) (set vs id w) ≡ gone (get_elem? (set hs k (some (Some y))) m) in
            subst P (sym p) (let f' : Know N B → ℕ = λ u. count k u.inside in let a' : total f' (set vs id w) + f' v ≡ total f' vs + f' w = total_set f' vs id v w e in let c' : total f' vs ≡ gone (get_elem? hs k) = s.insides k in let g : gone (get_elem? hs k) ≡ 1 = ap gone out in let g' : gone (get_elem? (set hs k (some (Some y))) k) ≡ 0 = ap gone (at_here hs k (some (Some y)) here) in let i' : count k v.inside ≡ count k (k ∷ w.inside) = ap (count k) ins in let b : count k (k ∷ w.inside) ≡ 1 + count k w.inside = count-here k w.inside in omega arith))
            (λ (p : j ≢ k). let b : count j (k ∷ w.inside) ≡ count j w.inside = count-else j k w.inside (λ q. p (sym q)) in let g : gone (get_elem? (set hs k (some (Some y))) j) ≡ gone (get_elem? hs j) = ap gone (at_else hs k j (some (Some y)) p) in omega arith) (same_or j k);
      }
