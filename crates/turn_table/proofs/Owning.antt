-- Whose notes they are, at each step.
use Rattle.std.proofs.Common.{◌≡◌, ℕ, zero, suc, ◌+◌, ◌<◌, ◌≤◌, ◌≢◌, Bool, true, false, cond, eqb, refl, List, [], ◌∷◌, ◌++◌, length, get_or, set, drop, ap, sym, ◌∙◌, subst, ⊎_elim, arith, get_or-set_same, get_or-set_other, true≢false}
use Rattle.std.proofs.lemmas.Bool.{cases_lt}
use mathlib.Core.Option.{some-injective, some-ne-none}
use Rattle.turn_facts.specs.Counts.{count, Among, total}
use Rattle.turn_facts.specs.Notes.{of}
use Rattle.turn_facts.specs.Prefixes.{StartsWith, IsAt, longer}
use Rattle.turn_facts.proofs.Counts.{count-nil, count-here, count-else, count-append}
use Rattle.turn_facts.proofs.Notes.{of-between}
use Rattle.turn_facts.proofs.Places.{same_or, at_else, each_set, each_more, each_set_else, put_here, put_else}
use Rattle.turn_facts.proofs.Prefixes.{longer_begins, longer_left, longer_right}
use Rattle.turn_facts.proofs.Totals.{total_set, total_two, total_least, total_cut, total_pair}
use Rattle.turn_table.specs.declared.knows.Know.{Know}
use Rattle.turn_table.specs.Knowledge.{at_slot, own, numbers, weight, part, counted, numbered, stayed, given, joined, spent}
use Rattle.turn_table.specs.Rule.{Truth, SeesAll, Owns, OwnsAll, Numbered, Grew, IsGrown, next_seat, grown_truth}
use Rattle.turn_table.proofs.Sharing.{at-longer_each}

pub count_three : (n : ℕ) (a b c : List ℕ) → count n (a ++ (b ++ c)) ≡ count n a + (count n b + count n c)
count_three n a b c = let p : count n (a ++ (b ++ c)) ≡ count n a + count n (b ++ c) = count-append n a (b ++ c) in let q : count n (b ++ c) ≡ count n b + count n c = count-append n b c in omega arith

each_of_two : {A : Type 0} (P : A → Type 0) (a b : A) → P a → P b → (i : ℕ) (c : A) → IsAt (a ∷ b ∷ []) i c → P c
each_of_two P a b p q zero c e = subst P (some-injective a c e) p
each_of_two P a b p q (suc zero) c e = subst P (some-injective b c e) q
each_of_two P a b p q (suc (suc i)) c e = absurd (some-ne-none c (sym e))

one_or_none : (b : Bool) → cond {A = ℕ} b 1 0 ≤ 1
one_or_none true = omega arith
one_or_none false = omega arith

count_le : (n : ℕ) (l : List ℕ) → count n l ≤ length l
unfolding count
count_le n [] = omega arith
count_le n (x ∷ l) = let h : count n l ≤ length l = count_le n l in let c : cond {A = ℕ} (eqb x n) 1 0 ≤ 1 = one_or_none (eqb x n) in omega arith

own_length : (b : Bool) (x : ℕ) → length (cond b (x ∷ []) []) ≡ cond {A = ℕ} b 1 0
own_length true x = refl
own_length false x = refl

module _ {N B : Type 0} where
  -- a seat without weight has no number
  pub weightless : (n : ℕ) (u : Know N B) → weight u ≡ 0 → count n (numbers u) ≡ 0
  weightless n u z =
      let a : count n (numbers u) ≡ count n (own u) + (count n u.spare + count n u.joined) = count_three n (own u) u.spare u.joined in
      let b : count n (own u) ≤ length (own u) = count_le n (own u) in
      let c : length (own u) ≡ cond {A = ℕ} u.live 1 0 = own_length u.live u.number in
      let d : count n u.spare ≤ length u.spare = count_le n u.spare in
      let e : count n u.joined ≤ length u.joined = count_le n u.joined in
      omega arith

  pub count-split : (n : ℕ) (v : Know N B) → v.live ≡ true → v.spare ≡ get_or v.spare 0 0 ∷ drop 1 v.spare → count n (numbers (stayed v)) + count n (numbers (given v)) ≡ count n (numbers v)
  count-split n v live sp =
      let x : ℕ = get_or v.spare 0 0 in
      let a : count n (numbers (stayed v)) ≡ count n (own v) + (count n (drop 1 v.spare) + count n v.joined) = count_three n (own v) (drop 1 v.spare) v.joined in
      let b : count n (numbers v) ≡ count n (own v) + (count n v.spare + count n v.joined) = count_three n (own v) v.spare v.joined in
      let d : count n v.spare ≡ count n (x ∷ drop 1 v.spare) = ap (count n) sp in
      let own_is : own (given v) ≡ x ∷ [] = ap (λ (b : Bool). cond b (x ∷ []) []) live in
      let c : count n (numbers (given v)) ≡ count n (own (given v)) + (count n [] + count n []) = count_three n (own (given v)) [] [] in
      let z : count n [] ≡ 0 = count-nil n in
      let f : count n (own (given v)) ≡ count n (x ∷ []) = ap (count n) own_is in
      let o : count n (x ∷ drop 1 v.spare) ≡ count n (x ∷ []) + count n (drop 1 v.spare) = count-append n (x ∷ []) (drop 1 v.spare) in
      omega arith

  -- a seat takes in what another has
  pub count-joined : (n : ℕ) (v w : Know N B) → count n (numbers (joined v w)) ≡ count n (numbers v) + count n (numbers w)
  count-joined n v w =
      let a : count n (numbers (joined v w)) ≡ count n (own v) + (count n (v.spare ++ w.spare) + count n (v.joined ++ (own w ++ w.joined))) = count_three n (own v) (v.spare ++ w.spare) (v.joined ++ (own w ++ w.joined)) in
      let b : count n (v.spare ++ w.spare) ≡ count n v.spare + count n w.spare = count-append n v.spare w.spare in
      let c : count n (v.joined ++ (own w ++ w.joined)) ≡ count n v.joined + (count n (own w) + count n w.joined) = count_three n v.joined (own w) w.joined in
      let d : count n (numbers v) ≡ count n (own v) + (count n v.spare + count n v.joined) = count_three n (own v) v.spare v.joined in
      let f : count n (numbers w) ≡ count n (own w) + (count n w.spare + count n w.joined) = count_three n (own w) w.spare w.joined in
      omega arith

module _ {N B : Type 0} (number : N → ℕ) where
  -- no number is at two seats, nor twice at one
  pub numbered_once : {t : Truth N B} {ws : List ℕ} {vs : List (Know N B)} → Numbered number t ws vs → (n : ℕ) → total (λ (u : Know N B). count n (numbers u)) vs ≤ 1
  numbered_once {t} {ws} {vs} s n = ⊎_elim (λ (h : n < next_seat ws). let a : total (λ (u : Know N B). count n (numbers u)) vs ≡ 1 = s.given n h in omega arith)
      (λ (h : next_seat ws ≤ n). let a : total (λ (u : Know N B). count n (numbers u)) vs ≡ 0 = s.unused n h in omega arith) (cases_lt n (next_seat ws))

  pub numbered_kept : {t : Truth N B} {ws : List ℕ} {vs : List (Know N B)} (ws' : List ℕ) (id : ℕ) (v w : Know N B) → Numbered number t ws vs → IsAt vs id v → next_seat ws' ≡ next_seat ws
      → (OwnsAll number t (next_seat ws) v → OwnsAll number t (next_seat ws) w) → ((n : ℕ) → count n (numbers w) ≡ count n (numbers v)) → Numbered number t ws' (set vs id w)
  numbered_kept {t} {ws} {vs} ws' id v w s e next p r =
      let same : (n : ℕ) → total (λ (u : Know N B). count n (numbers u)) (set vs id w) ≡ total (λ (u : Know N B). count n (numbers u)) vs = λ n. let f : Know N B → ℕ = λ u. count n (numbers u) in let a : total f (set vs id w) + f v ≡ total f vs + f w = total_set f vs id v w e in let b : f w ≡ f v = r n in omega arith in
      record {
        given = λ n h. same n ∙ s.given n (omega arith);
        unused = λ n h. same n ∙ s.unused n (omega arith);
        strange = λ k n h. s.strange k n (omega arith);
        views = let P : ℕ → Type 0 = λ m. (j : ℕ) (u : Know N B) → IsAt (set vs id w) j u → OwnsAll number t m u in subst P (sym next) (each_set (OwnsAll number t (next_seat ws)) vs id w s.views (p (s.views id v e)));
      }

  -- a seat that sees a whole journal sees all notes of its numbers
  pub owns_seen : {t : Truth N B} {next : ℕ} {live : Bool} {nums : List ℕ} {seen : List (List N)} (k : ℕ) (l : List N) → l ≡ t.journals k → k < length seen → Owns number t next live nums seen → Owns number t next live nums (set seen k l)
  owns_seen {t} {next} {live} {nums} {seen} k l is here o =
      let seen_k : at_slot (set seen k l) k ≡ t.journals k = get_or-set_same seen k l [] here ∙ is in
      let seen_else : (j : ℕ) → j ≢ k → at_slot (set seen k l) j ≡ at_slot seen j = λ j ne. get_or-set_other seen k j l [] ne in
      let one : (j n : ℕ) → (of number n (t.journals j) ≡ of number n (at_slot seen j)) → of number n (t.journals j) ≡ of number n (at_slot (set seen k l) j) = λ j n p.
      ⊎_elim (λ (q : j ≡ k). let P : ℕ → Type 0 = λ i. of number n (t.journals i) ≡ of number n (at_slot (set seen k l) i) in subst P (sym q) (ap (of number n) (sym seen_k))) (λ (q : j ≢ k). p ∙ ap (of number n) (sym (seen_else j q))) (same_or j k) in
      record { mine = λ j n a. one j n (o.mine j n a); fresh = λ li j n h. one j n (o.fresh li j n h) }

  -- a seat adds notes of its own number to the journal of the slot k
  pub numbered_counts : {t : Truth N B} {ws : List ℕ} {vs : List (Know N B)} (ws' : List ℕ) (id : ℕ) (v : Know N B) (k : ℕ) (l : List N) → Numbered number t ws vs → IsAt vs id v → v.live ≡ true → next_seat ws' ≡ next_seat ws → k < length v.seen
      → ((m : ℕ) → v.number ≢ m → of number m l ≡ of number m (t.journals k)) → Numbered number (grown_truth t k l) ws' (set vs id (counted v k l))
  numbered_counts {t} {ws} {vs} ws' id v k l s e live next here others =
      let w : Know N B = counted v k l in
      let t' : Truth N B = grown_truth t k l in
      let now : t'.journals k ≡ l = put_here t.journals k l in
      let same : (j : ℕ) → j ≢ k → t'.journals j ≡ t.journals j = λ j ne. put_else t.journals k l j ne in
      let mine : (n : ℕ) → v.number ≡ n → 1 ≤ count n (numbers v) = λ n p. let q : own v ≡ v.number ∷ [] = ap (λ (b : Bool). cond b (v.number ∷ []) []) live in let c : count n (numbers v) ≡ count n (own v) + (count n v.spare + count n v.joined) = count_three n (own v) v.spare v.joined in
      let P : ℕ → Type 0 = λ i. count i (i ∷ []) ≡ 1 + count i [] in let d : count n (v.number ∷ []) ≡ 1 + count n [] = subst (λ (i : ℕ). count n (i ∷ []) ≡ 1 + count n []) (sym p) (count-here n []) in let g : count n (own v) ≡ count n (v.number ∷ []) = ap (count n) q in omega arith in
      let grows : (i m : ℕ) (x : List N) → v.number ≢ m → of number m (t.journals i) ≡ of number m x → of number m (t'.journals i) ≡ of number m x = λ i m x ne p.
      ⊎_elim (λ (q : i ≡ k). let P : ℕ → Type 0 = λ a. of number m (t.journals a) ≡ of number m x in ap (λ (a : ℕ). of number m (t'.journals a)) q ∙ ap (of number m) now ∙ others m ne ∙ subst P q p) (λ (q : i ≢ k). ap (of number m) (same i q) ∙ p) (same_or i k) in
      let unlike : (n : ℕ) → next_seat ws ≤ n → v.number ≢ n = λ n h p. let f : Know N B → ℕ = λ u. count n (numbers u) in let z : total f vs ≡ 0 = s.unused n h in let y : f v ≤ total f vs = total_least f vs id v e in let x : 1 ≤ count n (numbers v) = mine n p in omega arith in
      let apart : (j : ℕ) (u : Know N B) (n : ℕ) → j ≢ id → IsAt vs j u → Among n (numbers u) → v.number ≢ n = λ j u n ne at a p. let f : Know N B → ℕ = λ y. count n (numbers y) in let two : f u + f v ≤ total f vs = total_two f vs j id u v at e ne in let o : total f vs ≤ 1 = numbered_once s n in let x : 1 ≤ count n (numbers v) = mine n p in omega arith in
      let rest : (j : ℕ) (u : Know N B) → j ≢ id → IsAt vs j u → OwnsAll number t' (next_seat ws) u = λ j u ne at. let o : OwnsAll number t (next_seat ws) u = s.views j u at in record {
        mine = λ i n a. grows i n (at_slot u.seen i) (apart j u n ne at a) (o.mine i n a);
        fresh = λ li i n h. grows i n (at_slot u.seen i) (unlike n h) (o.fresh li i n h);
      } in
      let ov : OwnsAll number t (next_seat ws) v = s.views id v e in
      let one : (i n : ℕ) → (of number n (t.journals i) ≡ of number n (at_slot v.seen i)) → of number n (t'.journals i) ≡ of number n (at_slot w.seen i) = λ i n p.
      ⊎_elim (λ (q : i ≡ k). let P : ℕ → Type 0 = λ a. of number n (t'.journals a) ≡ of number n (at_slot w.seen a) in subst P (sym q) (ap (of number n) (now ∙ sym (get_or-set_same v.seen k l [] here)))) (λ (q : i ≢ k). ap (of number n) (same i q) ∙ p ∙ ap (of number n) (sym (get_or-set_other v.seen k i l [] q))) (same_or i k) in
      let ow : OwnsAll number t' (next_seat ws) w = record { mine = λ i n a. one i n (ov.mine i n a); fresh = λ li i n h. one i n (ov.fresh li i n h) } in
      let equal : (n : ℕ) → total (λ (u : Know N B). count n (numbers u)) (set vs id w) ≡ total (λ (u : Know N B). count n (numbers u)) vs = λ n. let f : Know N B → ℕ = λ u. count n (numbers u) in let a : total f (set vs id w) + f v ≡ total f vs + f w = total_set f vs id v w e in omega arith in
      record {
        given = λ n h. equal n ∙ s.given n (omega arith);
        unused = λ n h. equal n ∙ s.unused n (omega arith);
        strange = λ i n h. let h' : next_seat ws ≤ n = omega arith in grows i n (at_slot t.origin i) (unlike n h') (s.strange i n h');
        views = let P : ℕ → Type 0 = λ m. (j : ℕ) (u : Know N B) → IsAt (set vs id w) j u → OwnsAll number t' m u in subst P (sym next) (each_set_else (OwnsAll number t' (next_seat ws)) vs id w rest ow);
      }

  -- the seat takes the next number of a seat
  pub numbered_numbers : {t : Truth N B} {ws : List ℕ} {vs : List (Know N B)} (ws' : List ℕ) (id : ℕ) (v : Know N B) → Numbered number t ws vs → IsAt vs id v → v.live ≡ true → next_seat ws' ≡ next_seat ws + 1 → Numbered number t ws' (set vs id (numbered v (next_seat ws)))
  numbered_numbers {t} {ws} {vs} ws' id v s e live next =
      let x : ℕ = next_seat ws in
      let w : Know N B = numbered v x in
      let more_here : count x (numbers w) ≡ 1 + count x (numbers v) = let a : count x (numbers w) ≡ count x (own v) + (count x (x ∷ v.spare) + count x v.joined) = count_three x (own v) (x ∷ v.spare) v.joined in let b : count x (numbers v) ≡ count x (own v) + (count x v.spare + count x v.joined) = count_three x (own v) v.spare v.joined in let c : count x (x ∷ v.spare) ≡ 1 + count x v.spare = count-here x v.spare in omega arith in
      let more_else : (n : ℕ) → x ≢ n → count n (numbers w) ≡ count n (numbers v) = λ n ne. let a : count n (numbers w) ≡ count n (own v) + (count n (x ∷ v.spare) + count n v.joined) = count_three n (own v) (x ∷ v.spare) v.joined in let b : count n (numbers v) ≡ count n (own v) + (count n v.spare + count n v.joined) = count_three n (own v) v.spare v.joined in let c : count n (x ∷ v.spare) ≡ count n v.spare = count-else n x v.spare ne in omega arith in
      let equal : (n : ℕ) → x ≢ n → total (λ (u : Know N B). count n (numbers u)) (set vs id w) ≡ total (λ (u : Know N B). count n (numbers u)) vs = λ n ne. let f : Know N B → ℕ = λ u. count n (numbers u) in let a : total f (set vs id w) + f v ≡ total f vs + f w = total_set f vs id v w e in let b : count n (numbers w) ≡ count n (numbers v) = more_else n ne in omega arith in
      let ov : OwnsAll number t x v = s.views id v e in
      let P : ℕ → Type 0 = λ m. (j : ℕ) (u : Know N B) → IsAt (set vs id w) j u → OwnsAll number t m u in
      record {
        given = λ n h. ⊎_elim (λ (p : x ≡ n). let Q : ℕ → Type 0 = λ m. total (λ (u : Know N B). count m (numbers u)) (set vs id w) ≡ 1 in subst Q p (let f : Know N B → ℕ = λ u. count x (numbers u) in let a : total f (set vs id w) + f v ≡ total f vs + f w = total_set f vs id v w e in let z : total f vs ≡ 0 = s.unused x (omega arith) in let b : f w ≡ 1 + f v = more_here in omega arith))
            (λ (p : x ≢ n). equal n p ∙ s.given n (omega arith)) (same_or x n);
        unused = λ n h. equal n (λ p. omega arith) ∙ s.unused n (omega arith);
        strange = λ k n h. s.strange k n (omega arith);
        views = subst P (sym next) (each_set (OwnsAll number t (x + 1)) vs id w
            (λ j u at. let o : OwnsAll number t x u = s.views j u at in record { mine = o.mine; fresh = λ li i n h. o.fresh li i n (omega arith) })
            record {
              mine = λ i n a. ⊎_elim (λ (p : x ≡ n). ov.fresh live i n (omega arith)) (λ (p : x ≢ n). let b : count n (numbers w) ≡ count n (numbers v) = more_else n p in ov.mine i n (omega arith)) (same_or x n);
              fresh = λ li i n h. ov.fresh li i n (omega arith);
            });
      }

  -- a seat is split off, with a number that the seat had to give away
  pub numbered_splits : {t : Truth N B} {ws : List ℕ} {vs : List (Know N B)} (id : ℕ) (v : Know N B) → Numbered number t ws vs → IsAt vs id v → v.live ≡ true → v.spare ≡ get_or v.spare 0 0 ∷ drop 1 v.spare → Numbered number t ws (set vs id (stayed v) ++ given v ∷ [])
  numbered_splits {t} {ws} {vs} id v s e live sp =
      let sum : (n : ℕ) → count n (numbers (stayed v)) + count n (numbers (given v)) ≡ count n (numbers v) = λ n. count-split n v live sp in
      let equal : (n : ℕ) → total (λ (u : Know N B). count n (numbers u)) (set vs id (stayed v) ++ given v ∷ []) ≡ total (λ (u : Know N B). count n (numbers u)) vs = λ n. total_cut (λ (u : Know N B). count n (numbers u)) vs id v (stayed v) (given v) e (sum n) in
      let ov : OwnsAll number t (next_seat ws) v = s.views id v e in
      record {
        given = λ n h. equal n ∙ s.given n h;
        unused = λ n h. equal n ∙ s.unused n h;
        strange = s.strange;
        views = each_more (OwnsAll number t (next_seat ws)) (set vs id (stayed v)) (given v) (each_set (OwnsAll number t (next_seat ws)) vs id (stayed v) s.views
            record { mine = λ i n m. let q : count n (numbers (stayed v)) + count n (numbers (given v)) ≡ count n (numbers v) = sum n in ov.mine i n (omega arith); fresh = ov.fresh })
            record { mine = λ i n m. let q : count n (numbers (stayed v)) + count n (numbers (given v)) ≡ count n (numbers v) = sum n in ov.mine i n (omega arith); fresh = ov.fresh };
      }

  pub numbered_joins : {t : Truth N B} {ws : List ℕ} {vs : List (Know N B)} (slots : ℕ) (id other : ℕ) (v w : Know N B) → Numbered number t ws vs → IsAt vs id v → other ≢ id → IsAt (set vs id (joined v w)) other w → v.live ≡ true → w.live ≡ true → SeesAll t slots v → SeesAll t slots w
      → Numbered number t ws (set (set vs id (joined v w)) other spent) × IsGrown number (joined v w).seen (joined v w).parts
  numbered_joins {t} {ws} {vs} slots id other v w s e ne e' lv lw sv sw =
      let both : Know N B = joined v w in
      let e_w : IsAt vs other w = sym (at_else vs id other both ne) ∙ e' in
      let len : length v.seen ≡ length w.seen = sv.long lv ∙ sym (sw.long lw) in
      let slot : (k : ℕ) → at_slot both.seen k ≡ longer (at_slot v.seen k) (at_slot w.seen k) = λ k. at-longer_each v.seen w.seen k len in
      let whole : (k : ℕ) → StartsWith (t.journals k) (at_slot both.seen k) = λ k. let P : List N → Type 0 = λ m. StartsWith (t.journals k) m in subst P (sym (slot k)) (longer_begins (at_slot v.seen k) (at_slot w.seen k) (sv.front k) (sw.front k)) in
      let grows_v : (k : ℕ) → StartsWith (at_slot both.seen k) (at_slot v.seen k) = λ k. let P : List N → Type 0 = λ m. StartsWith m (at_slot v.seen k) in subst P (sym (slot k)) (longer_left (at_slot v.seen k) (at_slot w.seen k) (sv.front k) (sw.front k)) in
      let grows_w : (k : ℕ) → StartsWith (at_slot both.seen k) (at_slot w.seen k) = λ k. let P : List N → Type 0 = λ m. StartsWith m (at_slot w.seen k) in subst P (sym (slot k)) (longer_right (at_slot v.seen k) (at_slot w.seen k) (sv.front k) (sw.front k)) in
      let ov : OwnsAll number t (next_seat ws) v = s.views id v e in
      let ow : OwnsAll number t (next_seat ws) w = s.views other w e_w in
      let equal : (n : ℕ) → total (λ (u : Know N B). count n (numbers u)) (set (set vs id both) other spent) ≡ total (λ (u : Know N B). count n (numbers u)) vs = λ n. total_pair (λ (u : Know N B). count n (numbers u)) vs id other v w both spent e e' (let a : count n (numbers (joined v w)) ≡ count n (numbers v) + count n (numbers w) = count-joined n v w in let z : count n (numbers (spent {N = N} {B = B})) ≡ 0 = count-nil n in omega arith) in
      let through_v : (k n : ℕ) → Among n (numbers v) → of number n (t.journals k) ≡ of number n (at_slot both.seen k) = λ k n a. of-between number n (whole k) (grows_v k) (ov.mine k n a) in
      let through_w : (k n : ℕ) → Among n (numbers w) → of number n (t.journals k) ≡ of number n (at_slot both.seen k) = λ k n a. of-between number n (whole k) (grows_w k) (ow.mine k n a) in
      let ob : OwnsAll number t (next_seat ws) both = record {
        mine = λ k n a. let c : count n (numbers (joined v w)) ≡ count n (numbers v) + count n (numbers w) = count-joined n v w in ⊎_elim (λ (p : 0 < count n (numbers v)). through_v k n (omega arith)) (λ (p : count n (numbers v) ≤ 0). through_w k n (omega arith)) (cases_lt 0 (count n (numbers v)));
        fresh = λ li k n h. of-between number n (whole k) (grows_v k) (ov.fresh li k n h);
      } in
      let os : OwnsAll number t (next_seat ws) (spent {N = N} {B = B}) = record { mine = λ k n a. let z : count n (numbers (spent {N = N} {B = B})) ≡ 0 = count-nil n in absurd (omega arith); fresh = λ li. absurd (true≢false (sym li)) } in (
        record {
          given = λ n h. equal n ∙ s.given n h;
          unused = λ n h. equal n ∙ s.unused n h;
          strange = s.strange;
          views = each_set (OwnsAll number t (next_seat ws)) (set vs id both) other spent (each_set (OwnsAll number t (next_seat ws)) vs id both s.views ob) os;
        },
        each_of_two (Grew number both.seen) (part v) (part w) record { front = grows_v; mine = λ k n a. sym (through_v k n a) ∙ ov.mine k n a } record { front = grows_w; mine = λ k n a. sym (through_w k n a) ∙ ow.mine k n a },
      )
