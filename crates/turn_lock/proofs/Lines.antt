-- Each step keeps the rule of the tickets.
use Rattle.std.proofs.Common.{◌≡◌, ℕ, zero, suc, ◌+◌, ◌-◌, ◌<◌, ◌≤◌, ◌≢◌, List, [], ◌∷◌, ◌++◌, length, get_or, set, sym, refl, ap, ◌∙◌, subst, ⊎_elim, arith, length-set, get_or-set_other, get_or-set_same}
use mathlib.Core.Option.{none, some, some-injective, some-ne-none}
use mathlib.Core.Option as maybe
use mathlib.Core.Logic.{dite}
use native.Mathlib.Decide.{ℕ_discrete}
use lib.ListN.{get_elem?}
use Rattle.std.specs.Prelude.{Option, Some, None}
use Rattle.atomic_table.proofs.Lists.{at_set, set_here, set_else}
use Rattle.turn_lock.specs.Client.{Homes, IsHome, IsOut}
use Rattle.turn_lock.specs.declared.tickets.Doing.{Doing}
use Rattle.turn_lock.specs.declared.tickets.Ticket.{Ticket}
use Rattle.turn_lock.specs.declared.tickets.Stage.{Stage}
use Rattle.turn_lock.specs.declared.tickets.Stage.TheVariants.{Waiting, Inside}
use Rattle.turn_lock.specs.Tickets.{waiting, inside, Has, IsHeld, Stands, Sits, IsPlaced, Lined}
use Rattle.turn_lock.proofs.Entries.{within, has_set, has_here, has_else, has_mine, has_same, has_still, apart_after, has_first, apart_first, has_pushed, has_left, held_on, goes_swapped, shift, follows_swapped, Behind, has_behind, follows_behind, has_more, has_longer}

not_both : (P : Type 0) → Waiting ≡ Inside → P
not_both P e = absurd (subst (λ (st : Stage). elim st as (λ _. Type 0) [ Waiting ↦ Unit {0} | Inside ↦ ⊥ ]) e tt)

module _ {S : Type 0} (n : ℕ) (ws ws' : List ℕ) (hs hs' : Homes S) where
  stands_on : (k m : ℕ) (st : Stage) → get_or ws' (n + k) 0 ≡ get_or ws (n + k) 0 → (IsOut hs k → IsOut hs' k) → Stands n ws hs k m st → Stands n ws' hs' k m st
  stands_on k m Waiting e out s = subst (λ (x : ℕ). x ≤ m) (sym e) s
  stands_on k m Inside e out s = (s.0 ∙ sym e, out s.1)

  -- a ticket stays good where no fewer are taken, none is served, and its value stays out
  sits_on : (t : Ticket) → get_or ws t.slot 0 ≤ get_or ws' t.slot 0 → get_or ws' (n + t.slot) 0 ≡ get_or ws (n + t.slot) 0 → (IsOut hs t.slot → IsOut hs' t.slot) → Sits n ws hs t → Sits n ws' hs' t
  sits_on t up e out s = let l : t.number < get_or ws t.slot 0 = s.1 in (s.0, (let g : t.number < get_or ws' t.slot 0 = omega arith in g), stands_on t.slot t.number t.stage e out s.2)

placed_on : {S C : Type 0} (ds es : List (Doing C)) (k : ℕ) (h : maybe.Option (Option S)) → ((j a m : ℕ) → Has ds j a (inside k m) → (b : ℕ) × Has es j b (inside k m)) → IsPlaced ds k h → IsPlaced es k h
placed_on ds es k none go p = let x = go p.0 p.1 p.2 p.3 in (p.0, x.0, p.2, x.1)
placed_on ds es k (some None) go p = p
placed_on ds es k (some (Some x)) go p = p

same_words : (n i : ℕ) (ws : List ℕ) (x k : ℕ) → n + n ≤ i → k < n → (get_or (set ws i x) k 0 ≡ get_or ws k 0) × (get_or (set ws i x) (n + k) 0 ≡ get_or ws (n + k) 0)
same_words n i ws x k far near = (get_or-set_other ws i k x 0 (λ e. omega arith), get_or-set_other ws i (n + k) x 0 (λ e. omega arith))

module _ {S C : Type 0} (n : ℕ) (ws : List ℕ) (hs : Homes S) (ds : List (Doing C)) (r : Lined n ws hs ds) where
  -- a word of the client's changes
  pub lined_words : (i x : ℕ) → n + n ≤ i → Lined n (set ws i x) hs ds
  lined_words i x far = record {
    many = r.many;
    wide = subst (λ (z : ℕ). n + n ≤ z) (sym (length-set ws i x)) r.wide;
    sits = λ j a t h. let s = r.sits j a t h in let e = same_words n i ws x t.slot far s.0 in sits_on n ws (set ws i x) hs hs t (let q = e.0 in omega arith) e.1 (λ o. o) s;
    held = λ k m near from to. let e = same_words n i ws x k far near in let a = e.0 in let b = e.1 in r.held k m near (omega arith) (omega arith);
    apart = r.apart;
    ordered = λ k near. let e = same_words n i ws x k far near in let o : get_or ws (n + k) 0 ≤ get_or ws k 0 = r.ordered k near in let a = e.0 in let b = e.1 in let g : get_or (set ws i x) (n + k) 0 ≤ get_or (set ws i x) k 0 = omega arith in g;
    placed = r.placed;
  }

  -- the tickets of each seat stay
  pub lined_same : (id : ℕ) (d w : Doing C) → get_elem? ds id ≡ some d → w.tickets ≡ d.tickets → Lined n ws hs (set ds id w)
  lined_same id d w at same = record {
    many = r.many;
    wide = r.wide;
    sits = λ j a t h. r.sits j a t (has_same ds id j a d w t at same h);
    held = λ k m near from to. held_on ds (set ds id w) k m (λ j a t h e f. (a, t, has_still ds id j a d w t at same h, refl, refl)) (r.held k m near from to);
    apart = λ i j a b t u p q. r.apart i j a b t u (has_same ds id i a d w t at same p) (has_same ds id j b d w u at same q);
    ordered = r.ordered;
    placed = λ k h e. placed_on ds (set ds id w) k h (λ j a m x. (a, has_still ds id j a d w (inside k m) at same x)) (r.placed k h e);
  }

  -- a seat with no ticket comes
  pub lined_more : (w : Doing C) → w.tickets ≡ [] → Lined n ws hs (ds ++ w ∷ [])
  lined_more w bare = record {
    many = r.many;
    wide = r.wide;
    sits = λ j a t h. r.sits j a t (has_more ds w j a t bare h);
    held = λ k m near from to. held_on ds (ds ++ w ∷ []) k m (λ j a t h e f. (a, t, has_longer ds w j a t h, refl, refl)) (r.held k m near from to);
    apart = λ i j a b t u p q. r.apart i j a b t u (has_more ds w i a t bare p) (has_more ds w j b u bare q);
    ordered = r.ordered;
    placed = λ k h e. placed_on ds (ds ++ w ∷ []) k h (λ j a m x. (a, has_longer ds w j a (inside k m) x)) (r.placed k h e);
  }

  -- a seat takes the next ticket
  pub lined_queued : (id k m : ℕ) (d w : Doing C) → get_elem? ds id ≡ some d → k < n → get_or ws k 0 ≡ m → w.tickets ≡ waiting k m ∷ d.tickets → Lined n (set ws k (m + 1)) hs (set ds id w)
  lined_queued id k m d w at near next is =
      let ws' : List ℕ = set ws k (m + 1) in let size : ℕ = length ws in let wide : n + n ≤ size = r.wide in
      let up : get_or ws' k 0 ≡ m + 1 = get_or-set_same ws k (m + 1) 0 (let g : k < size = omega arith in g) in
      let still : (j : ℕ) → get_or ws' (n + j) 0 ≡ get_or ws (n + j) 0 = λ j. get_or-set_other ws k (n + j) (m + 1) 0 (λ e. omega arith) in
      let grown : (j : ℕ) → get_or ws j 0 ≤ get_or ws' j 0 = λ j. dite (ℕ_discrete j k)
      (λ e. subst (λ (z : ℕ). get_or ws z 0 ≤ get_or ws' z 0) (sym e) (let g : get_or ws k 0 ≤ get_or ws' k 0 = omega arith in g))
      (λ ne. let e = get_or-set_other ws k j (m + 1) 0 ne in omega arith) in record {
        many = r.many;
        wide = subst (λ (z : ℕ). n + n ≤ z) (sym (length-set ws k (m + 1))) r.wide;
        sits = λ j a t h. ⊎_elim
            (λ (x : (j ≡ id) × (a ≡ 0) × (waiting k m ≡ t)). subst (Sits n ws' hs) x.2 (
              near,
              (let g : m < get_or ws' k 0 = omega arith in g),
              (let o : get_or ws (n + k) 0 ≤ get_or ws k 0 = r.ordered k near in let e = still k in let g : get_or ws' (n + k) 0 ≤ m = omega arith in g),
            ))
            (λ (x : (b : ℕ) × Has ds j b t × (a ≡ shift id suc j b)). sits_on n ws ws' hs hs t (grown t.slot) (still t.slot) (λ o. o) (r.sits j x.0 t x.1))
            (has_first ds id j a d w (waiting k m) t at is h);
        held = λ j o l from to.
            let behind : IsHeld ds j o → IsHeld (set ds id w) j o = held_on ds (set ds id w) j o (λ i a t h e f. let b = has_pushed ds id i a d w (waiting k m) t at is h in (b.0, t, b.1, refl, refl)) in let e = still j in
            dite (ℕ_discrete j k)
            (λ q. dite (ℕ_discrete o m)
            (λ p. (id, 0, waiting k m, has_here ds id 0 d w (waiting k m) at (ap (λ (l : List Ticket). get_elem? l 0) is), sym q, sym p))
            (λ ne. let now : get_or ws' j 0 ≡ m + 1 = ap (λ (z : ℕ). get_or ws' z 0) q ∙ up in let was : get_or ws j 0 ≡ m = ap (λ (z : ℕ). get_or ws z 0) q ∙ next in behind (r.held j o l (omega arith) (omega arith))))
            (λ ne. let same = get_or-set_other ws k j (m + 1) 0 ne in behind (r.held j o l (omega arith) (omega arith)));
        apart = apart_first ds id d w (waiting k m) at is
            (λ j a t h s e. let l : t.number < get_or ws t.slot 0 = (r.sits j a t h).1 in let same : get_or ws t.slot 0 ≡ get_or ws k 0 = ap (λ (z : ℕ). get_or ws z 0) s in let e' : t.number ≡ m = e in omega arith) r.apart;
        ordered = λ j l. let o : get_or ws (n + j) 0 ≤ get_or ws j 0 = r.ordered j l in let e = still j in let u = grown j in let g : get_or ws' (n + j) 0 ≤ get_or ws' j 0 = omega arith in g;
        placed = λ j h e. placed_on ds (set ds id w) j h (λ i a q x. has_pushed ds id i a d w (waiting k m) (inside j q) at is x) (r.placed j h e);
      }

  -- the value is at home where a waiting ticket is the one that is served
  met : (id k m : ℕ) (d : Doing C) (ts : List Ticket) (h : maybe.Option (Option S)) → get_elem? ds id ≡ some d → d.tickets ≡ waiting k m ∷ ts → get_or ws (n + k) 0 ≡ m → get_elem? hs k ≡ some h → IsPlaced ds k h → (x : S) × (h ≡ some (Some x))
  met id k m d ts none at is now e p = let mine : Has ds id 0 (waiting k m) = (d, at, ap (λ (l : List Ticket). get_elem? l 0) is) in
      let other = p.3 in let one : p.2 ≡ get_or ws (n + k) 0 = (r.sits p.0 p.1 (inside k p.2) other).2.0 in let q = r.apart p.0 id p.1 0 (inside k p.2) (waiting k m) other mine refl (one ∙ now) in
      let there : get_elem? d.tickets p.1 ≡ some (inside k p.2) = has_mine ds id p.0 p.1 d (inside k p.2) at q.0 other in
      let same : some (waiting k m) ≡ some (inside k p.2) = sym (ap (λ (l : List Ticket). get_elem? l 0) is) ∙ ap (get_elem? d.tickets) (sym q.1) ∙ there in
      not_both ((x : S) × (none ≡ some (Some x))) (ap (λ (t : Ticket). t.stage) (some-injective (waiting k m) (inside k p.2) same))
  met id k m d ts (some None) at is now e p = absurd p
  met id k m d ts (some (Some x)) at is now e p = (x, refl)

  some_home : (hs : Homes S) (k : ℕ) → k < length hs → (h : maybe.Option (Option S)) × (get_elem? hs k ≡ some h)
  some_home [] k near = absurd (omega arith)
  some_home (h ∷ hs) zero near = (h, refl)
  some_home (h ∷ hs) (suc k) near = some_home hs k (omega arith)

  pub is_home : (id k m : ℕ) (d : Doing C) (ts : List Ticket) → get_elem? ds id ≡ some d → d.tickets ≡ waiting k m ∷ ts → get_or ws (n + k) 0 ≡ m → (x : S) × IsHome hs k x
  is_home id k m d ts at is now = let near : k < n = (r.sits id 0 (waiting k m) (d, at, ap (λ (l : List Ticket). get_elem? l 0) is)).0 in
      let h = some_home hs k (subst (λ (z : ℕ). k < z) (sym r.many) near) in let x = met id k m d ts h.0 at is now h.1 (r.placed k h.0 h.1) in (x.0, h.1 ∙ ap some x.1)

  stays_out : (k : ℕ) (x : Option S) (j : ℕ) → get_elem? hs k ≡ some (some x) → IsOut hs j → IsOut (set hs k none) j
  stays_out k x j e out = dite (ℕ_discrete j k) (λ is. subst (IsOut (set hs k none)) (sym is) (set_here hs k none (within hs k (some x) e))) (λ ne. set_else hs k j none ne ∙ out)

  inside_first : (k m : ℕ) (ts : List Ticket) (a j o : ℕ) → j ≢ k → get_elem? (waiting k m ∷ ts) a ≡ some (inside j o) → get_elem? (inside k m ∷ ts) a ≡ some (inside j o)
  inside_first k m ts zero j o ne e = absurd (ne (sym (ap (λ (t : Ticket). t.slot) (some-injective (waiting k m) (inside j o) e))))
  inside_first k m ts (suc a) j o ne e = e

  served_sits : (id k m : ℕ) (d : Doing C) (ts : List Ticket) (x : S) → get_elem? ds id ≡ some d → d.tickets ≡ waiting k m ∷ ts → get_or ws (n + k) 0 ≡ m → IsHome hs k x
      → (a : ℕ) (t : Ticket) → get_elem? (inside k m ∷ ts) a ≡ some t → Sits n ws (set hs k none) t
  served_sits id k m d ts x at was now home zero t e = let s = r.sits id 0 (waiting k m) (d, at, ap (λ (l : List Ticket). get_elem? l 0) was) in
      subst (Sits n ws (set hs k none)) (some-injective (inside k m) t e) (s.0, s.1, (sym now, set_here hs k none (within hs k (some (Some x)) home)))
  served_sits id k m d ts x at was now home (suc a) t e = sits_on n ws ws hs (set hs k none) t (omega arith) refl (stays_out k (Some x) t.slot home)
      (r.sits id (suc a) t (d, at, subst (λ (l : List Ticket). get_elem? l (suc a) ≡ some t) (sym was) e))

  -- a seat whose ticket is served takes the value
  pub lined_served : (id k m : ℕ) (d w : Doing C) (ts : List Ticket) (x : S) → get_elem? ds id ≡ some d → d.tickets ≡ waiting k m ∷ ts → w.tickets ≡ inside k m ∷ ts → get_or ws (n + k) 0 ≡ m → IsHome hs k x
      → Lined n ws (set hs k none) (set ds id w)
  lined_served id k m d w ts x at was is now home =
      let here : Has (set ds id w) id 0 (inside k m) = has_here ds id 0 d w (inside k m) at (ap (λ (l : List Ticket). get_elem? l 0) is) in
      let follows = follows_swapped ds id d w (waiting k m) (inside k m) ts at was is refl refl in record {
        many = length-set hs k none ∙ r.many;
        wide = r.wide;
        sits = λ j a t h. ⊎_elim
            (λ (e : (j ≡ id) × (get_elem? w.tickets a ≡ some t)). served_sits id k m d ts x at was now home a t (subst (λ (l : List Ticket). get_elem? l a ≡ some t) is e.1))
            (λ (e : (j ≢ id) × Has ds j a t). sits_on n ws ws hs (set hs k none) t (omega arith) refl (stays_out k (Some x) t.slot home) (r.sits j a t e.1)) (has_set ds id j a w t h);
        held = λ j o l from to. held_on ds (set ds id w) j o (goes_swapped ds id d w (waiting k m) (inside k m) ts j o at was is refl refl) (r.held j o l from to);
        apart = apart_after ds (set ds id w) (λ _ b. b) follows r.apart;
        ordered = r.ordered;
        placed = λ j h e. ⊎_elim
            (λ (q : (j ≡ k) × (none ≡ h)). subst (λ (z : maybe.Option (Option S)). IsPlaced (set ds id w) j z) q.1 (id, 0, m, subst (λ (z : ℕ). Has (set ds id w) id 0 (inside z m)) (sym q.0) here))
            (λ (q : (j ≢ k) × (get_elem? hs j ≡ some h)). placed_on ds (set ds id w) j h (λ i a o y. (
              a,
              dite (ℕ_discrete i id)
                  (λ e'. subst (λ (z : ℕ). Has (set ds id w) z a (inside j o)) (sym e')
                  (has_here ds id a d w (inside j o) at (subst (λ (l : List Ticket). get_elem? l a ≡ some (inside j o)) (sym is)
                  (inside_first k m ts a j o q.0 (subst (λ (l : List Ticket). get_elem? l a ≡ some (inside j o)) was (has_mine ds id i a d (inside j o) at e' y))))))
                  (λ ne. has_else ds id i a w (inside j o) ne y),
            )) (r.placed j h q.1)) (at_set hs k j none h e);
      }

  -- of the slot k no ticket but the one that is served has its number
  later : (id k m : ℕ) (d w : Doing C) (j a : ℕ) (t : Ticket) → get_elem? ds id ≡ some d → d.tickets ≡ inside k m ∷ w.tickets → Behind ds id j a t → t.slot ≡ k → t.number ≢ m
  later id k m d w j a t at was behind s e = let mine : Has ds id 0 (inside k m) = (d, at, ap (λ (l : List Ticket). get_elem? l 0) was) in ⊎_elim
      (λ (x : (j ≡ id) × Has ds j (suc a) t). let q = (r.apart j id (suc a) 0 t (inside k m) x.1 mine s e).1 in (let g : ⊥ = omega arith in g))
      (λ (x : (j ≢ id) × Has ds j a t). x.0 (r.apart j id a 0 t (inside k m) x.1 mine s e).0) behind

  old_has : (id j a : ℕ) (t : Ticket) → Behind ds id j a t → (b : ℕ) × Has ds j b t
  old_has id j a t behind = ⊎_elim (λ (x : (j ≡ id) × Has ds j (suc a) t). (suc a, x.1)) (λ (x : (j ≢ id) × Has ds j a t). (a, x.1)) behind

  passed_stands : (k m : ℕ) (ws' : List ℕ) (hs' : Homes S) (number : ℕ) (st : Stage) → get_or ws (n + k) 0 ≡ m → get_or ws' (n + k) 0 ≡ m + 1 → number ≢ m → Stands n ws hs k number st → Stands n ws' hs' k number st
  passed_stands k m ws' hs' number Waiting now then ne s = let l : get_or ws (n + k) 0 ≤ number = s in let g : get_or ws' (n + k) 0 ≤ number = omega arith in g
  passed_stands k m ws' hs' number Inside now then ne s = absurd (ne (s.0 ∙ now))

  -- a seat gives the value back, and the next ticket is served
  pub lined_passed : (id k m : ℕ) (d w : Doing C) (y : S) → get_elem? ds id ≡ some d → d.tickets ≡ inside k m ∷ w.tickets → Lined n (set ws (n + k) (m + 1)) (set hs k (some (Some y))) (set ds id w)
  lined_passed id k m d w y at was = let mine : Has ds id 0 (inside k m) = (d, at, ap (λ (l : List Ticket). get_elem? l 0) was) in let sit = r.sits id 0 (inside k m) mine in
      let near : k < n = sit.0 in let below : m < get_or ws k 0 = sit.1 in let now : get_or ws (n + k) 0 ≡ m = sym sit.2.0 in let size : ℕ = length ws in let wide : n + n ≤ size = r.wide in
      let ws' : List ℕ = set ws (n + k) (m + 1) in let hs' : Homes S = set hs k (some (Some y)) in
      let up : get_or ws' (n + k) 0 ≡ m + 1 = get_or-set_same ws (n + k) (m + 1) 0 (let g : n + k < size = omega arith in g) in
      let kept : (j : ℕ) → j < n → get_or ws' j 0 ≡ get_or ws j 0 = λ j l. get_or-set_other ws (n + k) j (m + 1) 0 (λ e. omega arith) in
      let still : (j : ℕ) → j ≢ k → get_or ws' (n + j) 0 ≡ get_or ws (n + j) 0 = λ j ne. get_or-set_other ws (n + k) (n + j) (m + 1) 0 (λ e. ne (omega arith)) in record {
        many = length-set hs k (some (Some y)) ∙ r.many;
        wide = subst (λ (z : ℕ). n + n ≤ z) (sym (length-set ws (n + k) (m + 1))) r.wide;
        sits = λ j a t h. let behind = has_behind ds id j a d w (inside k m) t at was h in let old = old_has id j a t behind in let s = r.sits j old.0 t old.1 in let same = kept t.slot s.0 in let l : t.number < get_or ws t.slot 0 = s.1 in
            dite (ℕ_discrete t.slot k)
            (λ e. (
              s.0,
              (let g : t.number < get_or ws' t.slot 0 = omega arith in g),
              subst (λ (z : ℕ). Stands n ws' hs' z t.number t.stage) (sym e)
                  (passed_stands k m ws' hs' t.number t.stage now up (later id k m d w j a t at was behind e) (subst (λ (z : ℕ). Stands n ws hs z t.number t.stage) e s.2)),
            ))
            (λ ne. sits_on n ws ws' hs hs' t (let g : get_or ws t.slot 0 ≤ get_or ws' t.slot 0 = omega arith in g) (still t.slot ne) (λ o. set_else hs k t.slot (some (Some y)) ne ∙ o) s);
        held = λ j o l from to.
            let same = kept j l in
            let behind : ((j ≡ k) → o ≢ m) → IsHeld ds j o → IsHeld (set ds id w) j o = λ ne. held_on ds (set ds id w) j o (λ i a t h e f. let b = has_left ds id i a d w (inside k m) t at was (λ p q. ne (sym e ∙ p) (sym f ∙ q)) h in (b.0, t, b.1, refl, refl)) in
            dite (ℕ_discrete j k)
            (λ q. let new : get_or ws' (n + j) 0 ≡ m + 1 = ap (λ (z : ℕ). get_or ws' (n + z) 0) q ∙ up in let old : get_or ws (n + j) 0 ≡ m = ap (λ (z : ℕ). get_or ws (n + z) 0) q ∙ now in behind (λ _ p. omega arith) (r.held j o l (omega arith) (omega arith)))
            (λ ne. let e = still j ne in behind (λ p. absurd (ne p)) (r.held j o l (omega arith) (omega arith)));
        apart = apart_after ds (set ds id w) (shift id (λ b. b - 1)) (follows_behind ds id d w (inside k m) at was) r.apart;
        ordered = λ j l. let same = kept j l in dite (ℕ_discrete j k)
            (λ e. subst (λ (z : ℕ). get_or ws' (n + z) 0 ≤ get_or ws' z 0) (sym e) (let same' = kept k near in let g : get_or ws' (n + k) 0 ≤ get_or ws' k 0 = omega arith in g))
            (λ ne. let e = still j ne in let o : get_or ws (n + j) 0 ≤ get_or ws j 0 = r.ordered j l in let g : get_or ws' (n + j) 0 ≤ get_or ws' j 0 = omega arith in g);
        placed = λ j h e. ⊎_elim
            (λ (q : (j ≡ k) × (some (Some y) ≡ h)). subst (λ (z : maybe.Option (Option S)). IsPlaced (set ds id w) j z) q.1 tt)
            (λ (q : (j ≢ k) × (get_elem? hs j ≡ some h)). placed_on ds (set ds id w) j h (λ i a o x. has_left ds id i a d w (inside k m) (inside j o) at was (λ p. absurd (q.0 p)) x) (r.placed j h q.1)) (at_set hs k j (some (Some y)) h e);
      }
