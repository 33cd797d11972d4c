-- Which seat has which ticket, when what one seat knows changes.
use Rattle.std.proofs.Common.{◌≡◌, ℕ, zero, suc, ◌-◌, ◌<◌, ◌≢◌, ◌⊎◌, eqb, eq-eqb, ne_eqb, List, [], ◌∷◌, ◌++◌, length, set, sym, refl, ap, ap₂, ◌∙◌, subst, inl, inr, ⊎_elim, arith}
use mathlib.Core.Option.{some, some-injective, some-ne-none}
use mathlib.Core.Logic.{dite}
use native.Mathlib.Decide.{ℕ_discrete}
use prog.Atomic.{either}
use lib.ListN.{get_elem?}
use Rattle.atomic_table.proofs.Lists.{at_set, set_here, set_else, at_longer, at_snoc}
use Rattle.turn_lock.specs.declared.tickets.Doing.{Doing}
use Rattle.turn_lock.specs.declared.tickets.Ticket.{Ticket}
use Rattle.turn_lock.specs.Tickets.{Has, IsHeld, Apart}

pub within : {A : Type 0} (l : List A) (i : ℕ) (a : A) → get_elem? l i ≡ some a → i < length l
within [] i a e = absurd (some-ne-none a (sym e))
within (x ∷ xs) zero a e = omega arith
within (x ∷ xs) (suc i) a e = let h = within xs i a e in omega arith

-- a place in the list of the seat id moves by g
abbrev pub shift : ℕ → (ℕ → ℕ) → ℕ → ℕ → ℕ
shift id g j b = either (eqb j id) (g b) b

pub shift_here : (id : ℕ) (g : ℕ → ℕ) (j b : ℕ) → j ≡ id → shift id g j b ≡ g b
shift_here id g j b is = ap (λ c. either c (g b) b) (eq-eqb j id is)

pub shift_else : (id : ℕ) (g : ℕ → ℕ) (j b : ℕ) → j ≢ id → shift id g j b ≡ b
shift_else id g j b ne = ap (λ c. either c (g b) b) (ne_eqb j id ne)

-- the first ticket is another with the same slot and number
swapped_at : (old new : Ticket) (ts : List Ticket) (a : ℕ) (t : Ticket) → old.slot ≡ new.slot → old.number ≡ new.number → get_elem? (new ∷ ts) a ≡ some t
    → (u : Ticket) × (get_elem? (old ∷ ts) a ≡ some u) × (u.slot ≡ t.slot) × (u.number ≡ t.number)
swapped_at old new ts zero t s n e = (old, refl, s ∙ ap (λ (z : Ticket). z.slot) (some-injective new t e), n ∙ ap (λ (z : Ticket). z.number) (some-injective new t e))
swapped_at old new ts (suc a) t s n e = (t, e, refl, refl)

rest_at : (old t : Ticket) (ts : List Ticket) (a : ℕ) → (t.slot ≡ old.slot → t.number ≢ old.number) → get_elem? (old ∷ ts) a ≡ some t → (b : ℕ) × (get_elem? ts b ≡ some t)
rest_at old t ts zero other e = let is : old ≡ t = some-injective old t e in absurd (other (sym (ap (λ (z : Ticket). z.slot) is)) (sym (ap (λ (z : Ticket). z.number) is)))
rest_at old t ts (suc a) other e = (a, e)

module _ {C : Type 0} where
  pub has_set : (ds : List (Doing C)) (id j a : ℕ) (w : Doing C) (t : Ticket) → Has (set ds id w) j a t → ((j ≡ id) × (get_elem? w.tickets a ≡ some t)) ⊎ ((j ≢ id) × Has ds j a t)
  has_set ds id j a w t h = ⊎_elim (λ (e : (j ≡ id) × (w ≡ h.0)). inl (e.0, subst (λ (d : Doing C). get_elem? d.tickets a ≡ some t) (sym e.1) h.2))
      (λ (e : (j ≢ id) × (get_elem? ds j ≡ some h.0)). inr (e.0, (h.0, e.1, h.2))) (at_set ds id j w h.0 h.1)

  pub has_here : (ds : List (Doing C)) (id a : ℕ) (d w : Doing C) (t : Ticket) → get_elem? ds id ≡ some d → get_elem? w.tickets a ≡ some t → Has (set ds id w) id a t
  has_here ds id a d w t at e = (w, set_here ds id w (within ds id d at), e)

  pub has_else : (ds : List (Doing C)) (id j a : ℕ) (w : Doing C) (t : Ticket) → j ≢ id → Has ds j a t → Has (set ds id w) j a t
  has_else ds id j a w t ne h = (h.0, set_else ds id j w ne ∙ h.1, h.2)

  pub has_mine : (ds : List (Doing C)) (id j a : ℕ) (d : Doing C) (t : Ticket) → get_elem? ds id ≡ some d → j ≡ id → Has ds j a t → get_elem? d.tickets a ≡ some t
  has_mine ds id j a d t at is h = subst (λ (e : Doing C). get_elem? e.tickets a ≡ some t) (some-injective h.0 d (sym h.1 ∙ ap (get_elem? ds) is ∙ at)) h.2

  pub has_at : (ds : List (Doing C)) (id j a : ℕ) (d : Doing C) (t : Ticket) → get_elem? ds id ≡ some d → j ≡ id → get_elem? d.tickets a ≡ some t → Has ds j a t
  has_at ds id j a d t at is e = (d, ap (get_elem? ds) is ∙ at, e)

  -- a seat's tickets stay
  pub has_same : (ds : List (Doing C)) (id j a : ℕ) (d w : Doing C) (t : Ticket) → get_elem? ds id ≡ some d → w.tickets ≡ d.tickets → Has (set ds id w) j a t → Has ds j a t
  has_same ds id j a d w t at same h = ⊎_elim (λ (e : (j ≡ id) × (get_elem? w.tickets a ≡ some t)). has_at ds id j a d t at e.0 (subst (λ (l : List Ticket). get_elem? l a ≡ some t) same e.1))
      (λ (e : (j ≢ id) × Has ds j a t). e.1) (has_set ds id j a w t h)

  pub has_still : (ds : List (Doing C)) (id j a : ℕ) (d w : Doing C) (t : Ticket) → get_elem? ds id ≡ some d → w.tickets ≡ d.tickets → Has ds j a t → Has (set ds id w) j a t
  has_still ds id j a d w t at same h = dite (ℕ_discrete j id)
      (λ is. subst (λ (i : ℕ). Has (set ds id w) i a t) (sym is) (has_here ds id a d w t at (subst (λ (l : List Ticket). get_elem? l a ≡ some t) (sym same) (has_mine ds id j a d t at is h))))
      (λ ne. has_else ds id j a w t ne h)

  -- each ticket of the new list was in the old one, at a place that determines the new place
  abbrev pub Follows : List (Doing C) → List (Doing C) → (ℕ → ℕ → ℕ) → Type 0
  Follows old new f = (j a : ℕ) (t : Ticket) → Has new j a t → (b : ℕ) × (u : Ticket) × Has old j b u × (a ≡ f j b) × (u.slot ≡ t.slot) × (u.number ≡ t.number)

  pub apart_after : (old new : List (Doing C)) (f : ℕ → ℕ → ℕ) → Follows old new f → Apart old → Apart new
  apart_after old new f from apart i j a b t u p q s n = let x = from i a t p in let y = from j b u q in let r = apart i j x.0 y.0 x.1 y.1 x.2 y.2 (x.4 ∙ s ∙ sym y.4) (x.5 ∙ n ∙ sym y.5) in
      (r.0, x.3 ∙ ap₂ f r.0 r.1 ∙ sym y.3)

  -- a ticket before the others
  abbrev pub First : List (Doing C) → ℕ → ℕ → ℕ → Ticket → Ticket → Type 0
  First ds id j a new t = ((j ≡ id) × (a ≡ 0) × (new ≡ t)) ⊎ ((b : ℕ) × Has ds j b t × (a ≡ shift id suc j b))

  first_at : (ds : List (Doing C)) (id j a : ℕ) (d : Doing C) (new t : Ticket) → get_elem? ds id ≡ some d → j ≡ id → get_elem? (new ∷ d.tickets) a ≡ some t → First ds id j a new t
  first_at ds id j zero d new t at is e = inl (is, refl, some-injective new t e)
  first_at ds id j (suc a) d new t at is e = inr (a, has_at ds id j a d t at is e, sym (shift_here id suc j a is))

  pub has_first : (ds : List (Doing C)) (id j a : ℕ) (d w : Doing C) (new t : Ticket) → get_elem? ds id ≡ some d → w.tickets ≡ new ∷ d.tickets → Has (set ds id w) j a t → First ds id j a new t
  has_first ds id j a d w new t at is h = ⊎_elim (λ (e : (j ≡ id) × (get_elem? w.tickets a ≡ some t)). first_at ds id j a d new t at e.0 (subst (λ (l : List Ticket). get_elem? l a ≡ some t) is e.1))
      (λ (e : (j ≢ id) × Has ds j a t). inr (a, e.1, sym (shift_else id suc j a e.0))) (has_set ds id j a w t h)

  -- the tickets that a seat had are behind the first
  pub has_pushed : (ds : List (Doing C)) (id j a : ℕ) (d w : Doing C) (new t : Ticket) → get_elem? ds id ≡ some d → w.tickets ≡ new ∷ d.tickets → Has ds j a t → (b : ℕ) × Has (set ds id w) j b t
  has_pushed ds id j a d w new t at is h = dite (ℕ_discrete j id)
      (λ e. (
        suc a,
        subst (λ (i : ℕ). Has (set ds id w) i (suc a) t) (sym e) (has_here ds id (suc a) d w t at (subst (λ (l : List Ticket). get_elem? l (suc a) ≡ some t) (sym is) (has_mine ds id j a d t at e h))),
      ))
      (λ ne. (a, has_else ds id j a w t ne h))

  pub apart_first : (ds : List (Doing C)) (id : ℕ) (d w : Doing C) (new : Ticket) → get_elem? ds id ≡ some d → w.tickets ≡ new ∷ d.tickets
      → ((j a : ℕ) (t : Ticket) → Has ds j a t → t.slot ≡ new.slot → t.number ≢ new.number) → Apart ds → Apart (set ds id w)
  apart_first ds id d w new at is fresh apart i j a b t u p q s n = ⊎_elim
      (λ (x : (i ≡ id) × (a ≡ 0) × (new ≡ t)). ⊎_elim
      (λ (y : (j ≡ id) × (b ≡ 0) × (new ≡ u)). (x.0 ∙ sym y.0, x.1 ∙ sym y.1))
      (λ (y : (c : ℕ) × Has ds j c u × (b ≡ shift id suc j c)). absurd (fresh j y.0 u y.1 (sym s ∙ sym (ap (λ (z : Ticket). z.slot) x.2)) (sym n ∙ sym (ap (λ (z : Ticket). z.number) x.2))))
      (has_first ds id j b d w new u at is q))
      (λ (x : (c : ℕ) × Has ds i c t × (a ≡ shift id suc i c)). ⊎_elim
      (λ (y : (j ≡ id) × (b ≡ 0) × (new ≡ u)). absurd (fresh i x.0 t x.1 (s ∙ sym (ap (λ (z : Ticket). z.slot) y.2)) (n ∙ sym (ap (λ (z : Ticket). z.number) y.2))))
      (λ (y : (c : ℕ) × Has ds j c u × (b ≡ shift id suc j c)). let r = apart i j x.0 y.0 t u x.1 y.1 s n in (r.0, x.2 ∙ ap₂ (shift id suc) r.0 r.1 ∙ sym y.2))
      (has_first ds id j b d w new u at is q)) (has_first ds id i a d w new t at is p)

  pub follows_swapped : (ds : List (Doing C)) (id : ℕ) (d w : Doing C) (old new : Ticket) (ts : List Ticket) → get_elem? ds id ≡ some d → d.tickets ≡ old ∷ ts → w.tickets ≡ new ∷ ts → old.slot ≡ new.slot → old.number ≡ new.number
      → Follows ds (set ds id w) (λ _ b. b)
  follows_swapped ds id d w old new ts at was is s n j a t h = ⊎_elim
      (λ (e : (j ≡ id) × (get_elem? w.tickets a ≡ some t)). let x = swapped_at old new ts a t s n (subst (λ (l : List Ticket). get_elem? l a ≡ some t) is e.1) in
      (a, x.0, has_at ds id j a d x.0 at e.0 (subst (λ (l : List Ticket). get_elem? l a ≡ some x.0) (sym was) x.1), refl, x.2, x.3))
      (λ (e : (j ≢ id) × Has ds j a t). (a, t, e.1, refl, refl, refl)) (has_set ds id j a w t h)

  -- a ticket is held by the seats es as by the seats ds
  abbrev pub Goes : List (Doing C) → List (Doing C) → ℕ → ℕ → Type 0
  Goes ds es k m = (j a : ℕ) (t : Ticket) → Has ds j a t → t.slot ≡ k → t.number ≡ m → (b : ℕ) × (u : Ticket) × Has es j b u × (u.slot ≡ t.slot) × (u.number ≡ t.number)

  pub held_on : (ds es : List (Doing C)) (k m : ℕ) → Goes ds es k m → IsHeld ds k m → IsHeld es k m
  held_on ds es k m go h = let x = go h.0 h.1 h.2 h.3 h.4 h.5 in (h.0, x.0, x.1, x.2, x.3 ∙ h.4, x.4 ∙ h.5)

  pub goes_swapped : (ds : List (Doing C)) (id : ℕ) (d w : Doing C) (old new : Ticket) (ts : List Ticket) (k m : ℕ) → get_elem? ds id ≡ some d → d.tickets ≡ old ∷ ts → w.tickets ≡ new ∷ ts → old.slot ≡ new.slot → old.number ≡ new.number
      → Goes ds (set ds id w) k m
  goes_swapped ds id d w old new ts k m at was is s n j a t h e f = dite (ℕ_discrete j id)
      (λ q. let x = swapped_at new old ts a t (sym s) (sym n) (subst (λ (l : List Ticket). get_elem? l a ≡ some t) was (has_mine ds id j a d t at q h)) in
      (a, x.0, subst (λ (i : ℕ). Has (set ds id w) i a x.0) (sym q) (has_here ds id a d w x.0 at (subst (λ (l : List Ticket). get_elem? l a ≡ some x.0) (sym is) x.1)), x.2, x.3))
      (λ ne. (a, t, has_else ds id j a w t ne h, refl, refl))

  -- the first ticket is gone
  abbrev pub Behind : List (Doing C) → ℕ → ℕ → ℕ → Ticket → Type 0
  Behind ds id j a t = ((j ≡ id) × Has ds j (suc a) t) ⊎ ((j ≢ id) × Has ds j a t)

  pub has_behind : (ds : List (Doing C)) (id j a : ℕ) (d w : Doing C) (old t : Ticket) → get_elem? ds id ≡ some d → d.tickets ≡ old ∷ w.tickets → Has (set ds id w) j a t → Behind ds id j a t
  has_behind ds id j a d w old t at was h = ⊎_elim
      (λ (e : (j ≡ id) × (get_elem? w.tickets a ≡ some t)). inl (e.0, has_at ds id j (suc a) d t at e.0 (subst (λ (l : List Ticket). get_elem? l (suc a) ≡ some t) (sym was) e.1)))
      (λ (e : (j ≢ id) × Has ds j a t). inr e) (has_set ds id j a w t h)

  pub follows_behind : (ds : List (Doing C)) (id : ℕ) (d w : Doing C) (old : Ticket) → get_elem? ds id ≡ some d → d.tickets ≡ old ∷ w.tickets → Follows ds (set ds id w) (shift id (λ b. b - 1))
  follows_behind ds id d w old at was j a t h = ⊎_elim
      (λ (e : (j ≡ id) × Has ds j (suc a) t). (suc a, t, e.1, (let g : a ≡ suc a - 1 = omega arith in g) ∙ sym (shift_here id (λ b. b - 1) j (suc a) e.0), refl, refl))
      (λ (e : (j ≢ id) × Has ds j a t). (a, t, e.1, sym (shift_else id (λ b. b - 1) j a e.0), refl, refl)) (has_behind ds id j a d w old t at was h)

  -- the other tickets stay when the first is gone
  pub has_left : (ds : List (Doing C)) (id j a : ℕ) (d w : Doing C) (old t : Ticket) → get_elem? ds id ≡ some d → d.tickets ≡ old ∷ w.tickets → (t.slot ≡ old.slot → t.number ≢ old.number) → Has ds j a t → (b : ℕ) × Has (set ds id w) j b t
  has_left ds id j a d w old t at was other h = dite (ℕ_discrete j id)
      (λ e. let b = rest_at old t w.tickets a other (subst (λ (l : List Ticket). get_elem? l a ≡ some t) was (has_mine ds id j a d t at e h)) in (b.0, subst (λ (i : ℕ). Has (set ds id w) i b.0 t) (sym e) (has_here ds id b.0 d w t at b.1)))
      (λ ne. (a, has_else ds id j a w t ne h))

  -- a seat with no ticket comes
  pub has_more : (ds : List (Doing C)) (w : Doing C) (j a : ℕ) (t : Ticket) → w.tickets ≡ [] → Has (ds ++ w ∷ []) j a t → Has ds j a t
  has_more ds w j a t bare h = ⊎_elim (λ (e : get_elem? ds j ≡ some h.0). (h.0, e, h.2))
      (λ (e : w ≡ h.0). absurd (some-ne-none t (sym (subst (λ (l : List Ticket). get_elem? l a ≡ some t) (ap (λ (d : Doing C). d.tickets) (sym e) ∙ bare) h.2)))) (at_snoc ds w h.0 j h.1)

  pub has_longer : (ds : List (Doing C)) (w : Doing C) (j a : ℕ) (t : Ticket) → Has ds j a t → Has (ds ++ w ∷ []) j a t
  has_longer ds w j a t h = (h.0, at_longer ds (w ∷ []) j h.0 h.1, h.2)
