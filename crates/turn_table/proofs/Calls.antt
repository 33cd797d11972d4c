-- What the calls of a table owe, of seats as callers see them.
use Rattle.std.proofs.Common.{◌≡◌, ℕ, ◌+◌, ◌-◌, ◌%◌, ◌^◌, ◌<◌, ◌≤◌, Bool, cond, List, [], ◌∷◌, ◌++◌, length, map, drop, max, Option, None, refl, ap, sym, ◌∙◌, subst, arith, get_or-set_same}
use lib.ListN.{get_elem?}
use Rattle.atomic_table.specs.Seated.{TableId}
use Rattle.turn_lock.specs.Client.{Moves, MovesOut, Gives, Forks, Merges, AllHome, Ended}
use Rattle.turn_lock.specs.Passes.{Pass, IsStill}
use Rattle.turn_lock.specs.declared.tickets.Ticket.{Ticket}
use Rattle.turn_facts.specs.Counts.{count, Among}
use Rattle.turn_facts.specs.Notes.{of, times, Adds}
use Rattle.turn_facts.specs.Prefixes.{IsAt}
use Rattle.turn_facts.proofs.Counts.{count-here}
use Rattle.turn_facts.proofs.Notes.{adds_starts}
use Rattle.turn_facts.proofs.Prefixes.{starts_length}
use Rattle.turn_table.specs.declared.knows.Know.{Know}
use Rattle.turn_table.specs.declared.knows.Part.{Part}
use Rattle.turn_table.specs.declared.turns.Turn.{Turn}
use Rattle.turn_table.specs.Knowledge.{at_slot, numbers, weight, part, counted, left, numbered, offered, stayed, given, joined, settled, spent}
use Rattle.turn_table.specs.Rule.{Kept, Grew, clock}
use Rattle.turn_table.specs.Seats.{SeatView, known, seat_view, IsSeat, IsGiven, fresh, part_of}
use Rattle.turn_table.specs.Tells.{Drew, Numbers, Settled}
use Rattle.turn_table.proofs.Ending.{Ends, ends_home, ends}
use Rattle.turn_table.proofs.Sharing.{length-longer_each}
use Rattle.turn_table.proofs.Steps.{counts, leaves, draws, gets_number, splits, joins}

module _ {S N B : Type 0} where
  -- what a seat has to its name, where callers see the same
  pub numbers_are : (p : Pass S (Know N B)) (n : ℕ) → IsSeat p n → numbers (known p) ≡ (known p).number ∷ (known p).joined
  numbers_are p n i = ap (λ (b : Bool). cond b ((known p).number ∷ []) [] ++ ((known p).spare ++ (known p).joined)) i.live ∙ ap (λ (l : List ℕ). (known p).number ∷ (l ++ (known p).joined)) i.spare

  inside_is : (p : Pass S (Know N B)) (s : SeatView N B) (n : ℕ) (ts : List Ticket) → seat_view p ≡ s → IsSeat p n → s.turns ≡ ts → (known p).inside ≡ map (λ (t : Ticket). t.slot) ts
  inside_is p s n ts e i h = i.inside ∙ ap (map (λ (t : Ticket). t.slot)) (ap (λ (x : SeatView N B). x.turns) e ∙ h)

module _ {S N B : Type 0} (journal : S → List N) (base : S → B) (number : N → ℕ) (time : N → Option ℕ) where
  pub draws_call : (p : Pass S (Know N B)) (s : SeatView N B) (n : ℕ) → seat_view p ≡ s → IsSeat p n → 1 ≤ s.allowance → Moves (Kept journal base number time) p.id (known p) 0 (λ x. (x + 1) % 2 ^ 64) (Drew time (known p))
  draws_call p s n e i one = let a : (known p).allowance ≡ s.allowance = ap (λ (x : SeatView N B). x.allowance) e in draws journal base number time p.id (known p) i.live (omega arith)

  pub numbers_call : (p : Pass S (Know N B)) (s : SeatView N B) (n : ℕ) → seat_view p ≡ s → IsSeat p n → 1 ≤ s.allowance → Moves (Kept journal base number time) p.id (known p) 1 (λ x. (x + 1) % 2 ^ 64) (Numbers (known p))
  numbers_call p s n e i one = let a : (known p).allowance ≡ s.allowance = ap (λ (x : SeatView N B). x.allowance) e in gets_number journal base number time p.id (known p) i.live (omega arith)

  pub counts_call : (p : Pass S (Know N B)) (s : SeatView N B) (n : ℕ) (t : Turn S) (found : ℕ) → seat_view p ≡ s → IsSeat p n → IsGiven s t → Adds number time s.number (fresh s) (at_slot s.seen t.slot) (journal t.value) → found ≡ length (journal t.value) → found < 2 ^ 56
      → MovesOut (Kept journal base number time) p.id (known p) t.slot (t.slot + 2) (λ x. (x + (found - t.before)) % 2 ^ 64) (λ x w. w ≡ counted (known p) t.slot (journal t.value))
  counts_call p s n t found e i g adds is few =
      let v : Know N B = known p in
      let k : ℕ = t.slot in
      let l : List N = journal t.value in
      let ins : v.inside ≡ k ∷ [] = inside_is p s n _ e i g.held in
      let among : Among k v.inside = let a : count k v.inside ≡ count k (k ∷ []) = ap (count k) ins in let b : count k (k ∷ []) ≡ 1 + count k [] = count-here k [] in omega arith in
      let adds' : Adds number time v.number (drop v.mark v.drawn) (at_slot v.seen k) l = subst (λ (x : SeatView N B). Adds number time x.number (fresh x) (at_slot x.seen k) l) (sym e) adds in
      let before : t.before ≡ length (at_slot v.seen k) = g.before ∙ ap (λ (x : SeatView N B). length (at_slot x.seen k)) (sym e) in
      let longer : length (at_slot v.seen k) ≤ length l = starts_length (adds_starts number time adds') in
      counts journal base number time p.id v k (found - t.before) l i.live among adds' (omega arith) (omega arith)

  pub leaves_call : (id : ℕ) (p : Pass S (Know N B)) (s : SeatView N B) (n : ℕ) (t : Turn S) (w : Know N B) (k : ℕ) (y : S) → seat_view p ≡ s → IsSeat p n → IsGiven s t → IsAt s.table.bases t.slot (base t.value) → w ≡ counted (known p) t.slot (journal t.value) → k ≡ t.slot → y ≡ t.value
      → Gives (Kept journal base number time) id w k y (λ u. u ≡ left w)
  leaves_call id p s n t w k y e i g b is ek ey =
      let v : Know N B = known p in
      let l : List N = journal t.value in
      let ins : w.inside ≡ t.slot ∷ [] = ap (λ (x : Know N B). x.inside) is ∙ inside_is p s n _ e i g.held in
      let ins' : w.inside ≡ t.slot ∷ drop 1 w.inside = ins ∙ ap (λ (x : List ℕ). t.slot ∷ x) (sym (ap (drop 1) ins)) in
      let here : t.slot < length v.seen = let a : length v.seen ≡ length s.seen = ap (λ (x : SeatView N B). length x.seen) e in let c : t.slot < length s.seen = g.slot in omega arith in
      let seen : at_slot w.seen t.slot ≡ l = ap (λ (x : Know N B). at_slot x.seen t.slot) is ∙ get_or-set_same v.seen t.slot l [] here in
      let bases : w.bases ≡ s.table.bases = ap (λ (x : Know N B). x.bases) is ∙ ap (λ (x : SeatView N B). x.table.bases) e in
      subst (λ (a : ℕ). Gives (Kept journal base number time) id w a y (λ u. u ≡ left w)) (sym ek)
      (subst (λ (a : S). Gives (Kept journal base number time) id w t.slot a (λ u. u ≡ left w)) (sym ey)
      (leaves journal base number time id w t.slot t.value ins' (sym seen) (subst (λ (x : List B). IsAt x t.slot (base t.value)) (sym bases) b)))

  pub splits_call : (id : ℕ) (p : Pass S (Know N B)) (s : SeatView N B) (n : ℕ) (u w : Know N B) (x a : ℕ) → seat_view p ≡ s → IsSeat p n → Numbers (known p) x u → w ≡ offered u a → a + 1 < s.allowance → Forks (Kept journal base number time) id w (stayed w) (given w)
  splits_call id p s n u w x a e i num is more =
      let v : Know N B = known p in
      let z : Know N B = offered (numbered v x) a in
      let is_z : w ≡ z = is ∙ ap (λ (y : Know N B). offered y a) num.is in
      let all : v.allowance ≡ s.allowance = ap (λ (y : SeatView N B). y.allowance) e in
      subst (λ (y : Know N B). Forks (Kept journal base number time) id y (stayed y) (given y)) (sym is_z) (splits journal base number time id z i.live (omega arith) refl)

  pub joins_call : (p q : Pass S (Know N B)) (s o : SeatView N B) (n m : ℕ) → seat_view p ≡ s → IsSeat p n → seat_view q ≡ o → IsSeat q m → o.turns ≡ [] → Merges (Kept journal base number time) p.id (known p) q.id (known q) (joined (known p) (known q)) spent
  joins_call p q s o n m e i f j rest = joins journal base number time p.id q.id (known p) (known q) i.live j.live (inside_is q o m [] f j rest)

module _ {S N B : Type 0} (number : N → ℕ) where
  -- after a join and the step that learns of it
  pub joined_seat : (p q p' p'' : Pass S (Know N B)) (n m : ℕ) → IsSeat p n → IsSeat q m → q.table_id ≡ p.table_id → IsStill p p' → known p' ≡ joined (known p) (known q) → IsStill p' p'' → Settled number (known p') (known p'') → IsSeat p'' n
  joined_seat p q p' p'' n m i j same st is st' se =
      let all : known p'' ≡ settled (joined (known p) (known q)) = se.is ∙ ap settled is in
      let tickets : p''.me.0.tickets ≡ p.me.0.tickets = st'.1.0 ∙ st.1.0 in
      let slots : p''.table_id.slots ≡ p.table_id.slots = ap (λ (x : TableId). x.slots) (st'.0.0 ∙ st.0.0) in
      let len : length (known p).seen ≡ length (known q).seen = i.long ∙ sym (j.long ∙ ap (λ (x : TableId). x.slots) same) in
      record {
        live = ap (λ (x : Know N B). x.live) all ∙ i.live;
        named = i.named ∙ sym (ap (λ (x : Know N B). x.number) all);
        spare = ap (λ (x : Know N B). x.spare) all ∙ ap (λ (x : List ℕ). x ++ (known q).spare) i.spare ∙ j.spare;
        parts = ap (λ (x : Know N B). x.parts) all;
        long = ap (λ (x : Know N B). length x.seen) all ∙ length-longer_each (known p).seen (known q).seen len ∙ i.long ∙ sym slots;
        inside = ap (λ (x : Know N B). x.inside) all ∙ i.inside ∙ ap (map (λ (t : Ticket). t.slot)) (sym tickets);
        carried = st'.1.1 ∙ st.1.1 ∙ i.carried ∙ ap (map (λ (t : Ticket). (t.slot, None))) (sym tickets);
      }

  grew_of : (p : Pass S (Know N B)) (s : SeatView N B) (n : ℕ) (seen seen' : List (List N)) → seat_view p ≡ s → IsSeat p n → seen' ≡ seen → Grew number seen (part (known p)) → Grew number seen' (part_of s)
  grew_of p s n seen seen' e i same g =
      let is : part (known p) ≡ part_of s = ap (λ (l : List ℕ). let r : Part N = record { numbers = l; seen = (known p).seen } in r) (numbers_are p n i) ∙ ap (λ (x : SeatView N B). part_of x) e in
      subst (λ (l : List (List N)). Grew number l (part_of s)) (sym same) (subst (λ (x : Part N). Grew number seen x) is g)

  pub joined_left : (p q p' p'' : Pass S (Know N B)) (s : SeatView N B) (n : ℕ) → seat_view p ≡ s → IsSeat p n → known p' ≡ joined (known p) (known q) → Settled number (known p') (known p'') → Grew number (known p'').seen (part_of s)
  joined_left p q p' p'' s n e i is se = grew_of p s n (known p').seen (known p'').seen e i (ap (λ (x : Know N B). x.seen) se.is) (se.grown 0 (part (known p)) (ap (λ (x : Know N B). get_elem? x.parts 0) is))

  pub joined_right : (p q p' p'' : Pass S (Know N B)) (o : SeatView N B) (m : ℕ) → seat_view q ≡ o → IsSeat q m → known p' ≡ joined (known p) (known q) → Settled number (known p') (known p'') → Grew number (known p'').seen (part_of o)
  joined_right p q p' p'' o m f j is se = grew_of q o m (known p').seen (known p'').seen f j (ap (λ (x : Know N B). x.seen) se.is) (se.grown 1 (part (known q)) (ap (λ (x : Know N B). get_elem? x.parts 1) is))

module _ {S N B : Type 0} (journal : S → List N) (base : S → B) (number : N → ℕ) (time : N → Option ℕ) where
  has_all : (p : Pass S (Know N B)) (s : SeatView N B) (n : ℕ) → seat_view p ≡ s → IsSeat p n → s.allowance + (length s.drawn + length s.joined) ≡ 2 ^ 40 → weight (known p) ≡ 2 ^ 40 + 1
  has_all p s n e i all =
      let v : Know N B = known p in
      let a : v.allowance + (length v.drawn + length v.joined) ≡ 2 ^ 40 = subst (λ (x : SeatView N B). x.allowance + (length x.drawn + length x.joined) ≡ 2 ^ 40) (sym e) all in
      let b : cond {A = ℕ} v.live 1 0 ≡ 1 = ap (λ (x : Bool). cond {A = ℕ} x 1 0) i.live in
      let c : length v.spare ≡ 0 = ap length i.spare in
      omega arith

  pub closes_call : (p : Pass S (Know N B)) (s : SeatView N B) (n : ℕ) → seat_view p ≡ s → IsSeat p n → s.turns ≡ [] → s.allowance + (length s.drawn + length s.joined) ≡ 2 ^ 40 → AllHome (Kept journal base number time) p.id (known p)
  closes_call p s n e i rest all = ends_home journal base number time p.id (known p) (has_all p s n e i all) (inside_is p s n [] e i rest)

  -- what `close` tells of the seat s that ends a table, and of the values xs and the number c that it gives
  pub record Closed (s : SeatView N B) (c : ℕ) (xs : List S) : Type 0 where
    pub journals : map journal xs ≡ s.seen
    pub bases : map base xs ≡ s.table.bases
    pub first : s.table.first ≤ c
    pub whose : (k n : ℕ) → count n (s.number ∷ s.joined) ≡ 0 → of number n (at_slot s.seen k) ≡ of number n (at_slot s.origin k)
    pub since : (x : ℕ) → Among x s.drawn → s.table.first ≤ x
    pub drawn : (x : ℕ) → Among x s.drawn → x < c
    pub times : (k x : ℕ) → Among x (times time (at_slot s.seen k)) → x < c
    pub most : c ≤ 2 ^ 40 + max s.table.first (2 ^ 63)

  pub closed : (p : Pass S (Know N B)) (s : SeatView N B) (n c : ℕ) (ws : List ℕ) (xs : List S) → seat_view p ≡ s → IsSeat p n → s.allowance + (length s.drawn + length s.joined) ≡ 2 ^ 40 → Ended (Kept journal base number time) p.id (known p) ws xs → c ≡ clock ws
      → Closed s c xs
  closed p s n c ws xs e i all end is =
      let d : Ends journal base number time (known p) ws xs = ends journal base number time p.id (known p) ws xs i.live (has_all p s n e i all) end in
      subst (λ (z : SeatView N B × ℕ). Closed z.0 z.1 xs) (λ j. (e j, sym is j)) record {
        journals = d.journals;
        bases = d.bases;
        first = d.first;
        whose = λ k m z. d.whose k m (ap (count m) (numbers_are p n i) ∙ z);
        since = d.since;
        drawn = d.drawn;
        times = d.times;
        most = d.most;
      }
