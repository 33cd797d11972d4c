-- Ticks of a seat, one after another.
use Rattle.std.proofs.Common.{◌≡◌, ◌≢◌, ℕ, ◌+◌, ◌≤◌, Bool, cond, List, [], ◌∷◌, ◌++◌, map, refl, ap, ap₂, sym, ◌∙◌, arith, append-nil, append_assoc, eq-eqb, ne_eqb}
use Rattle.std.proofs.lemmas.List.{map-append}
use Rattle.turn_facts.specs.Notes.{of}
use Rattle.turn_table.specs.Knowledge.{at_slot}
use Rattle.turn_table.specs.Seats.{Table, SeatView}
use Rattle.seat_walks.specs.Walks.{Turned, Took, Walked, all_notes}
use Rattle.seat_walks.proofs.Walking.{walked}
use Rattle.journal_model.specs.declared.notes.Note.{Note}
use Rattle.shard_core.specs.Shards.{ChannelBase}
use Rattle.call_model.specs.Turns.{by_of, time_of, Ticks}
use Rattle.call_model.specs.Walks.{Did}
use Rattle.shard_calls.specs.Calls.{IsIdle}
use Rattle.shard_calls.specs.Fronts.{IsReady, Spends}
use Rattle.shard_threads.specs.Jobs.{own_notes, tick_at, Ticked}

-- ---- what is left of a seat
pub spends_none : (s : SeatView Note ChannelBase) → Spends 0 s s
spends_none s = record { table = refl; turns = refl; number = refl; joined = refl; allowance = omega arith; share = refl; drawn = λ x p. p }

pub spends_more : (n m : ℕ) (a b c : SeatView Note ChannelBase) → Spends n a b → Spends m b c → Spends (n + m) a c
spends_more n m a b c p q =
    let first : a.allowance ≤ b.allowance + n = p.allowance in
    let then : b.allowance ≤ c.allowance + m = q.allowance in
    record {
      table = q.table ∙ p.table;
      turns = q.turns ∙ p.turns;
      number = q.number ∙ p.number;
      joined = q.joined ∙ p.joined;
      allowance = omega arith;
      share = q.share ∙ p.share;
      drawn = λ x h. q.drawn x (p.drawn x h);
    }

pub spends_within : (n m : ℕ) (a b : SeatView Note ChannelBase) → n ≤ m → Spends n a b → Spends m a b
spends_within n m a b few p =
    let spent : a.allowance ≤ b.allowance + n = p.allowance in
    record { table = p.table; turns = p.turns; number = p.number; joined = p.joined; allowance = omega arith; share = p.share; drawn = p.drawn }

pub still_ready : (t : Table ChannelBase) (n m k : ℕ) (a b : SeatView Note ChannelBase) → IsReady t n a → Spends m a b → m + k ≤ n → IsReady t k b
still_ready t n m k a b r p few =
    let spent : a.allowance ≤ b.allowance + m = p.allowance in
    let had : n ≤ a.allowance = r.enough in
    record { same = p.table ∙ r.same; rest = p.turns ∙ r.rest; enough = omega arith }

-- ---- what it noted
pub ticked_none : (line k : ℕ) (s : SeatView Note ChannelBase) → Ticked line k [] s s
ticked_none line k s = record { drawn = sym (append-nil s.drawn); own = sym (append-nil (own_notes s k)); others = λ j n. refl; number = refl }

pub ticked_more : (line k : ℕ) (xs ys : List ℕ) (a b c : SeatView Note ChannelBase) → Ticked line k xs a b → Ticked line k ys b c → Ticked line k (xs ++ ys) a c
ticked_more line k xs ys a b c p q =
    let notes : List ℕ → List Note = map (tick_at a.number line) in
    let later : map (tick_at b.number line) ys ≡ notes ys = ap (λ (n : ℕ). map (tick_at n line) ys) p.number in
    record {
      drawn = q.drawn ∙ ap (λ (l : List ℕ). l ++ ys) p.drawn ∙ append_assoc a.drawn xs ys;
      own = q.own ∙ ap₂ (λ (l m : List Note). l ++ m) p.own later ∙ append_assoc (own_notes a k) (notes xs) (notes ys) ∙ ap (λ (l : List Note). own_notes a k ++ l) (sym (map-append (tick_at a.number line) xs ys));
      others = λ j n. q.others j n ∙ p.others j n;
      number = q.number ∙ p.number;
    }

-- the notes of one turn of a channel
noted_there : (k : ℕ) (t : Turned Note) → t.slot ≡ k → all_notes k (Took t ∷ []) ≡ t.notes
noted_there k t at = append-nil _ ∙ ap (λ (b : Bool). cond b t.notes []) (eq-eqb t.slot k at)

noted_elsewhere : (j : ℕ) (t : Turned Note) → t.slot ≢ j → all_notes j (Took t ∷ []) ≡ []
noted_elsewhere j t apart = append-nil _ ∙ ap (λ (b : Bool). cond b t.notes []) (ne_eqb t.slot j apart)

-- a turn of the channel at which it noted ticks at the numbers that it drew
pub ticked_in : (line k : ℕ) (xs : List ℕ) (s e : SeatView Note ChannelBase) (t : Turned Note) → Did s (Took t ∷ []) e → t.slot ≡ k → t.notes ≡ map (tick_at s.number line) xs → t.drawn ≡ xs → Ticked line k xs s e
ticked_in line k xs s e t did at notes drawn =
    let w : Walked by_of time_of s (Took t ∷ []) e = walked by_of time_of s (Took t ∷ []) e did in
    let same : (j : ℕ) → of by_of e.number (at_slot e.seen j) ≡ of by_of s.number (at_slot e.seen j) = λ j. ap (λ (n : ℕ). of by_of n (at_slot e.seen j)) w.named in
    record {
      drawn = w.drawn ∙ ap (λ (l : List ℕ). s.drawn ++ l) (append-nil t.drawn ∙ drawn);
      own = same k ∙ w.own k ∙ ap (λ (l : List Note). own_notes s k ++ l) (noted_there k t at ∙ notes);
      others = λ j n. same j ∙ w.own j ∙ ap (λ (l : List Note). own_notes s j ++ l) (noted_elsewhere j t (λ q. n (sym q ∙ at))) ∙ append-nil (own_notes s j);
      number = w.named;
    }

pub ticked_once : (line k x : ℕ) (s e : SeatView Note ChannelBase) (t : Turned Note) → Did s (Took t ∷ []) e → t.slot ≡ k → Ticks s.number line x t.notes t.drawn → Ticked line k (x ∷ []) s e
ticked_once line k x s e t did at ticks = ticked_in line k (x ∷ []) s e t did at ticks.noted ticks.drawn

pub ticked_idle : (line k : ℕ) (s e : SeatView Note ChannelBase) (t : Turned Note) → Did s (Took t ∷ []) e → t.slot ≡ k → IsIdle t.notes t.drawn → Ticked line k [] s e
ticked_idle line k s e t did at idle = ticked_in line k [] s e t did at idle.none idle.undrawn

pub one_more : (line k x : ℕ) (xs : List ℕ) (a b c : SeatView Note ChannelBase) (t : Turned Note) → Ticked line k xs a b → Did b (Took t ∷ []) c → t.slot ≡ k → Ticks b.number line x t.notes t.drawn → Ticked line k (xs ++ x ∷ []) a c
one_more line k x xs a b c t before did at ticks = ticked_more line k xs (x ∷ []) a b c before (ticked_once line k x b c t did at ticks)
