-- One turn more, in a round over the channels.
use Rattle.std.proofs.Common.{◌≡◌, ℕ, ◌+◌, ◌≤◌, Bool, List, [], ◌∷◌, ◌++◌, length, map, min, refl, sym, ap, subst, ◌∙◌, arith}
use Rattle.std.proofs.lemmas.List.{map-append}
use Rattle.hybrid_time.specs.declared.times.Timestamp.{Timestamp}
use Rattle.coarse_lists.specs.declared.collections.Collection.{Collection}
use Rattle.journal_model.specs.declared.notes.Note.{Note}
use Rattle.turn_table.specs.Seats.{SeatView}
use Rattle.seat_walks.specs.Walks.{Turned, Step, Took}
use Rattle.seat_walks.proofs.Walking.{walks_append}
use Rattle.call_model.specs.Turns.{by_of, time_of, Ticks, Seals}
use Rattle.call_model.specs.Calls.{channel_at, tick_left, AreTicks, AreSeals, LooksAt, AreLooks, least_from, least_tick}
use Rattle.call_model.specs.Walks.{Did}

pub did_more : {B : Type 0} (s m e : SeatView Note B) (turns : List (Turned Note)) (t : Turned Note) → Did s (map Took turns) m → Did m (Took t ∷ []) e → Did s (map Took (turns ++ t ∷ [])) e
did_more s m e turns t d f =
    subst (λ (steps : List (Step Note)). Did s steps e) (sym (map-append Took turns (t ∷ []))) (walks_append by_of time_of s m e (map Took turns) (Took t ∷ []) d f)

pub ticks_more : (by line k : ℕ) (turns : List (Turned Note)) (stamps : List Timestamp) (t : Turned Note) (ts : Timestamp) → AreTicks by line k turns stamps → t.slot ≡ k + length stamps → Ticks by line ts.0 t.notes t.drawn
    → AreTicks by line k (turns ++ t ∷ []) (stamps ++ ts ∷ [])
ticks_more by line k [] [] t ts a slot c = ((let e : t.slot ≡ k = omega arith in e), c, tt)
ticks_more by line k [] (x ∷ stamps) t ts a slot c = absurd a
ticks_more by line k (u ∷ turns) [] t ts a slot c = absurd a
ticks_more by line k (u ∷ turns) (x ∷ stamps) t ts a slot c = (a.0, a.1, ticks_more by line (k + 1) turns stamps t ts a.2 (omega arith) c)

pub seals_more : (collection : Collection) (by line k j : ℕ) (turns : List (Turned Note)) (seals : List (Timestamp × ℕ)) (t : Turned Note) (seal : Timestamp × ℕ) → AreSeals collection by line k turns seals → j ≡ k + length seals → t.slot ≡ j
    → Seals (channel_at collection j) by line seal.0.0 seal.1 t.before t.notes t.drawn → AreSeals collection by line k (turns ++ t ∷ []) (seals ++ seal ∷ [])
seals_more collection by line k j [] [] t seal a is slot c =
    let same : j ≡ k = omega arith in (slot ∙ same, subst (λ (n : ℕ). Seals (channel_at collection n) by line seal.0.0 seal.1 t.before t.notes t.drawn) same c, tt)
seals_more collection by line k j [] (x ∷ seals) t seal a is slot c = absurd a
seals_more collection by line k j (u ∷ turns) [] t seal a is slot c = absurd a
seals_more collection by line k j (u ∷ turns) (x ∷ seals) t seal a is slot c = (a.0, a.1, seals_more collection by line (k + 1) j turns seals t seal a.2 (omega arith) slot c)

pub looks_more : (by line guarantee : ℕ) (wait : Bool) (k j : ℕ) (turns : List (Turned Note)) (t : Turned Note) → AreLooks by line guarantee wait k turns → j ≡ k + length turns → LooksAt by line guarantee wait j t → guarantee ≤ tick_left t
    → AreLooks by line guarantee wait k (turns ++ t ∷ [])
looks_more by line guarantee wait k j [] t a is l g = (subst (λ (n : ℕ). LooksAt by line guarantee wait n t) (let e : j ≡ k = omega arith in e) l, g, tt)
looks_more by line guarantee wait k j (u ∷ turns) t a is l g = (a.0, a.1, looks_more by line guarantee wait (k + 1) j turns t a.2 (omega arith) l g)

pub least_from-more : (ts : ℕ) (turns : List (Turned Note)) (t : Turned Note) → least_from ts (turns ++ t ∷ []) ≡ min (least_from ts turns) (tick_left t)
least_from-more ts [] t = refl
least_from-more ts (u ∷ turns) t = least_from-more (min ts (tick_left u)) turns t

-- a fold that starts at a number that the first tick is not above gives the least tick
pub least_tick-most : (most : ℕ) (t : Turned Note) (turns : List (Turned Note)) → tick_left t ≤ most → least_from most (t ∷ turns) ≡ least_tick (t ∷ turns)
least_tick-most most t turns low = ap (λ (ts : ℕ). least_from ts turns) (let m : min most (tick_left t) ≡ tick_left t = omega arith in m)
