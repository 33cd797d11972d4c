-- Rounds of a ticker, and the notes that they leave.
use Rattle.std.proofs.Common.{◌≡◌, ℕ, zero, suc, ◌+◌, ◌<◌, ◌≤◌, ◌≢◌, ◌==◌, ⊎_elim, cond, Bool, eq-eqb, ne_eqb, List, [], ◌∷◌, ◌++◌, length, map, refl, ap, sym, ◌∙◌, subst, arith, append-nil, append_assoc}
use Rattle.turn_facts.proofs.Places.{same_or}
use Rattle.turn_table.specs.Seats.{SeatView}
use Rattle.hybrid_time.specs.declared.times.Timestamp.{Timestamp}
use Rattle.coarse_lists.specs.declared.collections.Collection.{Collection}
use Rattle.journal_model.specs.declared.notes.Note.{Note}
use Rattle.seat_walks.specs.Walks.{Turned, Step, Took, Lift, all_notes}
use Rattle.seat_walks.proofs.Walking.{walks_append}
use Rattle.shard_core.specs.Shards.{ChannelBase}
use Rattle.call_model.specs.Turns.{by_of, time_of}
use Rattle.call_model.specs.Calls.{AreTicks, TicksAll}
use Rattle.call_model.specs.Walks.{Did}
use Rattle.phase_model.specs.Meets.{meet_tick}
use Rattle.phase_run.specs.Callers.{IsRound, AreRounds, Ticked}
use Rattle.phase_run.proofs.Serving.{notes_append}

pub rounds_more : (collection : Collection) (least by n : ℕ) (xs ys : List (Step Note)) → AreRounds collection least by n xs → IsRound collection least by ys → AreRounds collection least by (suc n) (xs ++ ys)
rounds_more collection least by zero xs ys a r = (ys, [], ap (λ (l : List (Step Note)). l ++ ys) a ∙ sym (append-nil ys), r, refl)
rounds_more collection least by (suc n) xs ys a r = (a.0, a.1 ++ ys, ap (λ (l : List (Step Note)). l ++ ys) a.2 ∙ append_assoc a.0 a.1 ys, a.3, rounds_more collection least by n a.1 ys a.4 r)

pub rounds_none : (collection : Collection) (least : ℕ) (s : SeatView Note ChannelBase) → Ticked collection least 0 s s
rounds_none collection least s = record { steps = []; did = refl; ticks = refl }

pub ticked_more : (collection : Collection) (least n : ℕ) (s m e : SeatView Note ChannelBase) → m.number ≡ s.number → Ticked collection least n s m → (steps : List (Step Note)) × Did m steps e × IsRound collection least m.number steps → Ticked collection least (n + 1) s e
ticked_more collection least n s m e named p r = record {
  steps = p.steps ++ r.0;
  did = walks_append by_of time_of s m e p.steps r.0 p.did r.1;
  ticks = subst (λ (k : ℕ). AreRounds collection least s.number k (p.steps ++ r.0)) (let k : suc n ≡ n + 1 = omega arith in k)
      (rounds_more collection least s.number n p.steps r.0 p.ticks (subst (λ (by : ℕ). IsRound collection least by r.0) named r.2));
}

-- one round
pub ticked_round : (collection : Collection) (least moment by : ℕ) (turns : List (Turned Note)) (stamps : List Timestamp) (s m e : SeatView Note ChannelBase) → least ≤ moment → Did s (Lift moment ∷ []) m → Did m (map Took turns) e
    → AreTicks by 0 0 turns stamps → length stamps ≡ collection.channels → (steps : List (Step Note)) × Did s steps e × IsRound collection least by steps
ticked_round collection least moment by turns stamps s m e late lift did ticks all = (
  Lift moment ∷ map Took turns,
  walks_append by_of time_of s m e (Lift moment ∷ []) (map Took turns) lift did,
  record { moment = moment; ticking = map Took turns; stamps = stamps; later = late; only = refl; ticks = record { turns = turns; only = refl; ticks = ticks; all = all } },
)

-- ---- the notes of rounds

none_before : (by k j : ℕ) (turns : List (Turned Note)) (stamps : List Timestamp) → AreTicks by 0 j turns stamps → k < j → all_notes k (map Took turns) ≡ []
none_before by k j [] [] a low = refl
none_before by k j [] (ts ∷ stamps) a low = absurd a
none_before by k j (t ∷ turns) [] a low = absurd a
none_before by k j (t ∷ turns) (ts ∷ stamps) a low =
    let other : t.slot ≢ k = λ e. (let s : t.slot ≡ j = a.0 in omega arith) in
    ap (λ (b : Bool). cond b t.notes [] ++ all_notes k (map Took turns)) (ne_eqb t.slot k other) ∙ none_before by k (j + 1) turns stamps a.2 (omega arith)

one_there : (by k j : ℕ) (turns : List (Turned Note)) (stamps : List Timestamp) → AreTicks by 0 j turns stamps → j ≤ k → k < j + length stamps → (ts : ℕ) × (all_notes k (map Took turns) ≡ meet_tick by ts ∷ [])
one_there by k j [] [] a low high = absurd (omega arith)
one_there by k j [] (ts ∷ stamps) a low high = absurd a
one_there by k j (t ∷ turns) [] a low high = absurd a
one_there by k j (t ∷ turns) (ts ∷ stamps) a low high =
    let slot : t.slot ≡ j = a.0 in
    ⊎_elim
    (λ (e : t.slot ≡ k). (
      ts.0,
      ap (λ (b : Bool). cond b t.notes [] ++ all_notes k (map Took turns)) (eq-eqb t.slot k e)
          ∙ ap (λ (l : List Note). t.notes ++ l) (none_before by k (j + 1) turns stamps a.2 (omega arith)) ∙ append-nil t.notes ∙ a.1.noted,
    ))
    (λ (n : t.slot ≢ k).
    let r = one_there by k (j + 1) turns stamps a.2 (omega arith) (omega arith) in
    (r.0, ap (λ (b : Bool). cond b t.notes [] ++ all_notes k (map Took turns)) (ne_eqb t.slot k n) ∙ r.1))
    (same_or t.slot k)

round_notes : (collection : Collection) (least by k : ℕ) (steps : List (Step Note)) → k < collection.channels → IsRound collection least by steps → (ts : ℕ) × (all_notes k steps ≡ meet_tick by ts ∷ [])
round_notes collection least by k steps low r =
    let all : length r.stamps ≡ collection.channels = r.ticks.all in
    let one = one_there by k 0 r.ticks.turns r.stamps r.ticks.ticks (omega arith) (omega arith) in
    (one.0, ap (all_notes k) (r.only ∙ ap (λ (l : List (Step Note)). Lift r.moment ∷ l) r.ticks.only) ∙ one.1)

-- rounds leave a tick each in every channel, and nothing else
pub ticked_notes : (collection : Collection) (least by n k : ℕ) (steps : List (Step Note)) → k < collection.channels → AreRounds collection least by n steps
    → (stamps : List ℕ) × (length stamps ≡ n) × (all_notes k steps ≡ map (meet_tick by) stamps)
ticked_notes collection least by zero k steps low a = ([], refl, ap (all_notes k) a)
ticked_notes collection least by (suc n) k steps low a =
    let one = round_notes collection least by k a.0 low a.3 in
    let more = ticked_notes collection least by n k a.1 low a.4 in (
      one.0 ∷ more.0,
      ap suc more.1,
      ap (all_notes k) a.2 ∙ notes_append k a.0 a.1 ∙ ap (λ (l : List Note). l ++ all_notes k a.1) one.1 ∙ ap (λ (l : List Note). meet_tick by one.0 ∷ l) more.2,
    )
