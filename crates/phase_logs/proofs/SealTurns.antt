-- The seal of a line in a channel, as it stands at the end.
use Rattle.std.proofs.Common.{◌≡◌, ℕ, zero, suc, ◌+◌, ◌<◌, List, [], ◌∷◌, length, map, refl, sym, subst, ◌∙◌, arith}
use mathlib.Core.Option.{some-injective, some-ne-none}
use Rattle.turn_facts.specs.Counts.{Among}
use Rattle.turn_facts.specs.Notes.{times}
use Rattle.turn_facts.specs.Prefixes.{IsAt}
use Rattle.turn_facts.proofs.Places.{at_map}
use Rattle.turn_table.specs.Knowledge.{at_slot}
use Rattle.seat_walks.specs.Walks.{Turned, Step, Took}
use Rattle.hybrid_time.specs.declared.times.Timestamp.{Timestamp}
use Rattle.coarse_lists.specs.declared.collections.Collection.{Collection}
use Rattle.journal_model.specs.declared.notes.Kind.TheVariants.{Seal}
use Rattle.journal_model.specs.declared.notes.Note.{Note}
use Rattle.journal_model.specs.Notes.{note_of}
use Rattle.journal_model.specs.Layouts.{tail_of}
use Rattle.journal_model.specs.Lists.{IsIn}
use Rattle.call_model.specs.Turns.{stamp, time_of, Seals}
use Rattle.call_model.specs.Calls.{channel_at, AreSeals, SealsAll}
use Rattle.phase_order.proofs.Places.{at_in}
use Rattle.phase_order.proofs.Steps.{among_here}
use Rattle.phase_order.proofs.Lines.{Settled}
use Rattle.phase_logs.proofs.Standing.{Stood, stood}

-- a seal in the channel k: where its note stands, and the rows that it told
pub record SealAt (collection : Collection) (old new : List (List Note)) (by line k : ℕ) (seal : Timestamp × ℕ) : Type 0 where
  pub before : List Note
  pub stood : Stood (at_slot old k) (at_slot new k) before (note_of by line (Seal (stamp seal.0.0)))
  pub above : (y : ℕ) → Among y (times time_of before) → y < seal.0.0
  pub rows : seal.1 ≡ length (tail_of (channel_at collection k) before)

-- the turn of a seal
record TurnAt (collection : Collection) (by line k : ℕ) (turns : List (Turned Note)) (place : ℕ) (seal : Timestamp × ℕ) : Type 0 where
  turn : Turned Note
  there : IsAt turns place turn
  slot : turn.slot ≡ k
  seals : Seals (channel_at collection k) by line seal.0.0 seal.1 turn.before turn.notes turn.drawn

turn_at : (collection : Collection) (by line j : ℕ) (turns : List (Turned Note)) (seals : List (Timestamp × ℕ)) (i : ℕ) (seal : Timestamp × ℕ) → AreSeals collection by line j turns seals → IsAt seals i seal
    → (k : ℕ) → k ≡ j + i → TurnAt collection by line k turns i seal
turn_at collection by line j [] [] i seal a at k is = absurd (some-ne-none seal (sym at))
turn_at collection by line j [] (first ∷ seals) i seal a at k is = absurd a
turn_at collection by line j (t ∷ turns) [] i seal a at k is = absurd a
turn_at collection by line j (t ∷ turns) (first ∷ seals) zero seal a at k is =
    let same : k ≡ j = omega arith in
    record {
      turn = t;
      there = refl;
      slot = a.0 ∙ sym same;
      seals = subst (λ (n : ℕ). Seals (channel_at collection n) by line seal.0.0 seal.1 t.before t.notes t.drawn) (sym same)
          (subst (λ (s : Timestamp × ℕ). Seals (channel_at collection j) by line s.0.0 s.1 t.before t.notes t.drawn) (some-injective first seal at) a.1);
    }
turn_at collection by line j (t ∷ turns) (first ∷ seals) (suc i) seal a at k is =
    let r : TurnAt collection by line k turns i seal = turn_at collection by line (j + 1) turns seals i seal a.2 at k (omega arith) in
    record { turn = r.turn; there = r.there; slot = r.slot; seals = r.seals }

pub seal_stood : (collection : Collection) (old new : List (List Note)) (by line : ℕ) (seals : List (Timestamp × ℕ)) (steps : List (Step Note)) → ((t : Turned Note) → IsIn (Took t) steps → Settled old new t)
    → SealsAll collection by line seals steps → (k : ℕ) (seal : Timestamp × ℕ) → IsAt seals k seal → SealAt collection old new by line k seal
seal_stood collection old new by line seals steps settled c k seal at =
    let r : TurnAt collection by line k c.turns k seal = turn_at collection by line 0 c.turns seals k seal c.sealed at k (omega arith) in
    let s : Settled old new r.turn = settled r.turn (subst (IsIn (Took r.turn)) (sym c.only) (at_in (Took r.turn) (map Took c.turns) k (at_map Took c.turns k r.turn r.there))) in
    record {
      before = r.turn.before;
      stood = stood old new r.turn k (note_of by line (Seal (stamp seal.0.0))) s r.slot r.seals.noted;
      above = λ y h. s.above seal.0.0 y (subst (Among seal.0.0) (sym r.seals.drawn) (among_here seal.0.0 [])) h;
      rows = r.seals.told;
    }
