use Rattle.std.proofs.Common.{◌≡◌, ◌≤◌, ℕ, List, [], ◌∷◌, ◌++◌, length, refl, ap, sym, subst, ◌∙◌, arith}
use Rattle.std.specs.Prelude.{MatchResult}
use Rattle.row_types.specs.declared.allocation.Memory.{Memory}
use Rattle.hybrid_time.specs.declared.times.Timestamp.{Timestamp}
use Rattle.turn_lock.specs.Tickets.{inside}
use Rattle.journal_model.specs.declared.notes.Note.{Note}
use Rattle.call_model.specs.Turns.{Ticks}
use Rattle.shard_calls.specs.Calls.{IsIdle}
use Rattle.shard_calls.proofs.Called.{idle_few, left_notes, turn_done}
use Rattle.shard_calls.proofs.fronts.Front.tick.Goals as goal

pub leave-requires-clause-notes : goal.leave-requires-clause-notes
leave-requires-clause-notes g c =
    let st = c.tick_under-done.ensures.step in
    left_notes c.args.seat.now c.enter-turn.new.seat c.tick_under-done.new.seat c.enter-turn.result c.args.channel c.tick_under-done.new.turn.slot c.tick_under-done.new.turn.value.state.notes st.0 st.1 (inside c.args.channel c.enter-turn.result.number ∷ [])
    c.enter-turn.ensures.seat c.enter-turn.ensures.turn.0 c.enter-turn.ensures.turn.1 st.2 c.tick_under-done.ensures.turn.1

pub returns : goal.returns
returns g c =
    let d =
    turn_done c.tick_under-done.result (λ (by : ℕ) (before notes : List Note) (numbers : List ℕ) (ts : Timestamp). Ticks by c.args.call.now.line ts.0 notes numbers) (λ (by : ℕ) (before notes : List Note) (numbers : List ℕ) (e : Memory). IsIdle notes numbers) c.args.seat.now c.enter-turn.new.seat c.tick_under-done.new.seat c.leave.new.seat c.args.channel c.enter-turn.result.slot c.tick_under-done.new.turn.slot c.enter-turn.result.value.state.notes c.tick_under-done.new.turn.value.state.notes (inside c.args.channel c.enter-turn.result.number ∷ [])
    (λ (by : ℕ) (before notes : List Note) (numbers : List ℕ) (ts : Timestamp) (w : Ticks by c.args.call.now.line ts.0 notes numbers). let e : length numbers ≡ 1 = ap length w.drawn in omega arith) (λ (by : ℕ) (before notes : List Note) (numbers : List ℕ) (e : Memory) (i : IsIdle notes numbers). idle_few notes numbers i)
    c.enter-turn.ensures.turn.1 c.tick_under-done.ensures.turn.1 c.enter-turn.ensures.turn.0.slot c.enter-turn.ensures.more c.enter-turn.ensures.mine c.requires.seat.rest c.enter-turn.ensures.seat
    c.tick_under-done.ensures.step c.leave.ensures in
    record { did = d.0; spends = d.1 }
