use Rattle.std.proofs.Common.{◌≡◌, ◌≤◌, ℕ, List, [], ◌∷◌, ◌++◌, length, refl, ap, sym, subst, ◌∙◌, arith}
use Rattle.std.specs.Prelude.{MatchResult}
use Rattle.row_types.specs.declared.allocation.Memory.{Memory}
use Rattle.hybrid_time.specs.declared.times.Timestamp.{Timestamp}
use Rattle.turn_lock.specs.Tickets.{inside}
use Rattle.journal_model.specs.declared.notes.Note.{Note}
use Rattle.journal_model.specs.Layouts.{Channel}
use Rattle.shard_core.specs.Shards.{ChannelBase, base_of}
use Rattle.call_model.specs.Turns.{Seals}
use Rattle.call_model.specs.Calls.{channel_at}
use Rattle.shard_calls.specs.Fronts.{base_at}
use Rattle.shard_calls.specs.Calls.{IsIdle}
use Rattle.shard_calls.proofs.Called.{idle_few, base_found, left_notes, turn_done}
use Rattle.shard_calls.proofs.fronts.Front.seal.Goals as goal

pub leave-requires-clause-notes : goal.leave-requires-clause-notes
leave-requires-clause-notes g c =
    let st = c.seal_under-done.ensures.step in
    left_notes c.args.seat.now c.enter-turn.new.seat c.seal_under-done.new.seat c.enter-turn.result c.args.channel c.seal_under-done.new.turn.slot c.seal_under-done.new.turn.value.state.notes st.0 st.1 (inside c.args.channel c.enter-turn.result.number ∷ [])
    c.enter-turn.ensures.seat c.enter-turn.ensures.turn.0 c.enter-turn.ensures.turn.1 st.2 c.seal_under-done.ensures.turn.1

pub returns : goal.returns
returns g c =
    let base : base_of c.enter-turn.result.value ≡ base_at c.args.self.now.collection c.args.self.now.floor c.args.channel = base_found c.args.self.now c.turns-turns.result.now c.args.channel (base_of c.enter-turn.result.value) c.turns-turns.ensures.table c.turns-turns.ensures.front c.enter-turn.ensures.base in
    let channel : c.enter-turn.result.value.channel ≡ channel_at c.args.self.now.collection c.args.channel = ap (λ (b : ChannelBase). b.channel) base in
    let st = c.seal_under-done.ensures.step in
    let before : List Note = c.enter-turn.result.value.state.notes in
    let said : MatchResult c.seal_under-done.result (λ (seal : Timestamp × ℕ). Seals (channel_at c.args.self.now.collection c.args.channel) c.enter-turn.new.seat.number c.args.call.now.line seal.0.0 seal.1 before st.0 st.1) (λ (_ : Memory). IsIdle st.0 st.1) =
    subst (λ (k : Channel). MatchResult c.seal_under-done.result (λ (seal : Timestamp × ℕ). Seals k c.enter-turn.new.seat.number c.args.call.now.line seal.0.0 seal.1 before st.0 st.1) (λ (_ : Memory). IsIdle st.0 st.1)) channel st.3 in
    let d =
    turn_done c.seal_under-done.result (λ (by : ℕ) (before notes : List Note) (numbers : List ℕ) (seal : Timestamp × ℕ). Seals (channel_at c.args.self.now.collection c.args.channel) by c.args.call.now.line seal.0.0 seal.1 before notes numbers) (λ (by : ℕ) (before notes : List Note) (numbers : List ℕ) (e : Memory). IsIdle notes numbers) c.args.seat.now c.enter-turn.new.seat c.seal_under-done.new.seat c.leave.new.seat c.args.channel c.enter-turn.result.slot c.seal_under-done.new.turn.slot c.enter-turn.result.value.state.notes c.seal_under-done.new.turn.value.state.notes (inside c.args.channel c.enter-turn.result.number ∷ [])
    (λ (by : ℕ) (before notes : List Note) (numbers : List ℕ) (seal : Timestamp × ℕ) (w : Seals (channel_at c.args.self.now.collection c.args.channel) by c.args.call.now.line seal.0.0 seal.1 before notes numbers). let e : length numbers ≡ 1 = ap length w.drawn in omega arith) (λ (by : ℕ) (before notes : List Note) (numbers : List ℕ) (e : Memory) (i : IsIdle notes numbers). idle_few notes numbers i)
    c.enter-turn.ensures.turn.1 c.seal_under-done.ensures.turn.1 c.enter-turn.ensures.turn.0.slot c.enter-turn.ensures.more c.enter-turn.ensures.mine c.requires.seat.rest c.enter-turn.ensures.seat
    (st.0, st.1, st.2, said) c.leave.ensures in
    record { did = d.0; spends = d.1 }
