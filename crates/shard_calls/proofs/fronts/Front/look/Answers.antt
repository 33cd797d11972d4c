use Rattle.std.proofs.Common.{◌≡◌, ◌≤◌, ℕ, List, [], ◌∷◌, ◌++◌, length, refl, ap, sym, subst, ◌∙◌, arith}
use Rattle.std.specs.Prelude.{MatchResult}
use Rattle.row_types.specs.declared.allocation.Memory.{Memory}
use Rattle.hybrid_time.specs.declared.times.Timestamp.{Timestamp}
use Rattle.turn_facts.specs.Counts.{Among}
use Rattle.turn_lock.specs.Tickets.{inside}
use Rattle.turn_table.specs.Seats.{SeatView}
use Rattle.journal_model.specs.declared.notes.Note.{Note}
use Rattle.shard_core.specs.declared.replies.Looked.{Looked}
use Rattle.shard_core.specs.Shards.{ChannelBase, base_of}
use Rattle.call_model.specs.Turns.{Looks}
use Rattle.shard_calls.specs.Fronts.{base_at}
use Rattle.shard_calls.specs.Calls.{BreaksOff, Gives}
use Rattle.shard_calls.proofs.Called.{base_found, left_notes, turn_done}
use Rattle.shard_calls.proofs.Looking.{looks_few, breaks_few}
use Rattle.shard_calls.proofs.fronts.Front.look.Goals as goal

pub look_under-looked-requires-clause-guarantee : goal.look_under-looked-requires-clause-guarantee
look_under-looked-requires-clause-guarantee g c =
    λ w. let d = c.requires.guarantee w in (d.0, subst (λ (s : SeatView Note ChannelBase). Among d.0 s.drawn) (sym c.enter-turn.ensures.seat) d.1, d.2)

pub leave-requires-clause-notes : goal.leave-requires-clause-notes
leave-requires-clause-notes g c =
    let st = c.look_under-looked.ensures.step in
    left_notes c.args.seat.now c.enter-turn.new.seat c.look_under-looked.new.seat c.enter-turn.result c.args.channel c.look_under-looked.new.turn.slot c.look_under-looked.new.turn.value.state.notes st.0 st.1 (inside c.args.channel c.enter-turn.result.number ∷ [])
    c.enter-turn.ensures.seat c.enter-turn.ensures.turn.0 c.enter-turn.ensures.turn.1 st.2 c.look_under-looked.ensures.turn.1

pub returns : goal.returns
returns g c =
    let base : base_of c.enter-turn.result.value ≡ base_at c.args.self.now.collection c.args.self.now.floor c.args.channel = base_found c.args.self.now c.turns-turns.result.now c.args.channel (base_of c.enter-turn.result.value) c.turns-turns.ensures.table c.turns-turns.ensures.front c.enter-turn.ensures.base in
    let st = c.look_under-looked.ensures.step in
    let before : List Note = c.enter-turn.result.value.state.notes in
    let Said : ChannelBase → Type 0 = λ b. MatchResult c.look_under-looked.result (λ (looked : Looked). Looks c.enter-turn.new.seat.number c.args.call.now.line c.args.guarantee.0 c.args.wait before st.0 st.1 × Gives b c.args.guarantee.0 c.args.wait (before ++ st.0) looked)
    (λ (_ : Memory). BreaksOff c.enter-turn.new.seat.number c.args.call.now.line c.args.guarantee.0 c.args.wait before st.0 st.1) in
    let d =
    turn_done c.look_under-looked.result (λ (by : ℕ) (before notes : List Note) (numbers : List ℕ) (looked : Looked). Looks by c.args.call.now.line c.args.guarantee.0 c.args.wait before notes numbers × Gives (base_at c.args.self.now.collection c.args.self.now.floor c.args.channel) c.args.guarantee.0 c.args.wait (before ++ notes) looked) (λ (by : ℕ) (before notes : List Note) (numbers : List ℕ) (e : Memory). BreaksOff by c.args.call.now.line c.args.guarantee.0 c.args.wait before notes numbers) c.args.seat.now c.enter-turn.new.seat c.look_under-looked.new.seat c.leave.new.seat c.args.channel c.enter-turn.result.slot c.look_under-looked.new.turn.slot c.enter-turn.result.value.state.notes c.look_under-looked.new.turn.value.state.notes (inside c.args.channel c.enter-turn.result.number ∷ [])
    (λ (by : ℕ) (before notes : List Note) (numbers : List ℕ) (looked : Looked) (w : Looks by c.args.call.now.line c.args.guarantee.0 c.args.wait before notes numbers × Gives (base_at c.args.self.now.collection c.args.self.now.floor c.args.channel) c.args.guarantee.0 c.args.wait (before ++ notes) looked). looks_few by c.args.call.now.line c.args.guarantee.0 c.args.wait before notes numbers w.0) (λ (by : ℕ) (before notes : List Note) (numbers : List ℕ) (e : Memory) (b : BreaksOff by c.args.call.now.line c.args.guarantee.0 c.args.wait before notes numbers). breaks_few by c.args.call.now.line c.args.guarantee.0 c.args.wait before notes numbers b)
    c.enter-turn.ensures.turn.1 c.look_under-looked.ensures.turn.1 c.enter-turn.ensures.turn.0.slot c.enter-turn.ensures.more c.enter-turn.ensures.mine c.requires.seat.rest c.enter-turn.ensures.seat
    (st.0, st.1, st.2, subst Said base st.3) c.leave.ensures in
    record { did = d.0; spends = d.1 }
