use Rattle.std.proofs.Common.{◌≡◌, ◌≤◌, ℕ, List, [], ◌∷◌, ◌++◌, length, refl, ap, sym, subst, ◌∙◌, arith}
use Rattle.std.specs.Prelude.{MatchResult}
use Rattle.row_types.specs.declared.allocation.Memory.{Memory}
use Rattle.hybrid_time.specs.declared.times.Timestamp.{Timestamp}
use Rattle.turn_lock.specs.Tickets.{inside}
use Rattle.journal_model.specs.declared.notes.Note.{Note}
use Rattle.std.specs.Prelude.{IsOkAnd}
use Rattle.log_model.specs.declared.logs.Write.{Write}
use Rattle.log_model.specs.Logs.{key_of}
use Rattle.answer_lines.specs.declared.answers.WriteReply.{WriteReply}
use Rattle.shard_core.specs.Keys.{channel_of}
use Rattle.shard_core.specs.Shards.{base_of}
use Rattle.shard_calls.specs.Fronts.{FrontView, base_at}
use Rattle.call_model.specs.Turns.{Writes}
use Rattle.shard_calls.specs.declared.writes.Change.{Change}
use Rattle.shard_calls.specs.Calls.{IsIdle}
use Rattle.shard_calls.specs.Under.{written}
use Rattle.shard_calls.proofs.Called.{idle_few, base_found, match_weaker, left_notes, turn_done}
use Rattle.shard_calls.proofs.Changing.{prepared_fits, prepared_write}
use Rattle.shard_calls.proofs.fronts.Front.write.Goals as goal

pub write_prepared-done-requires-clause-fits : goal.write_prepared-done-requires-clause-fits
write_prepared-done-requires-clause-fits g c =
    let front : FrontView = c.args.self.now in
    let base : base_of c.enter-turn.result.value ≡ base_at front.collection front.floor c.channel_of-channel.result = base_found front c.turns-turns.result.now c.channel_of-channel.result (base_of c.enter-turn.result.value) c.turns-turns.ensures.table c.turns-turns.ensures.front c.enter-turn.ensures.base in
    prepared_fits front c.args.write (base_of c.enter-turn.result.value) c.channel_of-channel.result c.prepare-change.result c.prepare-change.ensures c.requires.fits base (c.channel_of-channel.ensures.channel ∙ ap (channel_of front.collection.channels) c.key.ensures)

pub leave-requires-clause-notes : goal.leave-requires-clause-notes
leave-requires-clause-notes g c =
    let st = c.write_prepared-done.ensures.step in
    left_notes c.args.seat.now c.enter-turn.new.seat c.write_prepared-done.new.seat c.enter-turn.result c.channel_of-channel.result c.write_prepared-done.new.turn.slot c.write_prepared-done.new.turn.value.state.notes st.0 st.1 (inside c.channel_of-channel.result c.enter-turn.result.number ∷ [])
    c.enter-turn.ensures.seat c.enter-turn.ensures.turn.0 c.enter-turn.ensures.turn.1 st.2 c.write_prepared-done.ensures.turn.1

pub returns : goal.returns
returns g c =
    let st = c.write_prepared-done.ensures.step in
    let before : List Note = c.enter-turn.result.value.state.notes in
    let by : ℕ = c.enter-turn.new.seat.number in
    let said : MatchResult c.write_prepared-done.result (λ (reply : WriteReply). Writes by c.args.call.now.line c.args.write reply before st.0 st.1) (λ (_ : Memory). IsIdle st.0 st.1) =
    match_weaker c.write_prepared-done.result (λ (reply : WriteReply). IsOkAnd c.prepare-change.result (λ (d : Change). Writes by c.args.call.now.line (written d) reply before st.0 st.1)) (λ (reply : WriteReply). Writes by c.args.call.now.line c.args.write reply before st.0 st.1)
    (λ (_ : Memory). IsIdle st.0 st.1) (λ (_ : Memory). IsIdle st.0 st.1) (λ reply w. prepared_write c.prepare-change.result c.args.write (λ (v : Write). Writes by c.args.call.now.line v reply before st.0 st.1) c.prepare-change.ensures w) (λ _ i. i) st.3 in
    let home : c.channel_of-channel.result ≡ channel_of c.args.self.now.collection.channels (key_of c.args.write) = c.channel_of-channel.ensures.channel ∙ ap (channel_of c.args.self.now.collection.channels) c.key.ensures in
    let d =
    turn_done c.write_prepared-done.result (λ (by : ℕ) (before notes : List Note) (numbers : List ℕ) (reply : WriteReply). Writes by c.args.call.now.line c.args.write reply before notes numbers) (λ (by : ℕ) (before notes : List Note) (numbers : List ℕ) (e : Memory). IsIdle notes numbers) c.args.seat.now c.enter-turn.new.seat c.write_prepared-done.new.seat c.leave.new.seat c.channel_of-channel.result c.enter-turn.result.slot c.write_prepared-done.new.turn.slot c.enter-turn.result.value.state.notes c.write_prepared-done.new.turn.value.state.notes (inside c.channel_of-channel.result c.enter-turn.result.number ∷ [])
    (λ (by : ℕ) (before notes : List Note) (numbers : List ℕ) (reply : WriteReply) (w : Writes by c.args.call.now.line c.args.write reply before notes numbers). let e : length numbers ≡ 1 = ap length w.drawn in omega arith) (λ (by : ℕ) (before notes : List Note) (numbers : List ℕ) (e : Memory) (i : IsIdle notes numbers). idle_few notes numbers i)
    c.enter-turn.ensures.turn.1 c.write_prepared-done.ensures.turn.1 c.enter-turn.ensures.turn.0.slot c.enter-turn.ensures.more c.enter-turn.ensures.mine c.requires.seat.rest c.enter-turn.ensures.seat
    (st.0, st.1, st.2, said) c.leave.ensures in
    record { did = (d.0.0, d.0.1, d.0.2 ∙ home, d.0.3); spends = d.1 }
