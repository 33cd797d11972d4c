use Rattle.std.proofs.Common.{◌≡◌, ℕ, ◌<◌, List, [], ◌∷◌, length, refl, ap, subst, ◌∙◌}
use Rattle.std.specs.Prelude.{IfOk}
use Rattle.turn_lock.specs.Tickets.{inside}
use Rattle.journal_model.specs.declared.notes.Note.{Note}
use Rattle.journal_model.specs.Layouts.{Channel}
use Rattle.shard_core.specs.Counting.{waiting_numbers}
use Rattle.shard_core.specs.Shards.{ChannelShard, ChannelBase, base_of}
use Rattle.call_model.specs.Turns.{by_of, time_of}
use Rattle.call_model.specs.Calls.{channel_at}
use Rattle.shard_calls.specs.Fronts.{base_at}
use Rattle.shard_calls.proofs.Called.{base_found}
use Rattle.handoff_calls.proofs.Turning.{quiet_turn, quiet_adds}
use Rattle.handoff_calls.proofs.turns.waiting.Goals as goal

pub leave-requires-clause-notes : goal.leave-requires-clause-notes
leave-requires-clause-notes g c =
    let same : c.waiting-segments.new.self.state.notes ≡ c.enter-turn.result.value.state.notes = ap (λ (s : ChannelShard). s.state.notes) (c.waiting-segments.ensures.same ∙ c.value_mut.ensures.value) in
    let slot : c.args.channel < length c.enter-turn.new.seat.seen = subst (λ (n : ℕ). n < length c.enter-turn.new.seat.seen) c.enter-turn.ensures.turn.1 c.enter-turn.ensures.turn.0.slot in
    quiet_adds by_of time_of c.args.seat.now c.enter-turn.new.seat c.args.channel c.enter-turn.result.slot c.enter-turn.result.value.state.notes c.waiting-segments.new.self.state.notes (inside c.args.channel c.enter-turn.result.number ∷ [])
    c.enter-turn.ensures.turn.1 slot c.enter-turn.ensures.seat same

pub returns-clause-did : goal.returns-clause-did
returns-clause-did g c =
    let before : List Note = c.enter-turn.result.value.state.notes in
    let same : c.waiting-segments.new.self.state.notes ≡ before = ap (λ (s : ChannelShard). s.state.notes) (c.waiting-segments.ensures.same ∙ c.value_mut.ensures.value) in
    let slot : c.args.channel < length c.enter-turn.new.seat.seen = subst (λ (n : ℕ). n < length c.enter-turn.new.seat.seen) c.enter-turn.ensures.turn.1 c.enter-turn.ensures.turn.0.slot in
    let base : base_of c.enter-turn.result.value ≡ base_at c.args.front.now.collection c.args.front.now.floor c.args.channel = base_found c.args.front.now c.turns-turns.result.now c.args.channel (base_of c.enter-turn.result.value) c.turns-turns.ensures.table c.turns-turns.ensures.front c.enter-turn.ensures.base in
    let channel : c.enter-turn.result.value.channel ≡ channel_at c.args.front.now.collection c.args.channel = ap (λ (b : ChannelBase). b.channel) base in
    let found : IfOk c.waiting-segments.result (λ segments. segments.items ≡ waiting_numbers c.enter-turn.result.value.channel before) =
    subst (λ (s : ChannelShard). IfOk c.waiting-segments.result (λ segments. segments.items ≡ waiting_numbers s.channel s.state.notes)) c.value_mut.ensures.value c.waiting-segments.ensures.numbers in (
      record { slot = c.args.channel; before = before; notes = []; drawn = [] },
      quiet_turn by_of time_of c.args.seat.now c.enter-turn.new.seat c.leave.new.seat c.args.channel c.enter-turn.result.slot before c.waiting-segments.new.self.state.notes (inside c.args.channel c.enter-turn.result.number ∷ [])
          c.enter-turn.ensures.turn.1 slot c.enter-turn.ensures.more c.enter-turn.ensures.mine c.requires.seat.rest c.enter-turn.ensures.seat same c.leave.ensures,
      record { slot = refl; none = refl; undrawn = refl },
      subst (λ (k : Channel). IfOk c.waiting-segments.result (λ segments. segments.items ≡ waiting_numbers k before)) channel found,
    )
