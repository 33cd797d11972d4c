use Rattle.std.proofs.Common.{◌≡◌, ℕ, ◌<◌, List, [], ◌∷◌, length, refl, ap, sym, subst, ◌∙◌}
use Rattle.std.specs.Prelude.{IfOk}
use Rattle.turn_lock.specs.Tickets.{inside}
use Rattle.turn_table.specs.Knowledge.{at_slot}
use Rattle.journal_model.specs.declared.notes.Note.{Note}
use Rattle.journal_model.specs.Layouts.{Channel}
use Rattle.shard_core.specs.Moves.{IsMoveOf}
use Rattle.shard_core.specs.Shards.{ChannelShard, ChannelBase, base_of}
use Rattle.call_model.specs.Turns.{by_of, time_of}
use Rattle.call_model.specs.Calls.{channel_at}
use Rattle.shard_calls.specs.Fronts.{base_at}
use Rattle.shard_calls.proofs.Called.{base_found}
use Rattle.handoff_calls.specs.Turns.{BeginsOr}
use Rattle.handoff_calls.proofs.Turning.{quiet_turn, quiet_adds, seen_behind}
use Rattle.handoff_calls.proofs.Moving.{begins_or}
use Rattle.handoff_calls.proofs.turns.begin.Goals as goal

pub leave-requires-clause-notes : goal.leave-requires-clause-notes
leave-requires-clause-notes g c =
    let same : c.begin_move-moving.new.self.state.notes ≡ c.enter-turn.result.value.state.notes = ap (λ (s : ChannelShard). s.state.notes) (c.begin_move-moving.ensures.same ∙ c.value_mut.ensures.value) in
    let slot : c.args.channel < length c.enter-turn.new.seat.seen = subst (λ (n : ℕ). n < length c.enter-turn.new.seat.seen) c.enter-turn.ensures.turn.1 c.enter-turn.ensures.turn.0.slot in
    quiet_adds by_of time_of c.args.seat.now c.enter-turn.new.seat c.args.channel c.enter-turn.result.slot c.enter-turn.result.value.state.notes c.begin_move-moving.new.self.state.notes (inside c.args.channel c.enter-turn.result.number ∷ [])
    c.enter-turn.ensures.turn.1 slot c.enter-turn.ensures.seat same

pub returns-clause-did : goal.returns-clause-did
returns-clause-did g c =
    let before : List Note = c.enter-turn.result.value.state.notes in
    let same : c.begin_move-moving.new.self.state.notes ≡ before = ap (λ (s : ChannelShard). s.state.notes) (c.begin_move-moving.ensures.same ∙ c.value_mut.ensures.value) in
    let slot : c.args.channel < length c.enter-turn.new.seat.seen = subst (λ (n : ℕ). n < length c.enter-turn.new.seat.seen) c.enter-turn.ensures.turn.1 c.enter-turn.ensures.turn.0.slot in
    let base : base_of c.enter-turn.result.value ≡ base_at c.args.front.now.collection c.args.front.now.floor c.args.channel = base_found c.args.front.now c.turns-turns.result.now c.args.channel (base_of c.enter-turn.result.value) c.turns-turns.ensures.table c.turns-turns.ensures.front c.enter-turn.ensures.base in
    let channel : c.enter-turn.result.value.channel ≡ channel_at c.args.front.now.collection c.args.channel = ap (λ (b : ChannelBase). b.channel) base in
    let shard : ChannelShard = c.value_mut.result.now in
    let began : BeginsOr shard.channel c.args.segment shard.state.notes c.begin_move-moving.result =
    begins_or shard.channel c.args.segment shard.state.notes c.begin_move-moving.result c.begin_move-moving.ensures.lent c.begin_move-moving.ensures.segment c.begin_move-moving.ensures.home c.begin_move-moving.ensures.cause in
    let found : BeginsOr c.enter-turn.result.value.channel c.args.segment before c.begin_move-moving.result = subst (λ (s : ChannelShard). BeginsOr s.channel c.args.segment s.state.notes c.begin_move-moving.result) c.value_mut.ensures.value began in (
      record { slot = c.args.channel; before = before; notes = []; drawn = [] },
      quiet_turn by_of time_of c.args.seat.now c.enter-turn.new.seat c.leave.new.seat c.args.channel c.enter-turn.result.slot before c.begin_move-moving.new.self.state.notes (inside c.args.channel c.enter-turn.result.number ∷ [])
          c.enter-turn.ensures.turn.1 slot c.enter-turn.ensures.more c.enter-turn.ensures.mine c.requires.seat.rest c.enter-turn.ensures.seat same c.leave.ensures,
      record { slot = refl; none = refl; undrawn = refl },
      subst (λ (k : Channel). BeginsOr k c.args.segment before c.begin_move-moving.result) channel found,
    )

pub returns-clause-lent : goal.returns-clause-lent
returns-clause-lent g c =
    let slot : c.args.channel < length c.enter-turn.new.seat.seen = subst (λ (n : ℕ). n < length c.enter-turn.new.seat.seen) c.enter-turn.ensures.turn.1 c.enter-turn.ensures.turn.0.slot in
    let base : base_of c.enter-turn.result.value ≡ base_at c.args.front.now.collection c.args.front.now.floor c.args.channel = base_found c.args.front.now c.turns-turns.result.now c.args.channel (base_of c.enter-turn.result.value) c.turns-turns.ensures.table c.turns-turns.ensures.front c.enter-turn.ensures.base in
    let channel : c.enter-turn.result.value.channel ≡ channel_at c.args.front.now.collection c.args.channel = ap (λ (b : ChannelBase). b.channel) base in
    let shard : ChannelShard = c.value_mut.result.now in
    let left : c.begin_move-moving.new.self.state.notes ≡ at_slot c.leave.new.seat.seen c.args.channel = seen_behind by_of time_of c.enter-turn.new.seat c.leave.new.seat c.args.channel c.enter-turn.result.slot c.begin_move-moving.new.self.state.notes c.enter-turn.ensures.turn.1 slot c.leave.ensures in
    let notes : shard.state.notes ≡ at_slot c.leave.new.seat.seen c.args.channel = sym (ap (λ (s : ChannelShard). s.state.notes) c.begin_move-moving.ensures.same) ∙ left in
    let named : shard.channel ≡ channel_at c.args.front.now.collection c.args.channel = ap (λ (s : ChannelShard). s.channel) c.value_mut.ensures.value ∙ channel in
    subst (λ (k : Channel). IfOk c.begin_move-moving.result (IsMoveOf k (at_slot c.leave.new.seat.seen c.args.channel))) named
    (subst (λ (l : List Note). IfOk c.begin_move-moving.result (IsMoveOf shard.channel l)) notes c.begin_move-moving.ensures.lent)
