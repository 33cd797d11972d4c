use Rattle.std.proofs.Common.{◌≡◌, ℕ, ◌<◌, List, [], ◌∷◌, ◌++◌, All, length, refl, ap, sym, subst, ◌∙◌}
use Rattle.turn_lock.specs.Tickets.{inside}
use Rattle.turn_table.specs.Knowledge.{at_slot}
use Rattle.turn_table.specs.Seats.{SeatView}
use Rattle.turn_facts.specs.Notes.{IsOwn}
use Rattle.journal_model.specs.declared.notes.Note.{Note}
use Rattle.journal_model.specs.Layouts.{Channel}
use Rattle.shard_core.specs.Moves.{IsMoveOf}
use Rattle.shard_core.specs.Shards.{ChannelShard, ChannelBase, base_of}
use Rattle.call_model.specs.Turns.{by_of, time_of}
use Rattle.call_model.specs.Calls.{channel_at}
use Rattle.shard_calls.specs.Fronts.{base_at}
use Rattle.shard_calls.proofs.Called.{base_found}
use Rattle.handoff_calls.specs.Turns.{LoadsOrNone}
use Rattle.handoff_calls.proofs.Turning.{noted_turn, noted_adds}
use Rattle.handoff_calls.proofs.Moving.{lent_later, loads_own}
use Rattle.handoff_calls.proofs.turns.load.Goals as goal

pub load_under-loaded-requires-clause-lent : goal.load_under-loaded-requires-clause-lent
load_under-loaded-requires-clause-lent g c =
    let before : List Note = c.enter-turn.result.value.state.notes in
    let base : base_of c.enter-turn.result.value ≡ base_at c.args.front.now.collection c.args.front.now.floor c.args.channel = base_found c.args.front.now c.turns-turns.result.now c.args.channel (base_of c.enter-turn.result.value) c.turns-turns.ensures.table c.turns-turns.ensures.front c.enter-turn.ensures.base in
    let channel : c.enter-turn.result.value.channel ≡ channel_at c.args.front.now.collection c.args.channel = ap (λ (b : ChannelBase). b.channel) base in
    let later : IsMoveOf (channel_at c.args.front.now.collection c.args.channel) before c.args.moving = lent_later (channel_at c.args.front.now.collection c.args.channel) (at_slot c.args.seat.now.seen c.args.channel) before c.args.moving c.enter-turn.ensures.more c.requires.lent in
    subst (λ (s : ChannelShard). IsMoveOf s.channel s.state.notes c.args.moving) (sym c.value_mut.ensures.value) (subst (λ (k : Channel). IsMoveOf k before c.args.moving) (sym channel) later)

pub leave-requires-clause-notes : goal.leave-requires-clause-notes
leave-requires-clause-notes g c =
    let before : List Note = c.enter-turn.result.value.state.notes in
    let st = c.load_under-loaded.ensures.noted in
    let shard : ChannelShard = c.value_mut.result.now in
    let is : c.load_under-loaded.new.shard.state.notes ≡ before ++ st.0 = st.1 ∙ ap (λ (s : ChannelShard). s.state.notes ++ st.0) c.value_mut.ensures.value in
    let named : c.number-by.result ≡ c.enter-turn.new.seat.number = c.number-by.ensures ∙ sym (ap (λ (s : SeatView Note ChannelBase). s.number) c.enter-turn.ensures.seat) in
    let own : All (IsOwn by_of time_of c.enter-turn.new.seat.number []) st.0 =
    loads_own shard.channel shard.collection.nodes c.number-by.result c.args.call.now.line c.args.moving.part.sealed.number c.enter-turn.new.seat.number named shard.state.notes c.load_under-loaded.result st.0 st.2 in
    let slot : c.args.channel < length c.enter-turn.new.seat.seen = subst (λ (n : ℕ). n < length c.enter-turn.new.seat.seen) c.enter-turn.ensures.turn.1 c.enter-turn.ensures.turn.0.slot in
    noted_adds by_of time_of c.args.seat.now c.enter-turn.new.seat c.args.channel c.enter-turn.result.slot before c.load_under-loaded.new.shard.state.notes st.0 (inside c.args.channel c.enter-turn.result.number ∷ []) c.enter-turn.ensures.turn.1 slot c.enter-turn.ensures.seat is own

pub returns-clause-did : goal.returns-clause-did
returns-clause-did g c =
    let before : List Note = c.enter-turn.result.value.state.notes in
    let st = c.load_under-loaded.ensures.noted in
    let shard : ChannelShard = c.value_mut.result.now in
    let is : c.load_under-loaded.new.shard.state.notes ≡ before ++ st.0 = st.1 ∙ ap (λ (s : ChannelShard). s.state.notes ++ st.0) c.value_mut.ensures.value in
    let named : c.number-by.result ≡ c.enter-turn.new.seat.number = c.number-by.ensures ∙ sym (ap (λ (s : SeatView Note ChannelBase). s.number) c.enter-turn.ensures.seat) in
    let own : All (IsOwn by_of time_of c.enter-turn.new.seat.number []) st.0 =
    loads_own shard.channel shard.collection.nodes c.number-by.result c.args.call.now.line c.args.moving.part.sealed.number c.enter-turn.new.seat.number named shard.state.notes c.load_under-loaded.result st.0 st.2 in
    let slot : c.args.channel < length c.enter-turn.new.seat.seen = subst (λ (n : ℕ). n < length c.enter-turn.new.seat.seen) c.enter-turn.ensures.turn.1 c.enter-turn.ensures.turn.0.slot in
    let base : base_of c.enter-turn.result.value ≡ base_at c.args.front.now.collection c.args.front.now.floor c.args.channel = base_found c.args.front.now c.turns-turns.result.now c.args.channel (base_of c.enter-turn.result.value) c.turns-turns.ensures.table c.turns-turns.ensures.front c.enter-turn.ensures.base in
    let line : ℕ = c.args.call.now.line in
    let segment : ℕ = c.args.moving.part.sealed.number in
    let found : LoadsOrNone c.enter-turn.result.value.channel c.enter-turn.result.value.collection.nodes c.number-by.result line segment c.load_under-loaded.result before st.0 =
    subst (λ (s : ChannelShard). LoadsOrNone s.channel s.collection.nodes c.number-by.result line segment c.load_under-loaded.result s.state.notes st.0) c.value_mut.ensures.value st.2 in
    let based : LoadsOrNone (channel_at c.args.front.now.collection c.args.channel) c.args.front.now.collection.nodes c.number-by.result line segment c.load_under-loaded.result before st.0 =
    subst (λ (b : ChannelBase). LoadsOrNone b.channel b.collection.nodes c.number-by.result line segment c.load_under-loaded.result before st.0) base found in (
      record { slot = c.args.channel; before = before; notes = st.0; drawn = [] },
      noted_turn by_of time_of c.args.seat.now c.enter-turn.new.seat c.leave.new.seat c.args.channel c.enter-turn.result.slot before c.load_under-loaded.new.shard.state.notes st.0 (inside c.args.channel c.enter-turn.result.number ∷ [])
          c.enter-turn.ensures.turn.1 slot c.enter-turn.ensures.more c.enter-turn.ensures.mine c.requires.seat.rest c.enter-turn.ensures.seat is own c.leave.ensures,
      refl,
      refl,
      subst (λ (n : ℕ). LoadsOrNone (channel_at c.args.front.now.collection c.args.channel) c.args.front.now.collection.nodes n line segment c.load_under-loaded.result before st.0) c.number-by.ensures based,
    )
