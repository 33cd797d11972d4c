use Rattle.std.proofs.Common.{◌≡◌, ℕ, List, [], ◌∷◌, length, sym, refl, ap, subst, ◌∙◌}
use Rattle.hybrid_time.specs.declared.times.Timestamp.{Timestamp}
use Rattle.journal_model.specs.declared.notes.Kind.TheVariants.{Seal}
use Rattle.journal_model.specs.declared.notes.Note.{Note}
use Rattle.journal_model.specs.Answers.{Reply, Sealed}
use Rattle.journal_model.specs.Journals.{AreBelow}
use Rattle.journal_model.specs.Layouts.{Channel, tail_of}
use Rattle.seat_walks.proofs.Turning.{puts_none}
use Rattle.call_model.specs.Turns.{by_of, time_of, stamp, Seals}
use Rattle.shard_core.specs.Shards.{ChannelShard, rows_of}
use Rattle.shard_calls.specs.Calls.{IsIdle}
use Rattle.shard_calls.proofs.Called.{below_drawn, puts_one, match_err}
use Rattle.shard_calls.proofs.ticks.seal_under.Goals as goal

pub returns-in_err-reserve-clause-step : goal.returns-in_err-reserve-clause-step
returns-in_err-reserve-clause-step c =
    ([], [], puts_none by_of time_of c.args.seat.now c.args.turn.now.value.state.notes c.reserve.new.self.state.notes (cc), match_err c.from_residual.result (λ (seal : Timestamp × ℕ). Seals c.args.turn.now.value.channel c.args.seat.now.number c.args.line seal.0.0 seal.1 c.args.turn.now.value.state.notes [] []) (λ _. IsIdle [] []) c.from_residual.ensures.0 (λ _. record { none = refl; undrawn = refl }))

pub seal-requires-clause-below : goal.seal-requires-clause-below
seal-requires-clause-below c =
    let same : c.args.turn.now.value.state.notes ≡ c.value_mut-2.result.now.state.notes = cc in
    subst (AreBelow c.draw.result) same (below_drawn c.args.turns.now c.args.seat.now c.args.turn.now c.draw.result c.requires.inside c.draw.ensures.seen)

pub returns-clause-step : goal.returns-clause-step
returns-clause-step c =
    let found : ChannelShard = c.value_mut-2.result.now in
    let before : List Note = c.args.turn.now.value.state.notes in
    let same : found.state.notes ≡ before = cc in
    let channel : found.channel ≡ c.args.turn.now.value.channel = cc in
    let tail : length (tail_of found.channel found.state.notes) ≡ length (tail_of c.args.turn.now.value.channel before) =
    ap (λ (n : List Note). length (tail_of found.channel n)) same ∙ ap (λ (k : Channel). length (tail_of k before)) channel in
    let said : ◌≡◌ {A = Reply} (Sealed (length (tail_of found.channel found.state.notes))) (Sealed (rows_of c.seal.result)) = c.seal.ensures.answer in
    let rows : length (tail_of found.channel found.state.notes) ≡ rows_of c.seal.result = cc in (
      _,
      _,
      puts_one c.args.turns.now c.args.seat.now c.draw.new.seat c.args.turn.now found c.seal.new.self c.draw.result c.number-by.result c.args.line (Seal (stamp c.draw.result)) c.requires.inside
          c.draw.ensures.seat c.draw.ensures.first c.draw.ensures.lifted c.draw.ensures.drawn c.draw.ensures.seen c.number-by.ensures refl same c.seal.ensures.step,
      record { drawn = refl; noted = refl; told = c.rows_sealed-rows.ensures ∙ sym rows ∙ tail },
    )
