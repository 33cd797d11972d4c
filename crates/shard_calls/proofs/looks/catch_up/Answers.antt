use Rattle.std.proofs.Common.{◌≡◌, ◌<◌, ◌≤◌, ℕ, List, [], ◌∷◌, ◌++◌, inl, refl, ap, subst, ◌∙◌, arith}
use Rattle.journal_model.specs.declared.notes.Kind.TheVariants.{Tick}
use Rattle.journal_model.specs.declared.notes.Note.{Note}
use Rattle.journal_model.specs.Notes.{note_of, tick_of}
use Rattle.journal_model.proofs.NoteLaws.{tick_of-snoc}
use Rattle.seat_walks.proofs.Turning.{puts_none}
use Rattle.call_model.specs.Turns.{by_of, time_of}
use Rattle.shard_core.specs.Shards.{ChannelShard}
use Rattle.shard_calls.proofs.looks.catch_up.Goals as goal

pub returns-then-needs_no_tick-clause-step : goal.returns-then-needs_no_tick-clause-step
returns-then-needs_no_tick-clause-step c =
    let before : List Note = c.args.turn.now.value.state.notes in
    let tick : c.tick_now.result.0 ≡ tick_of before = c.tick_now.ensures ∙ ap (λ (s : ChannelShard). tick_of s.state.notes) c.value.ensures in (
      [],
      [],
      puts_none by_of time_of c.args.seat.now before before refl,
      inl record { idle = record { none = refl; undrawn = refl }; reached = λ w. subst (λ (n : ℕ). c.args.guarantee.0 ≤ n) tick (c.needs_no_tick.ensures.yes c.if-needs_no_tick.true w) },
    )

pub returns-clause-reached : goal.returns-clause-reached
returns-clause-reached c =
    let note : Note = note_of c.args.seat.now.number c.args.line (Tick c.tick_reserved.result) in
    let tick : tick_of c.tick_reserved.new.turn.value.state.notes ≡ c.tick_reserved.result.0 =
    ap tick_of c.tick_reserved.ensures.step.journal ∙ tick_of-snoc c.args.turn.now.value.state.notes note in
    λ w.
    let drawn = c.requires.guarantee w in
    let below : drawn.0 < c.tick_reserved.result.0 = c.tick_reserved.ensures.above drawn.0 drawn.1 in
    let low : c.args.guarantee.0 ≤ drawn.0 = drawn.2 in
    omega arith
