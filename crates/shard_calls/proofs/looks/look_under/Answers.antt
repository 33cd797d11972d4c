use Rattle.std.proofs.Common.{◌≡◌, ◌≤◌, ℕ, true, List, [], ◌∷◌, ◌++◌, inl, refl, ap, sym, subst, ◌∙◌}
use Rattle.std.specs.Prelude.{OnOk}
use Rattle.turn_table.specs.Seats.{SeatView}
use Rattle.journal_model.specs.declared.notes.Kind.TheVariants.{Look}
use Rattle.journal_model.specs.declared.notes.Note.{Note}
use Rattle.journal_model.specs.Notes.{note_of, tick_of}
use Rattle.seat_walks.specs.Walks.{Puts}
use Rattle.seat_walks.proofs.Turning.{puts_none}
use Rattle.call_model.specs.Turns.{by_of, time_of, Looks}
use Rattle.shard_core.specs.declared.replies.Looked.{Looked}
use Rattle.shard_core.specs.Shards.{ChannelShard, ChannelBase, Steps, base_of}
use Rattle.shard_calls.specs.Calls.{BreaksOff, Gives}
use Rattle.shard_calls.specs.Under.{CatchesUp}
use Rattle.shard_calls.proofs.Called.{match_err}
use Rattle.shard_calls.proofs.Looking.{looked_under}
use Rattle.shard_calls.proofs.looks.look_under.Goals as goal

pub returns-in_err-reserve-clause-step : goal.returns-in_err-reserve-clause-step
returns-in_err-reserve-clause-step c =
    let before : List Note = c.args.turn.now.value.state.notes in (
      [],
      [],
      puts_none by_of time_of c.args.seat.now before c.reserve.new.self.state.notes (cc),
      match_err c.from_residual.result
          (λ (looked : Looked). Looks c.args.seat.now.number c.args.line c.args.guarantee.0 c.args.wait before [] [] × Gives (base_of c.args.turn.now.value) c.args.guarantee.0 c.args.wait (before ++ []) looked)
          (λ _. BreaksOff c.args.seat.now.number c.args.line c.args.guarantee.0 c.args.wait before [] []) c.from_residual.ensures.0 (λ _. inl record { none = refl; undrawn = refl }),
    )

pub returns-clause-step : goal.returns-clause-step
returns-clause-step c =
    let s : SeatView Note ChannelBase = c.args.seat.now in
    let e : SeatView Note ChannelBase = c.catch_up.new.seat in
    let before : List Note = c.args.turn.now.value.state.notes in
    let found : ChannelShard = c.value_mut-2.result.now in
    let up = c.catch_up.ensures.step in
    let start : c.reserve.new.self.state.notes ≡ before = cc in
    let there : c.catch_up.new.turn.value ≡ found = sym c.value_mut-2.ensures.value in
    let base : base_of found ≡ base_of c.args.turn.now.value = cc in
    let puts : Puts by_of time_of s e before found.state.notes up.0 up.1 =
    subst (λ (v : ChannelShard). Puts by_of time_of s e before v.state.notes up.0 up.1) there (subst (λ (l : List Note). Puts by_of time_of s e l c.catch_up.new.turn.value.state.notes up.0 up.1) start up.2) in
    let caught : CatchesUp s.number c.args.line c.args.guarantee.0 c.args.wait before up.0 up.1 = subst (λ (l : List Note). CatchesUp s.number c.args.line c.args.guarantee.0 c.args.wait l up.0 up.1) start up.3 in
    let named : c.number-by.result ≡ s.number = c.number-by.ensures ∙ ap (λ (u : SeatView Note ChannelBase). u.number) up.2.seat in
    let step : OnOk c.look_sound.result (Steps found c.look_sound.new.shard (note_of s.number c.args.line (Look c.args.guarantee))) =
    subst (λ (n : ℕ). OnOk c.look_sound.result (Steps found c.look_sound.new.shard (note_of n c.args.line (Look c.args.guarantee)))) named c.look_sound.ensures.step in
    looked_under c.args.line c.args.guarantee c.args.wait s e found c.look_sound.new.shard (base_of c.args.turn.now.value) before up.0 up.1 base puts caught
    (λ w. subst (λ (v : ChannelShard). c.args.guarantee.0 ≤ tick_of v.state.notes) there (c.catch_up.ensures.reached w)) c.look_sound.result step c.look_sound.ensures.answer c.look_sound.ensures.view c.look_sound.ensures.exact c.look_sound.ensures.err c.look_sound.ensures.sound c.look_sound.ensures.keys
