use Rattle.std.proofs.Common.{◌≡◌, List, [], ◌∷◌, sym, refl, ap, subst, ◌∙◌}
use Rattle.std.specs.FinMap as fin
use Rattle.log_model.specs.declared.logs.Write.{Write}
use Rattle.log_model.specs.Logs.{key_of}
use Rattle.answer_lines.specs.declared.answers.WriteReply.{WriteReply}
use Rattle.legal_output.specs.Legal.{told_of}
use Rattle.journal_model.specs.declared.notes.Note.{Note}
use Rattle.journal_model.specs.Notes.{live_in}
use Rattle.journal_model.specs.Journals.{AreBelow}
use Rattle.seat_walks.proofs.Turning.{puts_none}
use Rattle.call_model.specs.Turns.{by_of, time_of, stamp, kind_of, Writes}
use Rattle.shard_core.specs.Shards.{ChannelShard}
use Rattle.shard_calls.specs.Calls.{IsIdle}
use Rattle.shard_calls.specs.Under.{written}
use Rattle.shard_calls.proofs.Called.{below_drawn, puts_one, match_err}
use Rattle.shard_calls.proofs.Changing.{kind_time}
use Rattle.shard_calls.proofs.writes.write_under.Goals as goal

pub returns-in_err-reserve-clause-step : goal.returns-in_err-reserve-clause-step
returns-in_err-reserve-clause-step c =
    ([], [], puts_none by_of time_of c.args.seat.now c.args.turn.now.value.state.notes c.reserve.new.self.state.notes (cc), match_err c.from_residual.result (λ (reply : WriteReply). Writes c.args.seat.now.number c.args.line (written c.args.change) reply c.args.turn.now.value.state.notes [] []) (λ _. IsIdle [] []) c.from_residual.ensures.0 (λ _. record { none = refl; undrawn = refl }))

pub apply-what-requires-clause-below : goal.apply-what-requires-clause-below
apply-what-requires-clause-below c =
    let same : c.args.turn.now.value.state.notes ≡ c.value_mut-2.result.now.state.notes = cc in
    subst (AreBelow c.draw.result) same (below_drawn c.args.turns.now c.args.seat.now c.args.turn.now c.draw.result c.requires.inside c.draw.ensures.seen)

pub returns-clause-step : goal.returns-clause-step
returns-clause-step c =
    let found : ChannelShard = c.value_mut-2.result.now in
    let write : Write = written c.args.change in
    let same : found.state.notes ≡ c.args.turn.now.value.state.notes = cc in (
      _,
      _,
      puts_one c.args.turns.now c.args.seat.now c.draw.new.seat c.args.turn.now found c.apply-what.new.shard c.draw.result c.number-by.result c.args.line (kind_of (stamp c.draw.result) write) c.requires.inside
          c.draw.ensures.seat c.draw.ensures.first c.draw.ensures.lifted c.draw.ensures.drawn c.draw.ensures.seen c.number-by.ensures (kind_time (stamp c.draw.result) write) same c.apply-what.ensures.step,
      record { drawn = refl; noted = refl; told = c.apply-what.ensures.told ∙ ap (λ (l : List Note). told_of write (fin.contains_key (live_in l) (key_of write))) same },
    )
