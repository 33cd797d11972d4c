use Rattle.std.proofs.Common.{◌≡◌, List, map, length}
use Rattle.journal_model.specs.declared.notes.Note.{Note}
use Rattle.seat_walks.specs.Walks.{Turned, Took}
use Rattle.call_model.specs.Calls.{AreSeals}
use Rattle.call_model.specs.Walks.{Did}
use Rattle.shard_calls.specs.Fronts.{Spends}
use Rattle.phase_run.proofs.rounds.seal_all.Given as goal

abbrev pub invariant-channels : goal.invariant-channels
invariant-channels g l = record {
  did : (turns : List (Turned Note)) × Did l.initial.seat (map Took turns) l.seat
      × AreSeals l.front.collection l.initial.seat.number l.call.line 0 turns l.seals.items × (length l.seals.items ≡ l.channel);
  spends : Spends l.channel l.initial.seat l.seat;
}
