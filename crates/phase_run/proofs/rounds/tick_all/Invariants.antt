use Rattle.std.proofs.Common.{◌≡◌, List, map, length}
use Rattle.std.specs.List.{AllByRecursion as Each}
use Rattle.journal_model.specs.declared.notes.Note.{Note}
use Rattle.seat_walks.specs.Walks.{Turned, Took}
use Rattle.call_model.specs.Calls.{AreTicks}
use Rattle.call_model.specs.Walks.{Did}
use Rattle.shard_calls.specs.Fronts.{Spends}
use Rattle.phase_run.specs.Callers.{MayTick}
use Rattle.phase_run.proofs.rounds.tick_all.Given as goal

abbrev pub invariant-channels : goal.invariant-channels
invariant-channels g l = record {
  did : (turns : List (Turned Note)) × Did l.initial.seat (map Took turns) l.seat × Each (MayTick l.initial.seat.number l.call.line) turns
      × AreTicks l.initial.seat.number l.call.line 0 turns l.stamps.items × (length l.stamps.items ≡ l.channel);
  spends : Spends l.channel l.initial.seat l.seat;
}
