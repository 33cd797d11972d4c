use Rattle.std.proofs.Common.{List, map}
use Rattle.seat_walks.specs.Walks.{Turned, Took}
use Rattle.journal_model.specs.declared.notes.Note.{Note}
use Rattle.call_model.specs.Walks.{Did}
use Rattle.shard_calls.specs.Fronts.{Spends}
use Rattle.proxy_search.specs.Rounds.{ServesFirst}
use Rattle.proxy_search.proofs.rounds.look_at_all.Given as goal

abbrev pub invariant-channels : goal.invariant-channels
invariant-channels g l = record {
  did : (turns : List (Turned Note)) × Did l.fn.seat (map Took turns) l.seat × ServesFirst l.front l.fn.seat.number l.call.line l.guarantee.0 l.wait l.channel turns l.views.items;
  spends : Spends l.channel l.fn.seat l.seat;
}
