use Rattle.std.proofs.Common.{◌≤◌, take}
use Rattle.call_model.specs.Calls.{channel_at}
use Rattle.shard_calls.specs.Fronts.{Spends}
use Rattle.handoff_calls.specs.Seats.{Stays}
use Rattle.handoff_calls.proofs.Handing.{AreHanded}
use Rattle.handoff_calls.proofs.handoffs.hand_all.Given as goal

abbrev pub invariant-segments : goal.invariant-segments
invariant-segments g l = record {
  handed : AreHanded (channel_at l.front.collection l.channel) l.front.collection.nodes l.call.line l.initial.seats.front l.seats.front l.initial.seats.vault l.seats.vault (take l.k l.segments) l.left;
  front : Spends 0 l.initial.seats.front l.seats.front;
  vault : Stays l.initial.seats.vault l.seats.vault;
  few : l.left ≤ l.k;
}
