use Rattle.std.proofs.Common.{◌≡◌, ◌+◌, ◌≤◌, length, take}
use Rattle.channel_pieces.specs.Fields.{with_hits}
use Rattle.channel_pieces.proofs.marking.add_marks.Given as goal

abbrev pub invariant-hits : goal.invariant-hits
invariant-hits l = record {
  deaths : l.marks.deaths ≡ with_hits (take l.hit-index l.hits) l.initial.marks.deaths;
  room : length l.hits ≤ l.marks.spare + l.hit-index;
}
