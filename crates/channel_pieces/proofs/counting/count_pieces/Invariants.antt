use Rattle.std.proofs.Common.{◌≡◌, ◌≤◌, take, map}
use Rattle.channel_pieces.specs.Counting.{counted_with}
use Rattle.channel_pieces.specs.Fields.{homed}
use Rattle.channel_pieces.proofs.counting.count_pieces.Given as goal

abbrev pub invariant-pieces : goal.invariant-pieces
invariant-pieces l = record {
  counts : l.counts ≡ counted_with l.tail (map (homed l.places.segments) (take l.piece-index l.pieces));
  waiting : l.counts.waiting ≤ l.piece-index;
}
