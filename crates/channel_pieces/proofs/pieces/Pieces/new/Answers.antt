use Rattle.channel_pieces.proofs.PieceLaws.{new_keeps}
use Rattle.channel_pieces.proofs.pieces.Pieces.new.Goals as goal

pub invariant_of-result : goal.invariant_of-result
invariant_of-result c = record { kept = new_keeps c.args.dim c.args.kinds c.args.nodes c.in_ok-tail.tail c.new-3.result.items c.in_ok-places.places c.requires.dim c.requires.width c.in_ok-tail.ensures.dim c.in_ok-tail.ensures.rows c.new-3.ensures.items c.in_ok-places.ensures; listed = tt }
