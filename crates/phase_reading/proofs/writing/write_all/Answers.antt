use Rattle.std.proofs.Common.{length, drop, length-take, length-drop, arith, ◌-◌}
use Rattle.phase_reading.proofs.Pieces.{written_more}
use Rattle.phase_reading.proofs.writing.write_all.Goals as goal

pub pieces-preserved : goal.pieces-preserved
pieces-preserved g c = record {
  within = omega (arith, c.in_ok-count.ensures.bound, length-take (length c.args.bytes.now - c.pieces.at) (drop c.pieces.at c.args.bytes.now), length-drop c.pieces.at c.args.bytes.now);
  appended = written_more _ _ _ c.args.bytes.now c.pieces.at c.in_ok-count.count c.pieces.invariant.appended c.in_ok-count.ensures.bytes;
  later = omega (arith, c.pieces.invariant.later, c.in_ok-count.ensures.cause.later);
}
