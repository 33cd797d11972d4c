use Rattle.std.proofs.Common.{arith}
use Rattle.log_model.proofs.Counts.{count_row}
use Rattle.log_model.specs.Counts.{passes}
use Rattle.log_model.proofs.distances.count_words.Goals as goal

pub words-preserved : goal.words-preserved
words-preserved c = record {
  rest = count_row (passes c.args.question) c.words.total c.count_word-total.result c.words.i _ c.args.xs.now c.args.ys.now c.words-test.true c.requires.alike c.count_word-total.ensures.bits c.words.invariant.rest;
  few = omega arith;
}
