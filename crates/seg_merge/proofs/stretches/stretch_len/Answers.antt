use Rattle.std.proofs.Common.{None, rules}
use Rattle.seg_merge.proofs.StretchLaws.{stretch_next}
use Rattle.seg_merge.proofs.stretches.stretch_len.Goals as goal

pub rows-preserved : goal.rows-preserved
rows-preserved c =
    let both = c.if-not-follows.ensures.0 (search rules) in
    stretch_next c.args.first.part c.args.first.row c.rows.i c.args.kept.now (record { position = 0; part = 0; row = 0; death = None }) c.rows.invariant c.rows-test.true both.0 both.1
