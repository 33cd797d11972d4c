use Rattle.seg_merge.proofs.MarkRows.{marks_next}
use Rattle.seg_merge.proofs.marking.marks_of.Goals as goal

pub rows-preserved : goal.rows-preserved
rows-preserved c = marks_next c.args.kept.now c.rows.i _ c.rows.marks.items c.add_mark.new.marks.items c.rows-test.true c.rows.invariant c.in_ok-add_mark.ensures
