use Rattle.std.proofs.lemmas.Result.{err_from_is_err_and}
use Rattle.binlog_format.specs.Deletes.{after_mark, mark_at}
use Rattle.binlog_format.proofs.ReadLoop.{continues, fails, is_done}
use Rattle.binlog_format.proofs.deletes.each_mark.Goals as goal

pub returns-in_err-mark : goal.returns-in_err-mark
returns-in_err-mark c =
    let p = err_from_is_err_and c.from_residual-in_err-mark.result c.from_residual-in_err-mark.ensures.1 in
    rw (p.1, p.2) (fails mark_at after_mark c.in_err-mark.field-0.0 c.loop.marks.items c.args.count c.loop.counter c.loop.least c.loop.reader _ c.loop-test.true c.in_err-mark.ensures.gives c.loop.invariant)

pub loop-preserved : goal.loop-preserved
loop-preserved c = rw c.in_ok-push.ensures.items (continues mark_at after_mark c.loop.marks.items c.args.count c.loop.counter c.loop.least c.loop.reader c.in_ok-mark.mark c.mark_of.new.reader _ c.loop-test.true c.in_ok-mark.ensures.gives c.loop.invariant)

pub returns : goal.returns
returns c = rw c.of.ensures (is_done mark_at after_mark c.loop.marks.items c.args.count c.loop.counter c.loop.least c.loop.reader _ c.loop-test.false c.loop.invariant)
