use Rattle.std.proofs.lemmas.Result.{err_from_is_err_and}
use Rattle.binlog_format.specs.Lists.{length_at, left_after}
use Rattle.binlog_format.proofs.ListReading.{left_more}
use Rattle.binlog_format.proofs.ReadLoop.{continues, fails, is_done}
use Rattle.binlog_format.proofs.lists.each_length.Goals as goal

pub returns-in_err-item : goal.returns-in_err-item
returns-in_err-item c =
    let p = err_from_is_err_and c.from_residual-in_err-item.result c.from_residual-in_err-item.ensures.1 in
    rw (p.1, p.2) (record {
      gives = fails length_at left_after c.in_err-item.field-0.0 c.loop.found.items c.args.count c.loop.counter c.loop.left c.loop.reader _ c.loop-test.true c.in_err-item.ensures.gives c.loop.invariant.gives;
      left = tt;
    })

pub loop-preserved : goal.loop-preserved
loop-preserved c = rw c.in_ok-push.ensures.items (record {
  gives = continues length_at left_after c.loop.found.items c.args.count c.loop.counter c.loop.left c.loop.reader c.in_ok-item.item c.length_of.new.reader _ c.loop-test.true c.in_ok-item.ensures.gives c.loop.invariant.gives;
  left = left_more c.loop.found.items c.in_ok-item.item c.loop.left c.args.rows c.in_ok-item.ensures.below c.loop.invariant.left;
})

pub returns : goal.returns
returns c = record {
  gives = is_done length_at left_after c.loop.found.items c.args.count c.loop.counter c.loop.left c.loop.reader _ c.loop-test.false c.loop.invariant.gives;
  left = c.loop.invariant.left;
}
