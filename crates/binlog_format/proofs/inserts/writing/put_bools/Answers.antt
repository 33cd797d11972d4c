use Rattle.binlog_format.specs.Inserts.{bool_bytes}
use Rattle.binlog_format.proofs.WriteLoop.{put_more, put_all}
use Rattle.binlog_format.proofs.inserts.writing.put_bools.Goals as goal

pub loop-item-preserved : goal.loop-item-preserved
loop-item-preserved c = put_more bool_bytes c.args.out.now.items c.args.bools.now c.loop-item.item-index _ c.loop-item.out.items c.put_bool.new.out.items c.loop-item-test.true c.loop-item.invariant c.in_ok-put_bool.ensures

pub returns : goal.returns
returns c = put_all bool_bytes c.args.out.now.items c.args.bools.now c.loop-item.item-index c.loop-item.out.items c.loop-item-test.false c.loop-item.invariant
