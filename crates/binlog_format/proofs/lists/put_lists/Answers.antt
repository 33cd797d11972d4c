use Rattle.binlog_format.specs.Lists.{list_bytes}
use Rattle.binlog_format.proofs.WriteLoop.{put_more, put_all}
use Rattle.binlog_format.proofs.lists.put_lists.Goals as goal

pub loop-item-preserved : goal.loop-item-preserved
loop-item-preserved c = put_more list_bytes c.args.out.now.items c.args.lists.now c.loop-item.item-index _ c.loop-item.out.items c.put_list.new.out.items c.loop-item-test.true c.loop-item.invariant (rw c.item-item.is at c.in_ok-put_list.ensures)

pub returns : goal.returns
returns c = put_all list_bytes c.args.out.now.items c.args.lists.now c.loop-item.item-index c.loop-item.out.items c.loop-item-test.false c.loop-item.invariant
