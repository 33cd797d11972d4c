use Rattle.binlog_format.specs.Lists.{length_bytes, IsShortList}
use Rattle.binlog_format.proofs.WriteLoop.{put_more, put_all, all_at}
use Rattle.binlog_format.proofs.lists.put_lengths.Goals as goal

pub put_length-requires : goal.put_length-requires
put_length-requires c = rw c.item-item.is (all_at IsShortList c.args.lists.now c.loop-item.item-index _ c.requires c.loop-item-test.true)

pub loop-item-preserved : goal.loop-item-preserved
loop-item-preserved c = put_more length_bytes c.args.out.now.items c.args.lists.now c.loop-item.item-index _ c.loop-item.out.items c.put_length.new.out.items c.loop-item-test.true c.loop-item.invariant (rw c.item-item.is at c.in_ok-put_length.ensures)

pub returns : goal.returns
returns c = put_all length_bytes c.args.out.now.items c.args.lists.now c.loop-item.item-index c.loop-item.out.items c.loop-item-test.false c.loop-item.invariant
