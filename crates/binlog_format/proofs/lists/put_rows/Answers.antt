use Rattle.std.proofs.Common.{w32}
use Rattle.std.specs.Int.{to_le_bytes}
use Rattle.binlog_format.proofs.WriteLoop.{put_more, put_all}
use Rattle.binlog_format.proofs.lists.put_rows.Goals as goal

pub loop-item-preserved : goal.loop-item-preserved
loop-item-preserved c = put_more (to_le_bytes w32) c.args.out.now.items c.args.rows.now c.loop-item.item-index _ c.loop-item.out.items c.put_u32.new.out.items c.loop-item-test.true c.loop-item.invariant c.in_ok-put_u32.ensures.bytes

pub returns : goal.returns
returns c = put_all (to_le_bytes w32) c.args.out.now.items c.args.rows.now c.loop-item.item-index c.loop-item.out.items c.loop-item-test.false c.loop-item.invariant
