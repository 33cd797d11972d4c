use Rattle.std.proofs.Common.{◌<◌, ◌^◌, w64}
use Rattle.std.specs.Int.{to_le_bytes}
use Rattle.binlog_format.proofs.WriteLoop.{put_more, all_more, put_all, all_of_taken}
use Rattle.binlog_format.proofs.inserts.writing.put_positions.Goals as goal

pub loop-item-preserved : goal.loop-item-preserved
loop-item-preserved c = record {
  bytes = put_more (to_le_bytes w64) c.args.out.now.items c.args.positions.now c.loop-item.item-index _ c.loop-item.out.items c.put_u64.new.out.items c.loop-item-test.true c.loop-item.invariant.bytes c.in_ok-put_u64.ensures.bytes;
  fit = all_more (λ position. position < 2 ^ 64) c.args.positions.now c.loop-item.item-index _ c.loop-item-test.true c.loop-item.invariant.fit c.in_ok-put_u64.ensures.fits;
}

pub returns : goal.returns
returns c = record {
  bytes = put_all (to_le_bytes w64) c.args.out.now.items c.args.positions.now c.loop-item.item-index c.loop-item.out.items c.loop-item-test.false c.loop-item.invariant.bytes;
  fit = all_of_taken (λ position. position < 2 ^ 64) c.args.positions.now c.loop-item.item-index c.loop-item-test.false c.loop-item.invariant.fit;
}
