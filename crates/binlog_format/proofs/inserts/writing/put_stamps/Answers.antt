use Rattle.std.proofs.Common.{◌<◌, ◌^◌}
use Rattle.binlog_format.specs.Inserts.{stamp_bytes}
use Rattle.binlog_format.proofs.WriteLoop.{put_more, all_more, put_all, all_of_taken}
use Rattle.binlog_format.proofs.inserts.writing.put_stamps.Goals as goal

pub loop-item-preserved : goal.loop-item-preserved
loop-item-preserved c = record {
  bytes = put_more stamp_bytes c.args.out.now.items c.args.stamps.now c.loop-item.item-index _ c.loop-item.out.items c.put_u64.new.out.items c.loop-item-test.true c.loop-item.invariant.bytes c.in_ok-put_u64.ensures.bytes;
  fit = all_more (λ ts. ts.0 < 2 ^ 64) c.args.stamps.now c.loop-item.item-index _ c.loop-item-test.true c.loop-item.invariant.fit c.in_ok-put_u64.ensures.fits;
}

pub returns : goal.returns
returns c = record {
  bytes = put_all stamp_bytes c.args.out.now.items c.args.stamps.now c.loop-item.item-index c.loop-item.out.items c.loop-item-test.false c.loop-item.invariant.bytes;
  fit = all_of_taken (λ ts. ts.0 < 2 ^ 64) c.args.stamps.now c.loop-item.item-index c.loop-item-test.false c.loop-item.invariant.fit;
}
