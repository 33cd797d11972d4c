use Rattle.std.proofs.Common.{◌<◌, ◌^◌}
use Rattle.binlog_format.specs.Deletes.{mark_bytes}
use Rattle.binlog_format.proofs.WriteLoop.{put_more, all_more, put_all, all_of_taken}
use Rattle.binlog_format.proofs.deletes.put_marks.Goals as goal

pub loop-mark-preserved : goal.loop-mark-preserved
loop-mark-preserved c = record {
  bytes = put_more mark_bytes c.args.out.now.items c.args.marks.now c.loop-mark.mark-index _ c.loop-mark.out.items c.put_mark.new.out.items c.loop-mark-test.true c.loop-mark.invariant.bytes c.in_ok-put_mark.ensures.bytes;
  fit = all_more (λ mark. mark.1.0 < 2 ^ 64) c.args.marks.now c.loop-mark.mark-index _ c.loop-mark-test.true c.loop-mark.invariant.fit c.in_ok-put_mark.ensures.fit;
}

pub returns : goal.returns
returns c = record {
  bytes = put_all mark_bytes c.args.out.now.items c.args.marks.now c.loop-mark.mark-index c.loop-mark.out.items c.loop-mark-test.false c.loop-mark.invariant.bytes;
  fit = all_of_taken (λ mark. mark.1.0 < 2 ^ 64) c.args.marks.now c.loop-mark.mark-index c.loop-mark-test.false c.loop-mark.invariant.fit;
}
