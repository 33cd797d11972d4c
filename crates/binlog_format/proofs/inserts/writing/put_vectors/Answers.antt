use Rattle.row_types.specs.Bits.{bytes_of}
use Rattle.binlog_format.proofs.WriteLoop.{put_more, put_all}
use Rattle.binlog_format.proofs.inserts.writing.put_vectors.Goals as goal

pub loop-item-preserved : goal.loop-item-preserved
loop-item-preserved c = put_more bytes_of c.args.out.now.items c.args.vectors.now c.loop-item.item-index _ c.loop-item.out.items c.append_bytes.new.bytes.items c.loop-item-test.true c.loop-item.invariant (rw c.item-item.is at c.in_ok-append_bytes.ensures.ok)

pub returns : goal.returns
returns c = put_all bytes_of c.args.out.now.items c.args.vectors.now c.loop-item.item-index c.loop-item.out.items c.loop-item-test.false c.loop-item.invariant
