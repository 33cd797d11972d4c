use Rattle.binlog_format.specs.Inserts.{text_bytes, IsText, IsShort}
use Rattle.binlog_format.proofs.WriteLoop.{put_more, all_more, put_all, all_of_taken, all_at}
use Rattle.binlog_format.proofs.inserts.writing.put_texts.Goals as goal

pub put_text-requires : goal.put_text-requires
put_text-requires c = rw c.item-item.is (all_at IsShort c.args.texts.now c.loop-item.item-index _ c.requires c.loop-item-test.true)

pub loop-item-preserved : goal.loop-item-preserved
loop-item-preserved c = record {
  bytes = put_more text_bytes c.args.out.now.items c.args.texts.now c.loop-item.item-index _ c.loop-item.out.items c.put_text.new.out.items c.loop-item-test.true c.loop-item.invariant.bytes (rw c.item-item.is at c.in_ok-put_text.ensures.bytes);
  fit = all_more IsText c.args.texts.now c.loop-item.item-index _ c.loop-item-test.true c.loop-item.invariant.fit (rw c.item-item.is at c.in_ok-put_text.ensures.fit);
}

pub returns : goal.returns
returns c = record {
  bytes = put_all text_bytes c.args.out.now.items c.args.texts.now c.loop-item.item-index c.loop-item.out.items c.loop-item-test.false c.loop-item.invariant.bytes;
  fit = all_of_taken IsText c.args.texts.now c.loop-item.item-index c.loop-item-test.false c.loop-item.invariant.fit;
}
