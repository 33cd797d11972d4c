use Rattle.binlog_format.specs.Inserts.{column_bytes, ColumnFits, HasShortTexts}
use Rattle.binlog_format.proofs.WriteLoop.{put_more, all_more, put_all, all_of_taken, all_at}
use Rattle.binlog_format.proofs.inserts.writing.put_columns.Goals as goal

pub put_column-requires : goal.put_column-requires
put_column-requires c = rw c.item-item.is (all_at HasShortTexts c.args.columns.now c.loop-item.item-index _ c.requires c.loop-item-test.true)

pub loop-item-preserved : goal.loop-item-preserved
loop-item-preserved c = record {
  bytes = put_more column_bytes c.args.out.now.items c.args.columns.now c.loop-item.item-index _ c.loop-item.out.items c.put_column.new.out.items c.loop-item-test.true c.loop-item.invariant.bytes (rw c.item-item.is at c.in_ok-put_column.ensures.bytes);
  fit = all_more ColumnFits c.args.columns.now c.loop-item.item-index _ c.loop-item-test.true c.loop-item.invariant.fit (rw c.item-item.is at c.in_ok-put_column.ensures.fit);
}

pub returns : goal.returns
returns c = record {
  bytes = put_all column_bytes c.args.out.now.items c.args.columns.now c.loop-item.item-index c.loop-item.out.items c.loop-item-test.false c.loop-item.invariant.bytes;
  fit = all_of_taken ColumnFits c.args.columns.now c.loop-item.item-index c.loop-item-test.false c.loop-item.invariant.fit;
}
