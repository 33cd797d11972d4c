use Rattle.std.proofs.Common.{w64}
use Rattle.std.specs.Prelude.{FitsSigned}
use Rattle.binlog_format.specs.Inserts.{int_bytes}
use Rattle.std.proofs.Common.{SFits, get_or, pos, rules}
use Rattle.std.proofs.lemmas.Int.{to_z-of_z}
use Rattle.binlog_format.proofs.WriteLoop.{put_more, all_more, put_all, all_of_taken}
use Rattle.binlog_format.proofs.inserts.writing.put_ints.Goals as goal

pub loop-item-preserved : goal.loop-item-preserved
loop-item-preserved c = let fits : SFits w64 (get_or c.args.ints.now c.loop-item.item-index (pos 0)) = search rules in let e = simp to_z-of_z at c.in_ok-put_i64.ensures.bytes in record {
  bytes = put_more int_bytes c.args.out.now.items c.args.ints.now c.loop-item.item-index _ c.loop-item.out.items c.put_i64.new.out.items c.loop-item-test.true c.loop-item.invariant.bytes e;
  fit = all_more (FitsSigned w64) c.args.ints.now c.loop-item.item-index _ c.loop-item-test.true c.loop-item.invariant.fit fits;
}

pub returns : goal.returns
returns c = record {
  bytes = put_all int_bytes c.args.out.now.items c.args.ints.now c.loop-item.item-index c.loop-item.out.items c.loop-item-test.false c.loop-item.invariant.bytes;
  fit = all_of_taken (FitsSigned w64) c.args.ints.now c.loop-item.item-index c.loop-item-test.false c.loop-item.invariant.fit;
}
