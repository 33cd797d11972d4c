use Rattle.std.proofs.Common.{sym, subst}
use Rattle.std.specs.List.{AllByRecursion}
use Rattle.binlog_format.specs.Lists.{IsShortList}
use Rattle.binlog_format.proofs.ListReading.{short_lists}
use Rattle.binlog_format.proofs.ListLaws.{written}
use Rattle.binlog_format.proofs.lists.write_lists.Goals as goal

pub put_lengths-requires : goal.put_lengths-requires
put_lengths-requires c = subst (AllByRecursion IsShortList) (sym c.as_slice-lists.ensures) (short_lists c.args.file.now.lists c.requires.rows)

pub returns : goal.returns
returns c = record {
  rules = c.requires;
  fit = c.in_ok-put_u32.ensures.fits;
  spelling = written c.args.file.now c.as_slice-lists.result.now c.rows_in-rows.result c.in_ok-out.out.items c.extend_from_slice.new.self.items c.put_u64.new.out.items c.put_u32.new.out.items c.put_u32-2.new.out.items c.put_u32-3.new.out.items c.put_lengths.new.out.items c.put_lists.new.out.items
      c.as_slice-lists.ensures c.rows_in-rows.ensures c.in_ok-out.ensures.items c.in_ok-extend_from_slice.ensures.items c.in_ok-put_u64.ensures.bytes c.in_ok-put_u32.ensures.bytes c.in_ok-put_u32-2.ensures.bytes c.in_ok-put_u32-3.ensures.bytes c.in_ok-put_lengths.ensures c.in_ok-put_lists.ensures;
}
