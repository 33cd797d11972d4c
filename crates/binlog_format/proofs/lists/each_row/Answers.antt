use Rattle.std.proofs.Common.{◌<◌, length, arith}
use Rattle.std.proofs.lemmas.Result.{err_from_is_err_and}
use Rattle.binlog_format.proofs.ListReading.{rows_start, rows_more, rows_fail, rows_done}
use Rattle.binlog_format.proofs.lists.each_row.Goals as goal

pub loop-init : goal.loop-init
loop-init c = λ before h. rows_start (length c.args.seen.now) before c.args.seen.now c.in_ok-found.found.items c.args.count c.args.reader.now c.in_ok-found.ensures.items h

pub returns-in_err-item : goal.returns-in_err-item
returns-in_err-item c =
    let p = err_from_is_err_and c.from_residual-in_err-item.result c.from_residual-in_err-item.ensures.1 in
    rw (p.1, p.2) (record {
      gives = λ before h. rows_fail c.in_err-item.field-0.0 (length c.args.seen.now) before c.loop.seen c.loop.found.items c.args.count c.loop.counter c.loop.least c.loop.reader _ c.loop-test.true c.in_err-item.ensures.gives (c.loop.invariant before h);
      seen = λ before h. tt;
    })

pub loop-preserved : goal.loop-preserved
loop-preserved c =
    let below : c.in_ok-item.item < length c.args.seen.now = omega (arith, c.in_ok-item.ensures.below, c.loop.auto.seen) in
    λ before h. rw c.in_ok-push.ensures.items (rows_more (length c.args.seen.now) before c.loop.seen c.loop.found.items c.args.count c.loop.counter c.loop.least c.loop.reader c.in_ok-item.item c.row_of.new.reader _ c.loop-test.true below c.in_ok-item.ensures.gives (c.loop.invariant before h))

pub returns : goal.returns
returns c = record {
  gives = λ before h. rw c.of.ensures (rows_done (length c.args.seen.now) before c.loop.seen c.loop.found.items c.args.count c.loop.counter c.loop.least c.loop.reader _ c.loop-test.false (c.loop.invariant before h));
  seen = λ before h. rw c.of.ensures (c.loop.invariant before h).0;
}
