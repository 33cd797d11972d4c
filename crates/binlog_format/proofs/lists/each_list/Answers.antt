use Rattle.std.proofs.Common.{◌≡◌, length, arith}
use Rattle.std.proofs.lemmas.Result.{err_from_is_err_and}
use Rattle.binlog_format.proofs.ListReading.{lists_start, lists_more_by, lists_fail_by, lists_done}
use Rattle.binlog_format.proofs.lists.each_list.Goals as goal

pub loop-count-init : goal.loop-count-init
loop-count-init c = lists_start (length c.args.seen.now) c.args.lengths.now c.args.seen.now c.in_ok-found.found.items c.args.reader.now c.in_ok-found.ensures.items c.requires.none_seen

pub returns-in_err-item : goal.returns-in_err-item
returns-in_err-item c =
    let p = err_from_is_err_and c.from_residual-in_err-item.result c.from_residual-in_err-item.ensures.1 in
    let same : length c.loop-count.seen ≡ length c.args.seen.now = omega arith in
    rw (p.1, p.2) (lists_fail_by c.in_err-item.field-0.0 (length c.loop-count.seen) (length c.args.seen.now) c.args.lengths.now c.loop-count.seen c.loop-count.found.items c.loop-count.count-index _ c.loop-count.reader _ same c.loop-count-test.true c.in_err-item.ensures.gives c.loop-count.invariant)

pub loop-count-preserved : goal.loop-count-preserved
loop-count-preserved c =
    let same : length c.loop-count.seen ≡ length c.args.seen.now = omega arith in
    rw c.in_ok-push.ensures.items (lists_more_by (length c.loop-count.seen) (length c.args.seen.now) c.args.lengths.now c.loop-count.seen c.each_row.new.seen c.loop-count.found.items c.loop-count.count-index _ c.loop-count.reader c.in_ok-item.item c.each_row.new.reader _ same c.loop-count-test.true c.in_ok-item.ensures.gives c.in_ok-item.ensures.seen c.loop-count.invariant)

pub returns : goal.returns
returns c = rw c.of.ensures (lists_done (length c.args.seen.now) c.args.lengths.now c.loop-count.seen c.loop-count.found.items c.loop-count.count-index c.loop-count.reader _ c.loop-count-test.false c.loop-count.invariant)
