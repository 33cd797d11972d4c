use Rattle.std.proofs.Common.{SFits, w64, rules}
use Rattle.std.proofs.lemmas.Int.{to_z-of_z}
use Rattle.std.proofs.lemmas.Result.{err_from_is_err_and}
use Rattle.binlog_format.specs.Inserts.{int_at}
use Rattle.binlog_format.proofs.ReadLoop.{continues, fails, is_done}
use Rattle.binlog_format.proofs.inserts.columns.each_int.Goals as goal

pub returns-in_err-item : goal.returns-in_err-item
returns-in_err-item c =
    let p = err_from_is_err_and c.from_residual-in_err-item.result c.from_residual-in_err-item.ensures.1 in
    rw (p.1, p.2) (fails (λ (state : Unit {0}). int_at) (λ state x. state) c.in_err-item.field-0.0 c.loop.found.items c.args.count c.loop.counter tt c.loop.reader _ c.loop-test.true c.in_err-item.ensures c.loop.invariant)

pub loop-preserved : goal.loop-preserved
loop-preserved c = let fits : SFits w64 c.in_ok-item.item = search rules in let e = simp to_z-of_z at c.in_ok-push.ensures.items in rw e (continues (λ (state : Unit {0}). int_at) (λ state x. state) c.loop.found.items c.args.count c.loop.counter tt c.loop.reader c.in_ok-item.item c.int_of.new.reader _ c.loop-test.true c.in_ok-item.ensures c.loop.invariant)

pub returns : goal.returns
returns c = rw c.of.ensures (is_done (λ (state : Unit {0}). int_at) (λ state x. state) c.loop.found.items c.args.count c.loop.counter tt c.loop.reader _ c.loop-test.false c.loop.invariant)
