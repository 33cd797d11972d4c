use Rattle.phase_run.proofs.Keeping.{keeps_more}
use Rattle.phase_run.proofs.phases.tell_all_kept.Goals as goal

pub loop-shard-preserved : goal.loop-shard-preserved
loop-shard-preserved c =
    keeps_more c.args.shards.now c.loop-shard.shard-index c.shard-item.result c.loop-shard-test.true c.shard-item.is (record { sound = c.tell_kept.ensures.sound; keys = c.tell_kept.ensures.keys }) c.loop-shard.invariant
