use Rattle.std.proofs.Common.{take}
use Rattle.phase_run.specs.Meets.{AreCountsOf}
use Rattle.phase_run.proofs.Meeting.{MetUpTo}
use Rattle.phase_run.proofs.meets.meet.Given as goal

abbrev pub invariant-channels : goal.invariant-channels
invariant-channels l = record {
  met : MetUpTo l.ts.0 l.k l.initial.shards l.shards;
  counted : AreCountsOf l.ts.0 (take l.k l.initial.shards) l.counted;
}
