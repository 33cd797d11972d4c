use Rattle.std.proofs.Common.{◌≡◌, vec_capacity}
use Rattle.phase_run.proofs.Gathering.{GatheredSo}
use Rattle.phase_run.proofs.phases.gather.Given as goal

abbrev pub invariant-loop-job : goal.invariant-loop-job
invariant-loop-job l = record {
  so : GatheredSo l.initial.seat l.yielded l.seat l.done.items l.stop;
  room : vec_capacity l.done ≡ vec_capacity l.initial.done;
}
