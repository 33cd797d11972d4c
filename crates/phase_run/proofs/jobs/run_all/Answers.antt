use denote.Struct.Declared.{shape}
use denote.Param.Send.{IsSend, sendable, recorded_send, struct_send}
use Rattle.std.proofs.Crossing.{crosses, sync as alloc_sync}
use Rattle.row_types.proofs.allocation.Memory.TheSendSync as memory
use Rattle.hybrid_time.proofs.times.Timestamp.TheSendSync as timestamp
use Rattle.phase_run.proofs.Sending.{request_send}
use Rattle.answer_lines.proofs.answers.Answer.TheSendSync as answer
use Rattle.phase_run.proofs.jobs.Task.TheSendSync as task
use Rattle.phase_run.specs.contracts.jobs.Job as Job
use Rattle.shard_threads.proofs.Crossing.{seat_send, front_sync}
use Rattle.phase_run.proofs.jobs.run_all.Goals as goal

job_send : IsSend Job.the_row
job_send = recorded_send (Job.the_field).row _ _ (Job.the_type).to_one (
    struct_send (shape Job.the_type) (seat_send, search (task.the_send, timestamp.the_send, request_send, answer.the_send, memory.the_send, sendable, crosses) depth 20))

pub for_each_mut-requires-send-T : goal.for_each_mut-requires-send-T
for_each_mut-requires-send-T g c κs within = search (job_send, sendable) depth 12

pub for_each_mut-requires-sync-F : goal.for_each_mut-requires-sync-F
for_each_mut-requires-sync-F g c κs within = search (front_sync, alloc_sync, c.type_bounds, sendable) depth 14
