use denote.Struct.Declared.{shape}
use denote.Param.Send.{IsSend, recorded_send, struct_send, sendable}
use Rattle.std.proofs.Crossing.{crosses, sync as alloc_sync}
use Rattle.row_types.proofs.allocation.Memory.TheSendSync as memory
use Rattle.call_tests.proofs.steps.Step.TheSendSync as step
use Rattle.call_tests.specs.contracts.threads.Caller as Caller
use Rattle.shard_threads.proofs.Crossing.{seat_send, front_sync}
use Rattle.call_tests.proofs.threads.serve_callers.Goals as goal

caller_send : IsSend Caller.the_row
caller_send = recorded_send (Caller.the_field).row _ _ (Caller.the_type).to_one (struct_send (shape Caller.the_type) (seat_send, search (step.the_send, memory.the_send, sendable, crosses) depth 20))

pub for_each_mut-requires-send-T : goal.for_each_mut-requires-send-T
for_each_mut-requires-send-T g c κs within = search (caller_send, sendable) depth 12

pub for_each_mut-requires-sync-F : goal.for_each_mut-requires-sync-F
for_each_mut-requires-sync-F g c κs within = search (front_sync, alloc_sync, c.type_bounds, sendable) depth 14
