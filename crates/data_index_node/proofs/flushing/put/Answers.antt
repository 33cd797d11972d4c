use Rattle.data_index_node.proofs.flushing.put.Goals as goal
use Rattle.data_index_node.proofs.Storing.{one_fails, one_wants_memory}

pub returns-in-Err-Failed-clause-stored : goal.returns-in-Err-Failed-clause-stored
returns-in-Err-Failed-clause-stored g c = one_fails c.args.object.now c.as_slice.result.now _ _ c.in-Err-Failed.field-0 c.as_slice.ensures c.in-Err-Failed.ensures.objects

pub returns-in-Err-Memory-clause-stored : goal.returns-in-Err-Memory-clause-stored
returns-in-Err-Memory-clause-stored g c = one_wants_memory c.args.object.now c.as_slice.result.now _ _ c.in-Err-Memory.field-0 c.as_slice.ensures c.in-Err-Memory.ensures.objects
