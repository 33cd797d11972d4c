use Rattle.part_objects.specs.Spellings.{objects_of}
use Rattle.part_objects.proofs.Kept.{names_apart}
use Rattle.data_index_node.proofs.flushing.flush.Goals as goal
use Rattle.data_index_node.proofs.Storing.{stored_holds, stores_leave}

pub returns-clause-held : goal.returns-clause-held
returns-clause-held g c = stored_holds (objects_of c.args.part.now) _ _ c.store.result (names_apart c.args.part.now) c.store.ensures.stored c.store.ensures.telling

pub returns-clause-others : goal.returns-clause-others
returns-clause-others g c = stores_leave (objects_of c.args.part.now) _ _ c.store.result c.store.ensures.stored
