use Rattle.manu_edge.proofs.sources.BytesSourceSource.read.Goals as goal
use Rattle.manu_edge.proofs.Pieces.{handed_out, at_end, tail_left}

pub returns-clause-bytes : goal.returns-clause-bytes
returns-clause-bytes c =
    let left = tail_left _ _ c.args.self.now.at c.deref.ensures.value in
    (handed_out _ _ _ _ _ _ left c.min-count.ensures c.copy_from_slice.ensures.after, at_end _ _ _ _ _ _ left c.min-count.ensures c.copy_from_slice.ensures.after)
