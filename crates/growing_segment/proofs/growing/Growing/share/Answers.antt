use Rattle.growing_segment.proofs.TailLaws.{latest_fit}
use Rattle.growing_segment.proofs.growing.Growing.share.Goals as goal

pub freeze_all-requires-clause-fit : goal.freeze_all-requires-clause-fit
freeze_all-requires-clause-fit c = latest_fit c.self.inside.dim c.self.inside.frozen.items c.self.inside.latest.items c.self.invariant
