use Rattle.std.proofs.Common.{◌≡◌, drop}
use Rattle.journal_model.specs.Layouts.{layout_of}
use Rattle.journal_model.specs.Refusals.{begin_merge_refusal}
use Rattle.shard_core.proofs.shard.Shard.refuse_merge.Given as goal

abbrev pub invariant-segments : goal.invariant-segments
invariant-segments l = begin_merge_refusal (layout_of l.self.channel l.self.state.notes) l.segments ≡ begin_merge_refusal (layout_of l.self.channel l.self.state.notes) (drop l.segment-index l.segments)
