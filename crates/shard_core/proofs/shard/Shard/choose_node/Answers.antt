use Rattle.std.proofs.Common.{subst}
use Rattle.std.specs.Arc.{arc_value}
use Rattle.journal_model.specs.Layouts.{layout_of}
use Rattle.channel_pieces.specs.Counting.{IsLeast}
use Rattle.shard_core.specs.Shards.{ChannelShard}
use Rattle.shard_core.specs.Shelves.{shelves_in_pieces}
use Rattle.shard_core.specs.Counting.{IsLeastNode}
use Rattle.shard_core.proofs.CountLaws.{least_behind}
use Rattle.shard_core.proofs.shard.Shard.choose_node.Goals as goal

pub returns : goal.returns
returns c =
    let j = c.self.inside.journal in
    let l = c.self.inside.lagging in
    record {
      least = subst (λ (s : ChannelShard). IsLeastNode s.collection.nodes (layout_of s.channel s.state.notes).segments c.choose_node.result) c.self.view_is
          (least_behind j.channel j.state.notes l.pending l.deaths (shelves_in_pieces l.pieces) (arc_value c.self.inside.collection).nodes c.choose_node.result c.self.invariant.1.behind
          (subst (λ n. IsLeast n l.pieces.segments c.choose_node.result) c.self.invariant.1.shape.nodes_are c.choose_node.ensures));
    }
