use Rattle.std.proofs.Common.{◌≡◌, ◌+◌, ℕ, List, ap, sym, ◌∙◌, subst, arith}
use Rattle.std.specs.Arc.{arc_value}
use Rattle.coarse_lists.specs.declared.collections.Collection.{Collection}
use Rattle.journal_model.specs.Layouts.{Channel}
use Rattle.shard_core.specs.Shards.{ChannelShard}
use Rattle.phase_channels.proofs.Beginning.{AreNewShards, new_shard, new_more, new_bases, new_journals}
use Rattle.phase_channels.proofs.channels.new_shards.Goals as goal

abbrev channel_named : ℕ → Collection → Channel
channel_named number collection = record { number = number; seal_rows = collection.seal_rows }

pub loop-channel-preserved : goal.loop-channel-preserved
loop-channel-preserved c =
    let collection = arc_value c.args.collection.now in
    let k = c.loop-channel.channel in
    let made = c.in_ok-shard.shard in
    let copied : arc_value c.in_ok-try_clone.field-0 ≡ collection = c.in_ok-try_clone.ensures in
    let new = new_shard collection k made (c.in_ok-shard.ensures.collection ∙ copied) (c.in_ok-shard.ensures.channel ∙ ap (channel_named k) copied) c.in_ok-shard.ensures.state in
    subst (λ (l : List ChannelShard). AreNewShards collection (k + 1) l) (sym c.in_ok-push.ensures.items) (new_more collection k c.loop-channel.shards.items made c.loop-channel.invariant new)

pub returns-clause-bases : goal.returns-clause-bases
returns-clause-bases c =
    let collection = arc_value c.args.collection.now in
    let bound : c.deref.result.now.channels ≡ collection.channels = ap (λ (d : Collection). d.channels) c.deref.ensures in
    let all : c.loop-channel.channel ≡ collection.channels = omega arith in
    new_bases collection c.loop-channel.shards.items (subst (λ (n : ℕ). AreNewShards collection n c.loop-channel.shards.items) all c.loop-channel.invariant) c.requires.range

pub returns-clause-journals : goal.returns-clause-journals
returns-clause-journals c =
    let collection = arc_value c.args.collection.now in
    let bound : c.deref.result.now.channels ≡ collection.channels = ap (λ (d : Collection). d.channels) c.deref.ensures in
    let all : c.loop-channel.channel ≡ collection.channels = omega arith in
    new_journals collection c.loop-channel.shards.items (subst (λ (n : ℕ). AreNewShards collection n c.loop-channel.shards.items) all c.loop-channel.invariant)
