use Rattle.std.proofs.Common.{subst}
use Rattle.journal_model.specs.declared.notes.Kind.TheVariants.{Load}
use Rattle.journal_model.specs.Notes.{note_of}
use Rattle.journal_model.specs.Runs.{IsSound}
use Rattle.shard_core.specs.Shards.{ChannelShard}
use Rattle.shard_core.proofs.MovedLaws.{stands_then}
use Rattle.shard_core.proofs.shard.Shard.commit_load.Goals as goal

pub returns-in-Ok-clause-stands : goal.returns-in-Ok-clause-stands
returns-in-Ok-clause-stands c =
    let old = c.args.self.now in
    let done = c.in-Ok.ensures.step in
    rw (done.channel, done.state)
    (stands_then old.channel old.state (note_of c.args.by c.args.line (Load c.number-segment.result c.args.node)) c.args.moving c.args.part
    (subst (λ (s : ChannelShard). IsSound s.channel s.state) c.self.view_is c.len.ensures.sound) done.step c.requires.lent c.requires.part)
