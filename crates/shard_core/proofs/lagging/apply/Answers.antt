use Rattle.std.proofs.Common.{subst}
use Rattle.shard_core.specs.Shelves.{shelves_in_pieces}
use Rattle.shard_core.specs.Lagging.{Closes}
use Rattle.shard_core.specs.Kept.{IsNext}
use Rattle.shard_core.proofs.SourceLaws.{number_low}
use Rattle.shard_core.proofs.lagging.apply.Goals as goal

pub close-requires-clause-low : goal.close-requires-clause-low
close-requires-clause-low c =
    let closes : Closes c.args.journal.now.channel c.args.journal.now.state.notes (shelves_in_pieces c.args.pieces.now) c.in-Closed.number = subst (IsNext c.args.journal.now.channel c.args.journal.now.state.notes (shelves_in_pieces c.args.pieces.now)) c.in-Closed.is c.requires.next in
    number_low c.args.journal.now.channel c.args.journal.now.state.notes c.in-Closed.number closes.taken c.requires.source.few c.requires.source.channel.low
