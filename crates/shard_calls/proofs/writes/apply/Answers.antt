use Rattle.journal_model.specs.declared.notes.Kind.TheVariants.{Put, Remove}
use Rattle.journal_model.specs.Notes.{note_of}
use Rattle.journal_model.proofs.FollowLaws.{follow_above}
use Rattle.shard_calls.proofs.writes.apply.Goals as goal

pub put-requires-clause-follows : goal.put-requires-clause-follows
put-requires-clause-follows c = follow_above c.args.shard.now.state.notes (note_of c.args.by c.args.line (Put c.args.ts c.in-Put.how c.in-Put.row)) c.requires.below

pub remove_key-requires-clause-follows : goal.remove_key-requires-clause-follows
remove_key-requires-clause-follows c = follow_above c.args.shard.now.state.notes (note_of c.args.by c.args.line (Remove c.args.ts c.in-Remove.key)) c.requires.below
