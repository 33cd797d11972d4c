use Rattle.std.proofs.Common.{ap, arith}
use Rattle.journal_model.specs.declared.notes.Kind.TheVariants.{Remove}
use Rattle.journal_model.specs.Notes.{note_of}
use Rattle.journal_model.specs.Runs.{State}
use Rattle.journal_model.proofs.FollowLaws.{follow_above}
use Rattle.channel_journal.proofs.BelowLaws.{below_next}
use Rattle.channel_journal.proofs.tests.remove_row.Goals as goal

pub remove_key-requires-clause-follows : goal.remove_key-requires-clause-follows
remove_key-requires-clause-follows c = follow_above c.args.journal.now.state.notes (note_of 1 7 (Remove (record { 0 = c.args.ts }) c.args.key)) c.requires.below

pub returns : goal.returns
returns c =
    rw (ap (λ (s : State). s.notes) c.remove_key.ensures.note.state) (below_next c.args.ts c.args.journal.now.state.notes (note_of 1 7 (Remove (record { 0 = c.args.ts }) c.args.key)) (omega arith) c.requires.below)
