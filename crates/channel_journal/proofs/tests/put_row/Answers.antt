use Rattle.std.proofs.Common.{ap, arith}
use Rattle.journal_model.specs.declared.notes.Kind.TheVariants.{Put}
use Rattle.journal_model.specs.Notes.{note_of}
use Rattle.journal_model.specs.Runs.{State}
use Rattle.journal_model.proofs.FollowLaws.{follow_above}
use Rattle.channel_journal.proofs.BelowLaws.{below_next}
use Rattle.channel_journal.proofs.tests.put_row.Goals as goal

pub put-requires-clause-follows : goal.put-requires-clause-follows
put-requires-clause-follows c = follow_above c.args.journal.now.state.notes (note_of 1 7 (Put (record { 0 = c.args.ts }) c.args.how c.args.row)) c.requires.below

pub returns : goal.returns
returns c =
    rw (ap (λ (s : State). s.notes) c.put.ensures.note.state) (below_next c.args.ts c.args.journal.now.state.notes (note_of 1 7 (Put (record { 0 = c.args.ts }) c.args.how c.args.row)) (omega arith) c.requires.below)
