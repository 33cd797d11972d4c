use Rattle.std.proofs.Common.{ap}
use Rattle.journal_model.specs.declared.notes.Kind.TheVariants.{Look}
use Rattle.journal_model.specs.Notes.{note_of}
use Rattle.journal_model.specs.Runs.{State}
use Rattle.channel_journal.proofs.BelowLaws.{below_next}
use Rattle.channel_journal.proofs.tests.look.Goals as goal

pub returns : goal.returns
returns c =
    rw (ap (λ (s : State). s.notes) c.note_look.ensures.note.state) (below_next c.args._ts c.args.journal.now.state.notes (note_of 1 7 (Look (record { 0 = c.args.guarantee }))) tt c.requires.below)
