use Rattle.std.proofs.Common.{ap, arith}
use Rattle.journal_model.specs.declared.notes.Kind.TheVariants.{Tick}
use Rattle.journal_model.specs.Notes.{note_of}
use Rattle.journal_model.specs.Runs.{State}
use Rattle.channel_journal.proofs.BelowLaws.{below_next}
use Rattle.channel_journal.proofs.tests.tick.Goals as goal

pub returns : goal.returns
returns c =
    rw (ap (λ (s : State). s.notes) c.tick.ensures.note.state) (below_next c.args.ts c.args.journal.now.state.notes (note_of 1 7 (Tick (record { 0 = c.args.ts }))) (omega arith) c.requires.below)
