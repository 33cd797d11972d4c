use Rattle.std.proofs.Common.{◌≡◌, ℕ, true, sym, subst}
use Rattle.journal_model.specs.declared.notes.Kind.TheVariants.{Number}
use Rattle.journal_model.specs.Notes.{note_of}
use Rattle.journal_model.specs.Runs.{is_step}
use Rattle.journal_model.proofs.CallLaws.{number_step}
use Rattle.channel_journal.proofs.tests.begin.Goals as goal

pub append-requires-clause-step : goal.append-requires-clause-step
append-requires-clause-step c =
    subst (λ (n : ℕ). is_step c.args.journal.now.channel c.args.journal.now.state (note_of 2 0 (Number n c.floor-floor.result)) ≡ true) (sym c.next_number-segment.ensures)
    (number_step c.args.journal.now.channel c.args.journal.now.state 2 0 c.floor-floor.result c.floor-floor.ensures)
