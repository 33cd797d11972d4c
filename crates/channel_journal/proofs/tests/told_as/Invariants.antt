use Rattle.std.proofs.Common.{◌+◌}
use Rattle.journal_model.specs.Journals.{AreBelow}
use Rattle.channel_journal.proofs.tests.told_as.Given as goal

abbrev pub invariant-steps : goal.invariant-steps
invariant-steps l = AreBelow (l.i + 1) l.journal.state.notes
