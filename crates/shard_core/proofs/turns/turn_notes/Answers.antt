use Rattle.shard_core.proofs.TurnLaws.{note_added, base_kept}
use Rattle.shard_core.proofs.turns.turn_notes.Goals as goal

pub returns-clause-notes : goal.returns-clause-notes
returns-clause-notes c = note_added

pub returns-clause-base : goal.returns-clause-base
returns-clause-base c = base_kept
