use Rattle.std.proofs.Common.{[], refl}
use Rattle.shard_core.specs.Shelves.{shelves_of}
use Rattle.shard_core.proofs.MoveLaws.{brought_up}
use Rattle.shard_core.proofs.StepLaws.{noted}
use Rattle.shard_core.proofs.laws.notes.Goals as goal

pub returns-clause-shown : goal.returns-clause-shown
returns-clause-shown c channel s note sound stays = (noted channel s.notes note [] [] (shelves_of channel s.notes) (brought_up channel s.notes (shelves_of channel s.notes) refl) sound.rows.correct stays).is

pub returns-clause-noted : goal.returns-clause-noted
returns-clause-noted c channel s note pending deaths pieces sound k stays = noted channel s.notes note pending deaths pieces k sound.rows.correct stays
