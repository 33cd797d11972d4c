use Rattle.std.proofs.Common.{sym, ap, subst, ◌∙◌, ◌++◌}
use Rattle.journal_model.specs.Notes.{tick_of}
use Rattle.journal_model.specs.Views.{IsExact, ShowsLive}
use Rattle.journal_model.proofs.RunLaws.{look_exact, look_stays}
use Rattle.shard_core.specs.Shelves.{seen_in}
use Rattle.shard_core.proofs.ShelfLaws.{view_seen}
use Rattle.shard_core.proofs.MoveLaws.{shows_all}
use Rattle.shard_core.proofs.laws.looks.Goals as goal

pub returns-clause-view : goal.returns-clause-view
returns-clause-view c channel floor notes pieces k = ap (seen_in floor (tick_of notes)) (shows_all channel notes pieces k) ∙ view_seen channel floor notes

pub returns-clause-exact : goal.returns-clause-exact
returns-clause-exact c channel s pieces sound k = subst (IsExact s.notes) (sym (ap (seen_in s.floor (tick_of s.notes)) (shows_all channel s.notes pieces k) ∙ view_seen channel s.floor s.notes)) (look_exact channel s sound)

pub returns-clause-extended : goal.returns-clause-extended
returns-clause-extended c channel s more pieces sound journal k = subst (ShowsLive (s.notes ++ more)) (sym (ap (seen_in s.floor (tick_of s.notes)) (shows_all channel s.notes pieces k) ∙ view_seen channel s.floor s.notes)) (look_stays channel s more sound journal)
