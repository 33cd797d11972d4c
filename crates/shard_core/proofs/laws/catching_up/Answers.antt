use Rattle.shard_core.proofs.FrontLaws.{row_fits, end_fits}
use Rattle.shard_core.proofs.MoveLaws.{behind_none, behind_next, behind_marked, shows_all}
use Rattle.shard_core.proofs.laws.catching_up.Goals as goal

pub returns-clause-start : goal.returns-clause-start
returns-clause-start c = behind_none

pub returns-clause-next : goal.returns-clause-next
returns-clause-next c = behind_next

pub returns-clause-row : goal.returns-clause-row
returns-clause-row c channel s position pending deaths pieces positive sound k = (k.rows.0.0, k.rows.0.1, row_fits channel s positive sound position pending deaths pieces k.rows.0.0 k k.rows.0.1)

pub returns-clause-boundary : goal.returns-clause-boundary
returns-clause-boundary c channel s number pending deaths pieces sound k = end_fits channel s sound number pending deaths pieces k

pub returns-clause-marked : goal.returns-clause-marked
returns-clause-marked c = behind_marked

pub returns-clause-all : goal.returns-clause-all
returns-clause-all c = shows_all
