use Rattle.binlog_format.proofs.ListLaws.{lists_apart}
use Rattle.binlog_format.proofs.lists.list_spellings_are_apart.Goals as goal

pub returns : goal.returns
returns c = lists_apart
