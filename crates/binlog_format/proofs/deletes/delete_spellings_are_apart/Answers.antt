use Rattle.binlog_format.proofs.DeleteLaws.{deletes_apart}
use Rattle.binlog_format.proofs.deletes.delete_spellings_are_apart.Goals as goal

pub returns : goal.returns
returns c = deletes_apart
