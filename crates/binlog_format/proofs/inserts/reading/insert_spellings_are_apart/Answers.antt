use Rattle.binlog_format.proofs.InsertLaws.{inserts_apart}
use Rattle.binlog_format.proofs.inserts.reading.insert_spellings_are_apart.Goals as goal

pub returns : goal.returns
returns c = inserts_apart
