use Rattle.std.proofs.lemmas.Str.{is_utf8-from_IsUtf8}
use Rattle.binlog_format.proofs.inserts.writing.put_str.Goals as goal

pub returns-clause-fit : goal.returns-clause-fit
returns-clause-fit c = record { utf8 = is_utf8-from_IsUtf8 c.args.text.now c.utf8.text; bytes = rw c.as_bytes.ensures.value at c.in_ok-put_bytes.ensures.fit }
