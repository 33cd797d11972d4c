use Rattle.std.proofs.Common.{append_assoc}
use Rattle.std.specs.Int.{w32, w64, to_le_bytes}
use Rattle.binlog_format.proofs.deletes.put_mark.Goals as goal

pub returns-clause-bytes : goal.returns-clause-bytes
returns-clause-bytes c = rw (c.in_ok-put_u64.ensures.bytes, c.in_ok-put_u32.ensures.bytes) (append_assoc c.args.out.now.items (to_le_bytes w32 c.args.mark.now.0) (to_le_bytes w64 c.args.mark.now.1.0))
