use Rattle.std.proofs.Common.{arith}
use Rattle.channel_journal.proofs.KeptLaws.{kept_start}
use Rattle.channel_journal.proofs.journal.Journal.new.Goals as goal

pub invariant_of-result : goal.invariant_of-result
invariant_of-result c = (
  record { for_notes = omega arith; for_keys = omega arith },
  kept_start (record { number = c.args.channel; seal_rows = c.args.seal_rows }) c.in_ok-notes.notes.notes c.in_ok-index.index.map (record { low = c.requires.channel; least = c.requires.least; most = c.requires.most })
      c.in_ok-notes.ensures c.in_ok-index.ensures,
)
