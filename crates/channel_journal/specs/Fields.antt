-- The fields of a journal as contracts see them. Only proofs need it.
use Rattle.journal_model.specs.Layouts.{Channel}
use Rattle.channel_journal.specs.declared.journal.Journal.TheInside.{Inside}
use Rattle.channel_journal.specs.Notes.{ChannelJournal}
use Rattle.channel_journal.specs.Kept.{HasRoom, KeepsJournal}

abbrev pub channel_of : Inside → Channel
channel_of i = record { number = i.channel; seal_rows = i.seal_rows }

abbrev pub journal : Inside → ChannelJournal
journal i = record { channel = channel_of i; state = record { notes = i.notes.notes; floor = i.floor.0 }; spare = i.spare }

abbrev pub IsKept : Inside → Type 0
IsKept i = HasRoom i.spare i.notes.spare i.index.spare × KeepsJournal (channel_of i) i.floor.0 i.tick.0 i.taken i.tail_rows i.live i.notes.notes i.index.map
