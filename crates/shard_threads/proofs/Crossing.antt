-- Shards and seats go to other threads, and threads share shards and fronts.
--     shard_send, shard_sync      a shard
--     seat_send, front_sync       a seat that takes turns with shards;  a front
-- None of this comes by itself, since a shard's keys stand in trees whose nodes lie in one another.
use denote.Struct.Declared.{shape}
use denote.Param.Send.{IsSend, IsSync, sendable, view_send, view_sync, recorded_send, recorded_sync, struct_send, struct_sync}
use Rattle.std.proofs.Crossing.{crosses}
use Rattle.coarse_lists.proofs.collections.Collection.TheSendSync as collection
use Rattle.journal_model.specs.contracts.notes.Note as Note
use Rattle.growing_segment.proofs.trees.Tree.TheLaws.TheKnot.{crosses as trees}
use Rattle.growing_segment.specs.contracts.key_index.KeyIndex as KeyIndex
use Rattle.channel_journal.proofs.notes.Notes.TheSendSync as notes
use Rattle.channel_journal.specs.contracts.journal.Journal as Journal
use Rattle.channel_journal.specs.contracts.journal.Journal.TheInside as InJournal
use Rattle.turn_table.proofs.seats.Seat.TheSendSync as seat
use Rattle.turn_table.proofs.tables.Turns.TheSendSync as turns
use Rattle.turn_table.specs.contracts.seats.Seat as Seat
use Rattle.turn_table.specs.contracts.tables.Turns as Turns
use Rattle.shard_core.proofs.lagging.Lagging.TheSendSync as lagging
use Rattle.shard_core.specs.contracts.shard.Shard as Shard
use Rattle.shard_core.specs.contracts.shard.Shard.TheInside as InShard
use Rattle.shard_core.specs.contracts.turns.ShardBase as ShardBase
use Rattle.shard_core.specs.contracts.turns.ShardJournalled.TheImpl.{ghosts}
use Rattle.shard_calls.specs.contracts.fronts.Front as Front
use Rattle.shard_calls.specs.contracts.fronts.Front.TheInside as InFront

key_index_send : IsSend KeyIndex.the_row
key_index_send = search (crosses, trees, sendable) depth 60 fits 20000

key_index_sync : IsSync KeyIndex.the_row
key_index_sync = search (crosses, trees, sendable) depth 60 fits 20000

journal_send : IsSend Journal.the_row
journal_send = view_send InJournal.the_row _ _ _ _ (recorded_send (InJournal.the_field).row _ _ (InJournal.the_type).to_one (struct_send (shape InJournal.the_type) (search (key_index_send, notes.the_send, sendable) depth 20)))

journal_sync : IsSync Journal.the_row
journal_sync = view_sync InJournal.the_row _ _ _ _ (recorded_sync (InJournal.the_field).row _ _ (InJournal.the_type).to_one (struct_sync (shape InJournal.the_type) (search (key_index_sync, notes.the_sync, sendable) depth 20)))

pub shard_send : IsSend Shard.the_row
shard_send = view_send InShard.the_row _ _ _ _ (recorded_send (InShard.the_field).row _ _ (InShard.the_type).to_one (
    struct_send (shape InShard.the_type) (search (journal_send, lagging.the_send, collection.the_send, collection.the_sync, crosses, sendable) depth 20)))

pub shard_sync : IsSync Shard.the_row
shard_sync = view_sync InShard.the_row _ _ _ _ (recorded_sync (InShard.the_field).row _ _ (InShard.the_type).to_one (
    struct_sync (shape InShard.the_type) (search (journal_sync, lagging.the_sync, collection.the_send, collection.the_sync, crosses, sendable) depth 20)))

pub seat_send : IsSend (Seat.the_row Shard.the_row Note.the_row ShardBase.the_row ghosts)
seat_send = search (seat.the_send, shard_send) depth 20

turns_sync : IsSync (Turns.the_row Shard.the_row Note.the_row ShardBase.the_row ghosts)
turns_sync = search (turns.the_sync, shard_send, shard_sync) depth 20

pub front_sync : IsSync Front.the_row
front_sync = view_sync InFront.the_row _ _ _ _ (recorded_sync (InFront.the_field).row _ _ (InFront.the_type).to_one (
    struct_sync (shape InFront.the_type) (search (turns_sync, collection.the_send, collection.the_sync, crosses, sendable) depth 20)))
