-- What the types of this crate keep inside. Only proofs need it.
use Rattle.std.specs.Prelude.{◌≡◌, ℕ, ◌+◌, ◌^◌, ◌<◌, ◌≤◌, List, [], ◌∷◌, ◌++◌, map, length, Some}
use Rattle.std.specs.List.{AllByRecursion}
use Rattle.hybrid_time.specs.declared.times.Timestamp.{Timestamp}
use Rattle.row_types.specs.declared.rows.Kind.{Kind as ColumnKind}
use Rattle.row_types.specs.Schemas.{Columns}
use Rattle.coarse_lists.specs.declared.collections.Collection.{Collection}
use Rattle.coarse_lists.specs.Collections.{IsInRange}
use Rattle.log_model.specs.Places.{Placed, placed}
use Rattle.journal_model.specs.declared.notes.Kind.{Kind}
use Rattle.journal_model.specs.declared.notes.Kind.TheVariants.{Put}
use Rattle.journal_model.specs.declared.notes.Note.{Note}
use Rattle.journal_model.specs.Puts.{put_at}
use Rattle.journal_model.specs.Layouts.{Channel}
use Rattle.journal_model.specs.Runs.{IsSound}
use Rattle.seg_sealed.specs.Segments as sealed
use Rattle.channel_journal.specs.Notes.{ChannelJournal}
use Rattle.channel_pieces.specs.Pieces.{MarkedLayout, placed_of}
use Rattle.shard_core.specs.declared.pending.Pending.{Pending}
use Rattle.shard_core.specs.declared.pending.Pending.TheVariants.{Row, Closed}
use Rattle.shard_core.specs.Keys.{ArePutsIn, AreKeysIn}
use Rattle.shard_core.specs.Shelves.{Shelves, shelves_in_pieces}
use Rattle.shard_core.specs.Lagging.{IsBehind, Fits, Closes}

-- ---- rows

abbrev pub kinds_in : Columns → List ColumnKind
kinds_in columns = map (λ column. column.1) columns

-- a put is of a row with a dimension and columns of these kinds
abbrev pub IsPutOf : ℕ → List ColumnKind → Kind → Type 0
IsPutOf dim kinds (Put ts how row) = (position : ℕ) → sealed.IsRowOf dim kinds (placed position ts.0 row)
IsPutOf dim kinds _ = Unit {0}

abbrev pub ArePutsOf : ℕ → List ColumnKind → List Note → Type 0
ArePutsOf dim kinds notes = AllByRecursion (λ note. IsPutOf dim kinds note.kind) notes

-- ---- pieces that lag behind

-- pieces, what is pending, the open deaths, and how many more notes they take without memory
pub record LaggingPieces : Type 0 where
  pub pieces : MarkedLayout
  pub pending : List Pending
  pub deaths : List (ℕ × Timestamp)
  pub room : ℕ

-- a note leaves at most a row and a boundary pending, and one death open
pub record HasSpace (room pending pendings deaths death_capacity : ℕ) : Type 0 where
  pub for_pending : pending + room + room ≤ pendings
  pub for_deaths : deaths + room ≤ death_capacity

pub record HasShape (dim : ℕ) (kinds : List ColumnKind) (nodes : ℕ) (pieces : MarkedLayout) : Type 0 where
  pub dim_is : pieces.dim ≡ dim
  pub kinds_are : pieces.kinds ≡ kinds
  pub nodes_are : pieces.nodes ≡ nodes

abbrev pub IsShapedAs : MarkedLayout → MarkedLayout → Type 0
IsShapedAs pieces other = HasShape pieces.dim pieces.kinds pieces.nodes other

pub record IsChannel (channel : Channel) : Type 0 where
  pub low : channel.number < 16
  pub least : 1 ≤ channel.seal_rows
  pub most : channel.seal_rows ≤ 65536

-- a journal from which pieces can be brought up
pub record IsSource (journal : ChannelJournal) (pieces : MarkedLayout) : Type 0 where
  pub sound : IsSound journal.channel journal.state
  pub channel : IsChannel journal.channel
  pub few : length journal.state.notes < 2 ^ 56
  pub puts : ArePutsOf pieces.dim pieces.kinds journal.state.notes

abbrev pub IsBehindOf : ChannelJournal → LaggingPieces → Type 0
IsBehindOf journal l = IsBehind journal.channel journal.state.notes l.pending l.deaths (shelves_in_pieces l.pieces)

-- pieces are behind by what is pending, and by some deaths
pub record Pends (channel : Channel) (notes : List Note) (pending : List Pending) (s : Shelves) : Type 0 where
  pub deaths : List (ℕ × Timestamp)
  pub behind : IsBehind channel notes pending deaths s

-- a row that is pending fits behind the tail; a boundary closes it
abbrev pub IsNext : Channel → List Note → Shelves → Pending → Type 0
IsNext channel notes s (Row position) = (x : Placed) × (put_at notes position ≡ Some x) × Fits channel notes (map placed_of s.tail ++ x ∷ [])
IsNext channel notes s (Closed number) = Closes channel notes s number

-- ---- a shard

pub record HasRoom (spare notes journal room : ℕ) : Type 0 where
  pub few : spare + notes < 2 ^ 56
  pub for_notes : spare ≤ journal
  pub for_pending : spare ≤ room

pub record KeepsShard (collection : Collection) (journal : ChannelJournal) (l : LaggingPieces) : Type 0 where
  pub range : IsInRange collection
  pub channel : IsChannel journal.channel
  pub there : journal.channel.number < collection.channels
  pub seal : journal.channel.seal_rows ≡ collection.seal_rows
  pub puts : ArePutsIn collection journal.state.notes
  pub keys : AreKeysIn collection.channels journal.channel.number journal.state.notes
  pub shape : HasShape collection.dim (kinds_in collection.schema.columns) collection.nodes l.pieces
  pub behind : IsBehindOf journal l
