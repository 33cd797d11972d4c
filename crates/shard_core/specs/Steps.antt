-- What is still to be brought up in pieces that lag behind their journal, and what each note adds to that.
use Rattle.std.specs.Prelude.{ℕ, ◌+◌, ◌<◌, ◌^◌, nat_eq, Bool, true, false, if◌then◌else◌, option_to_list, List, [], ◌∷◌, ◌++◌, map, length, Option, Some, None}
use Rattle.std.specs.Option.{option_map}
use Rattle.hybrid_time.specs.declared.times.Timestamp.{Timestamp}
use Rattle.log_model.specs.Places.{Placed}
use Rattle.journal_model.specs.declared.notes.Home.TheVariants.{Leader}
use Rattle.journal_model.specs.declared.notes.Kind.{Kind}
use Rattle.journal_model.specs.declared.notes.Kind.TheVariants.{Put, Seal, Load, Release, Merge}
use Rattle.journal_model.specs.declared.notes.Note.{Note}
use Rattle.journal_model.specs.Puts.{effective, effective_put, put_at}
use Rattle.journal_model.specs.Tables.{ends}
use Rattle.journal_model.specs.Layouts.{Channel, Layout, number_at, layout_of}
use Rattle.seg_sealed.specs.Parts.{shown_as}
use Rattle.channel_pieces.specs.declared.counting.PieceCounts.{PieceCounts}
use Rattle.channel_pieces.specs.Pieces.{marked_by, segment_marked}
use Rattle.shard_core.specs.declared.pending.Pending.{Pending}
use Rattle.shard_core.specs.declared.pending.Pending.TheVariants.{Row, Closed}
use Rattle.shard_core.specs.Shelves.{Shelves}

-- ---- rows and boundaries that are pending

abbrev pub with_shown : Shelves → Option Placed → Shelves
with_shown s None = s
with_shown s (Some x) = record { tail = s.tail ++ shown_as x None ∷ []; segments = s.segments }

-- the tail becomes a segment at the leader
abbrev pub with_closed : Shelves → ℕ → Shelves
with_closed s number = record { tail = []; segments = s.segments ++ record { number = number; homes = Leader ∷ []; rows = s.tail } ∷ [] }

-- a row that is pending joins the tail, without a mark; a boundary that is pending closes the tail under its number
abbrev pub after_pending : List Note → Shelves → Pending → Shelves
after_pending notes s (Row position) = with_shown s (put_at notes position)
after_pending notes s (Closed number) = with_closed s number

abbrev pub after_all : List Note → Shelves → List Pending → Shelves
after_all notes s [] = s
after_all notes s (p ∷ pending) = after_all notes (after_pending notes s p) pending

-- ---- deaths that are no marks yet

-- the rows of tail and segments after some deaths: a row that has no mark gets that of its death
abbrev pub with_ends : List (ℕ × Timestamp) → Shelves → Shelves
with_ends deaths s = record { tail = map (marked_by deaths) s.tail; segments = map (segment_marked deaths) s.segments }

-- all that is pending in its order, then the deaths
abbrev pub caught_up : List Note → List Pending → List (ℕ × Timestamp) → Shelves → Shelves
caught_up notes pending deaths s = with_ends deaths (after_all notes s pending)

-- ---- what a note adds

abbrev pub closed_with : Channel → Layout → Option Placed → Option ℕ
closed_with channel layout None = None
closed_with channel layout (Some x) = if nat_eq (length (layout.tail ++ x ∷ [])) channel.seal_rows then Some (number_at channel layout.taken) else None

abbrev pub closed_full : Channel → Layout → Option ℕ
closed_full channel layout = if nat_eq (length layout.tail) 0 then None else Some (number_at channel layout.taken)

-- the number under which a note closes the tail: a put that fills it, a seal of a tail that has rows
abbrev pub closed_by : Channel → List Note → Kind → Option ℕ
closed_by channel notes (Put ts how row) = closed_with channel (layout_of channel notes) (effective_put notes ts.0 how row)
closed_by channel notes (Seal ts) = closed_full channel (layout_of channel notes)
closed_by channel notes _ = None

abbrev pub pending_row : Option Placed → List Pending
pending_row None = []
pending_row (Some x) = Row x.position ∷ []

abbrev pub pending_end : Option ℕ → List Pending
pending_end None = []
pending_end (Some number) = Closed number ∷ []

-- the row that a note adds, and then the boundary that it makes
abbrev pub pending_of : Channel → List Note → Kind → List Pending
pending_of channel notes kind = pending_row (effective notes kind) ++ pending_end (closed_by channel notes kind)

abbrev pub dated : ℕ × ℕ → ℕ × Timestamp
dated end = (end.0, record { 0 = end.1 })

-- the row that a note ends, and when
abbrev pub deaths_of : List Note → Kind → List (ℕ × Timestamp)
deaths_of notes kind = option_to_list (option_map dated (ends notes kind))

-- a note that changes segments that are there
abbrev pub is_move : Kind → Bool
is_move (Load segment node) = true
is_move (Release segment node) = true
is_move (Merge sources segment node) = true
is_move _ = false

-- ---- homes while boundaries are pending

abbrev pub is_closing : ℕ → Pending → Bool
is_closing number (Row position) = false
is_closing number (Closed other) = nat_eq other number

-- ---- counts while rows and boundaries are pending

-- a row joins the tail; a boundary makes the tail a segment that waits
abbrev pub counted_after : PieceCounts → Pending → PieceCounts
counted_after c (Row position) = record c { tail = c.tail + 1 }
counted_after c (Closed number) = record c { tail = 0; waiting = c.waiting + 1 }

abbrev pub counted_all : PieceCounts → List Pending → PieceCounts
counted_all c [] = c
counted_all c (p ∷ pending) = counted_all (counted_after c p) pending

-- no count on the way passes what 64 bits hold
abbrev pub Fit : PieceCounts → List Pending → Type 0
Fit c [] = Unit {0}
Fit c (p ∷ pending) = (c.tail + 1 < 2 ^ 64) × (c.waiting + 1 < 2 ^ 64) × Fit (counted_after c p) pending
