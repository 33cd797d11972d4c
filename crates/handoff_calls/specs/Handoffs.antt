-- Handoffs: over the turns of a seat of the channels and those of a seat of the vault. The two tables have no common clock; what
-- stands before what is said by the order within each segment's doings.
use Rattle.std.specs.Prelude.{◌≡◌, ℕ, Bool, true, false, List, [], ◌∷◌, ◌++◌}
use Rattle.journal_model.specs.declared.notes.Note.{Note}
use Rattle.journal_model.specs.Layouts.{Channel}
use Rattle.shard_core.specs.Counting.{waiting_numbers}
use Rattle.shard_core.specs.Moves.{BegunMove}
use Rattle.turn_facts.specs.Counts.{total}
use Rattle.seat_walks.specs.Walks.{Turned}
use Rattle.vault.specs.declared.notes.VaultNote.{VaultNote}
use Rattle.vault.specs.Names.{names_of}
use Rattle.vault.specs.Stores.{kept_notes, IsLeft}
use Rattle.handoff_calls.specs.Turns.{IsQuietTurn, WaitsNot, Begins, LoadsOr}

-- the notes that turns added
abbrev pub notes_of : {N : Type 0} → List (Turned N) → List N
notes_of [] = []
notes_of (t ∷ turns) = t.notes ++ notes_of turns

-- what was done for one segment, in its turns: it waited no longer when its move was to begin; or its part was stored in vain;
-- or it was stored, and then loaded in a turn of its channel
pub data Hand : Type 0 where
  Gone : (begun : Turned Note) → Hand
  Left : (begun : Turned Note) → (moving : BegunMove) → (stored : Turned VaultNote) → Hand
  Moved : (begun : Turned Note) → (moving : BegunMove) → (stored : Turned VaultNote) → (loaded : Turned Note) → Hand

-- its turns of the channel and of the vault, in their order, and whether the segment was left
abbrev pub front_in : Hand → List (Turned Note)
front_in (Gone begun) = begun ∷ []
front_in (Left begun moving stored) = begun ∷ []
front_in (Moved begun moving stored loaded) = begun ∷ loaded ∷ []

abbrev pub vault_in : Hand → List (Turned VaultNote)
vault_in (Gone begun) = []
vault_in (Left begun moving stored) = stored ∷ []
vault_in (Moved begun moving stored loaded) = stored ∷ []

abbrev pub left_in : Hand → ℕ
left_in (Gone begun) = 0
left_in (Left begun moving stored) = 1
left_in (Moved begun moving stored loaded) = 0

-- what it answers where it left the segment
abbrev pub as_left : Bool → ℕ
as_left true = 1
as_left false = 0

abbrev pub all_front : List Hand → List (Turned Note)
all_front [] = []
all_front (hand ∷ hands) = front_in hand ++ all_front hands

abbrev pub all_vault : List Hand → List (Turned VaultNote)
all_vault [] = []
all_vault (hand ∷ hands) = vault_in hand ++ all_vault hands

-- `by` and `keeps` are the numbers of the two seats, `line` that of the input line
module _ (channel : Channel) (nodes by keeps line : ℕ) where
  -- the move was begun in one turn, which added nothing
  pub record IsBegun (segment : ℕ) (begun : Turned Note) (moving : BegunMove) : Type 0 where
    pub turn : IsQuietTurn channel.number begun
    pub begins : Begins channel segment begun.before moving

  -- a store in one turn of the vault that ended at a failure, a loss or a damage
  pub record IsStoredInVain (moving : BegunMove) (stored : Turned VaultNote) : Type 0 where
    pub slot : stored.slot ≡ 0
    pub undrawn : stored.drawn ≡ []
    pub left : IsLeft keeps line (names_of moving.part) stored.notes

  -- a store in one turn of the vault in which each object was put, and got as it was put
  pub record IsStored (moving : BegunMove) (stored : Turned VaultNote) : Type 0 where
    pub slot : stored.slot ≡ 0
    pub undrawn : stored.drawn ≡ []
    pub kept : stored.notes ≡ kept_notes keeps line (names_of moving.part)

  pub record IsCommitted (segment : ℕ) (loaded : Turned Note) : Type 0 where
    pub slot : loaded.slot ≡ channel.number
    pub undrawn : loaded.drawn ≡ []
    pub loads : LoadsOr channel nodes by line segment loaded.before loaded.notes

  -- this is what was done for the segment
  abbrev pub IsHand : ℕ → Hand → Type 0
  IsHand segment (Gone begun) = IsQuietTurn channel.number begun × WaitsNot channel begun.before segment
  IsHand segment (Left begun moving stored) = IsBegun segment begun moving × IsStoredInVain moving stored
  IsHand segment (Moved begun moving stored loaded) = IsBegun segment begun moving × IsStored moving stored × IsCommitted segment loaded

  -- one for each segment
  abbrev pub AreHands : List ℕ → List Hand → Type 0
  AreHands [] [] = Unit {0}
  AreHands [] (hand ∷ hands) = ⊥
  AreHands (segment ∷ segments) [] = ⊥
  AreHands (segment ∷ segments) (hand ∷ hands) = IsHand segment hand × AreHands segments hands

  -- a whole handoff: a look lists the segments that wait, and then each of them is handed off, in rising order
  pub record IsHandoff (left : ℕ) (turns : List (Turned Note)) (stores : List (Turned VaultNote)) : Type 0 where
    pub look : Turned Note
    pub hands : List Hand
    pub front : turns ≡ look ∷ all_front hands
    pub vault : stores ≡ all_vault hands
    pub looked : IsQuietTurn channel.number look
    pub each : AreHands (waiting_numbers channel look.before) hands
    pub left_is : left ≡ total left_in hands
