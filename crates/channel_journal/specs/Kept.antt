-- What the types of this crate keep inside. Only proofs need it.
use Rattle.std.specs.Prelude.{◌≡◌, ℕ, ℤ, ◌+◌, ◌-◌, ◌*◌, ◌^◌, ◌<◌, ◌≤◌, nat_eq, Bool, true, false, is_some, if◌then◌else◌, min, List, [], ◌++◌, length, Option, Some, None}
use Rattle.std.specs.Option.{option_map}
use Rattle.std.specs.List.{AllByRecursion}
use Rattle.std.specs.FinMap as fin
use Rattle.std.specs.Ordering.{int_cmp}
use Rattle.journal_model.specs.declared.notes.PutKind.{PutKind}
use Rattle.journal_model.specs.declared.notes.PutKind.TheVariants.{Insert, Upsert}
use Rattle.journal_model.specs.declared.notes.Kind.{Kind}
use Rattle.journal_model.specs.declared.notes.Kind.TheVariants.{Number}
use Rattle.journal_model.specs.declared.notes.Note.{Note}
use Rattle.journal_model.specs.Lists.{joined}
use Rattle.journal_model.specs.Notes.{live_in, tick_of}
use Rattle.journal_model.specs.Tables.{index_of}
use Rattle.journal_model.specs.Layouts.{Channel, number_at, layout_of}
use Rattle.journal_model.specs.Runs.{IsSound}
use Rattle.channel_journal.specs.Notes.{NoteList}

-- ---- a list of notes in chunks

abbrev pub IsWhole : List Note → Type 0
IsWhole chunk = length chunk ≡ 256

abbrev pub IsBlank : List Note → Type 0
IsBlank chunk = chunk ≡ []

abbrev pub notes_in : List (List Note) → List Note → List Note
notes_in full latest = joined full ++ latest

abbrev pub room_in : List (List Note) → List Note → List (List Note) → ℕ
room_in full latest blank = min (256 * length blank + (256 - length latest)) (2 ^ 56 - length (notes_in full latest))

abbrev pub note_list : List (List Note) → List Note → List (List Note) → NoteList
note_list full latest blank = record { notes = notes_in full latest; spare = room_in full latest blank }

-- whole chunks, the latest chunk, and blank ones, for which the table of whole chunks has room
pub record KeepsNotes (full : List (List Note)) (latest : List Note) (blank : List (List Note)) (capacity : ℕ) : Type 0 where
  pub whole : AllByRecursion IsWhole full
  pub fits : length latest ≤ 256
  pub blanks : AllByRecursion IsBlank blank
  pub room : length full + length blank ≤ capacity
  pub few : length (notes_in full latest) ≤ 2 ^ 56

-- ---- the counters of a journal

-- an insert of a key that is found adds nothing
abbrev pub admits : PutKind → Option ℕ → Bool
admits Insert None = true
admits Insert (Some position) = false
admits Upsert found = true

abbrev pub live_after_put : Option ℕ → ℕ → ℕ
live_after_put found live = if is_some found then live else live + 1

abbrev pub live_after_remove : Option ℕ → ℕ → ℕ
live_after_remove found live = if is_some found then live - 1 else live

abbrev pub tail_after_put : ℕ → ℕ → ℕ
tail_after_put seal_rows tail = if nat_eq (tail + 1) seal_rows then 0 else tail + 1

abbrev pub taken_after_put : ℕ → ℕ → ℕ → ℕ
taken_after_put seal_rows tail taken = if nat_eq (tail + 1) seal_rows then taken + 1 else taken

abbrev pub number_after_put : Channel → ℕ → ℕ → Option ℕ
number_after_put channel tail taken = if nat_eq (tail + 1) channel.seal_rows then Some (number_at channel taken) else None

abbrev pub taken_after_seal : ℕ → ℕ → ℕ
taken_after_seal tail taken = if nat_eq tail 0 then taken else taken + 1

abbrev pub number_after_seal : Channel → ℕ → ℕ → Option ℕ
number_after_seal channel tail taken = if nat_eq tail 0 then None else Some (number_at channel taken)

-- how many numbers a note takes that moves or merges segments
abbrev pub numbers_of : Kind → ℕ
numbers_of (Number segment floor) = 1
numbers_of _ = 0

-- ---- a journal

-- the index has the position of the live row of each key
abbrev pub IsIndex : fin.FinMap int_cmp ℕ → List Note → Type 0
IsIndex index notes = (k : ℤ) → fin.get index k ≡ option_map (λ x. x.position) (index_of notes k)

-- the notes and the index have room for as many notes as the journal takes
pub record HasRoom (spare notes index : ℕ) : Type 0 where
  pub for_notes : spare ≤ notes
  pub for_keys : spare ≤ index

pub record IsChannel (channel : Channel) : Type 0 where
  pub low : channel.number < 16
  pub least : 1 ≤ channel.seal_rows
  pub most : channel.seal_rows ≤ 65536

-- the journal is sound, and the counters and the index are those of its notes
pub record KeepsJournal (channel : Channel) (floor tick taken tail live : ℕ) (notes : List Note) (index : fin.FinMap int_cmp ℕ) : Type 0 where
  pub is_channel : IsChannel channel
  pub sound : IsSound channel (record { notes = notes; floor = floor })
  pub tick_is : tick ≡ tick_of notes
  pub taken_is : taken ≡ (layout_of channel notes).taken
  pub tail_is : tail ≡ length (layout_of channel notes).tail
  pub live_is : live ≡ fin.len (live_in notes)
  pub few : length notes ≤ 2 ^ 56
  pub few_taken : taken ≤ length notes
  pub few_live : live ≤ length notes
  pub short : tail < channel.seal_rows
  pub indexed : IsIndex index notes
