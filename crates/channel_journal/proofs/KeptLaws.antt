-- Each note keeps what a journal keeps: one lemma a kind.
use Rattle.std.proofs.Common.{◌≡◌, ◌≢◌, ℕ, ℤ, ◌+◌, ◌-◌, ◌^◌, ◌<◌, ◌≤◌, Bool, true, false, cond, List, [], ◌∷◌, ◌++◌, length, Option, Some, None, refl, sym, ap, ap₂, subst, ◌∙◌, arith}
use Rattle.std.proofs.lemmas.Bool.{eqb-false}
use Rattle.std.specs.Prelude.{nat_eq, is_some}
use Rattle.std.specs.Ordering.{int_cmp}
use Rattle.std.specs.FinMap as fin
use Rattle.std.proofs.lemmas.List.{length_push}
use Rattle.hybrid_time.specs.declared.times.Timestamp.{Timestamp}
use Rattle.row_types.specs.declared.rows.Key.{Key}
use Rattle.row_types.specs.declared.rows.Row.{Row}
use Rattle.log_model.specs.Logs.{Rows, after}
use Rattle.log_model.specs.Places.{Placed, placed}
use Rattle.log_model.proofs.LogLaws.{rows_of-after}
use Rattle.journal_model.specs.declared.notes.PutKind.{PutKind}
use Rattle.journal_model.specs.declared.notes.PutKind.TheVariants.{Insert}
use Rattle.journal_model.specs.declared.notes.Kind.{Kind}
use Rattle.journal_model.specs.declared.notes.Kind.TheVariants.{Put, Remove, Tick, Seal, Look, Number, Load, Release, Lists, Merge}
use Rattle.journal_model.specs.declared.notes.Note.{Note}
use Rattle.journal_model.specs.Notes.{entries_of, live_in, tick_after, tick_of}
use Rattle.journal_model.specs.Tables.{reindexed, index_of}
use Rattle.journal_model.specs.Layouts.{Channel, Layout, with_row, after_seal, layout_after, next_layout, layout_of}
use Rattle.journal_model.specs.Runs.{is_step}
use Rattle.journal_model.proofs.NoteLaws.{tick_of-snoc, live_in-snoc}
use Rattle.journal_model.proofs.LayoutLaws.{layout-snoc}
use Rattle.journal_model.proofs.RunLaws.{append_sound, raise_sound}
use Rattle.journal_model.proofs.PlaceLaws.{start_sound}
use Rattle.channel_journal.specs.Notes.{is_upkeep}
use Rattle.channel_journal.specs.Kept.{IsIndex, IsChannel, KeepsJournal, admits, live_after_put, live_after_remove, tail_after_put, taken_after_put, taken_after_seal, numbers_of, HasRoom}
use Rattle.channel_journal.proofs.IndexNotes.{effective_admitted, effective_refused, refused_insert, index_put, index_remove, index_same, index_refused, live_put, live_refused, live_remove}
use Rattle.channel_journal.proofs.LayoutNotes.{tail-row, taken-row, tail-seal, taken-seal}

-- ---- bounds

at_most_one : (b : Bool) (n : ℕ) → cond b (n + 1) n ≤ n + 1
at_most_one true n = omega arith
at_most_one false n = omega arith

at_most_one_else : (b : Bool) (n : ℕ) → cond b n (n + 1) ≤ n + 1
at_most_one_else true n = omega arith
at_most_one_else false n = omega arith

less_live : (found : Option ℕ) (n : ℕ) → live_after_remove found n ≤ n + 1
less_live None n = omega arith
less_live (Some p) n = omega arith

pub short_tail : (seal_rows tail : ℕ) → tail < seal_rows → tail_after_put seal_rows tail < seal_rows
short_tail seal_rows tail short = elim (nat_eq (tail + 1) seal_rows) as (λ b. nat_eq (tail + 1) seal_rows ≡ b → cond b 0 (tail + 1) < seal_rows) [
  | true ↦ λ e. omega arith
  | false ↦ λ e. let other : tail + 1 ≢ seal_rows = eqb-false (tail + 1) seal_rows e in omega arith
] refl

-- room for one note less
pub less_room : (spare list keys list_left keys_left : ℕ) → HasRoom spare list keys → list ≡ list_left + 1 → keys ≤ keys_left + 1 → HasRoom (spare - 1) list_left keys_left
less_room spare list keys list_left keys_left room l k = record {
  for_notes = let was : spare ≤ list = room.for_notes in omega arith;
  for_keys = let was : spare ≤ keys = room.for_keys in omega arith;
}

-- ---- one lemma a kind

module _ (channel : Channel) (floor tick taken tail live : ℕ) (notes : List Note) (index : fin.FinMap int_cmp ℕ) (note : Note) (few : length notes < 2 ^ 56) where
  -- what any note keeps, with the counters and the index after it
  pub kept_with : KeepsJournal channel floor tick taken tail live notes index → is_step channel (record { notes = notes; floor = floor }) note ≡ true
      → (now numbers rows alive : ℕ) (map : fin.FinMap int_cmp ℕ)
      → now ≡ tick_after tick note.kind
      → numbers ≡ (next_layout channel notes (layout_of channel notes) note).taken
      → rows ≡ length (next_layout channel notes (layout_of channel notes) note).tail
      → alive ≡ fin.len (after (live_in notes) (entries_of note.kind))
      → numbers ≤ taken + 1 → alive ≤ live + 1 → rows < channel.seal_rows → IsIndex map (notes ++ note ∷ [])
      → KeepsJournal channel floor now numbers rows alive (notes ++ note ∷ []) map
  kept_with k ok now numbers rows alive map t n r a one fewer short i = record {
    is_channel = k.is_channel;
    sound = append_sound channel (record { notes = notes; floor = floor }) note k.sound ok;
    tick_is = t ∙ ap (λ u. tick_after u note.kind) k.tick_is ∙ sym (tick_of-snoc notes note);
    taken_is = n ∙ ap (λ (l : Layout). l.taken) (sym (layout-snoc channel notes note));
    tail_is = r ∙ ap (λ (l : Layout). length l.tail) (sym (layout-snoc channel notes note));
    live_is = a ∙ ap (λ (rows : Rows). fin.len rows) (sym (live_in-snoc notes note));
    few = let bound : length notes < 2 ^ 56 = few in omega (arith, length_push notes note);
    few_taken = let was : taken ≤ length notes = k.few_taken in omega (arith, length_push notes note);
    few_live = let was : live ≤ length notes = k.few_live in omega (arith, length_push notes note);
    short = short;
    indexed = i;
  }

  -- a note that changes no row, no number and no live key
  kept_plain : KeepsJournal channel floor tick taken tail live notes index → is_step channel (record { notes = notes; floor = floor }) note ≡ true
      → (now numbers : ℕ) → now ≡ tick_after tick note.kind → numbers ≡ (next_layout channel notes (layout_of channel notes) note).taken → numbers ≤ taken + 1
      → length (next_layout channel notes (layout_of channel notes) note).tail ≡ length (layout_of channel notes).tail
      → fin.len (live_in notes) ≡ fin.len (after (live_in notes) (entries_of note.kind))
      → ((q : ℤ) → reindexed q notes (index_of notes q) note.kind ≡ index_of notes q)
      → KeepsJournal channel floor now numbers tail live (notes ++ note ∷ []) index
  kept_plain k ok now numbers t n one same alive f =
      kept_with k ok now numbers tail live index t n (k.tail_is ∙ sym same) (k.live_is ∙ alive) one (omega arith) k.short (index_same index notes note f k.indexed)

  pub kept_put : (ts : Timestamp) (how : PutKind) (row : Row) → note.kind ≡ Put ts how row → admits how (fin.get index row.key.0) ≡ true
      → KeepsJournal channel floor tick taken tail live notes index → is_step channel (record { notes = notes; floor = floor }) note ≡ true
      → KeepsJournal channel floor tick (taken_after_put channel.seal_rows tail taken) (tail_after_put channel.seal_rows tail) (live_after_put (fin.get index row.key.0) live) (notes ++ note ∷ []) (fin.insert index row.key.0 (length notes))
  kept_put ts how row e admitted k ok =
      let x : Placed = placed (length notes) ts.0 row in
      let same : next_layout channel notes (layout_of channel notes) note ≡ with_row channel (layout_of channel notes) (Some x) =
      ap (layout_after channel notes note.by (layout_of channel notes)) e ∙ ap (with_row channel (layout_of channel notes)) (effective_admitted index notes ts.0 how row k.indexed admitted) in
      kept_with k ok tick (taken_after_put channel.seal_rows tail taken) (tail_after_put channel.seal_rows tail) (live_after_put (fin.get index row.key.0) live) (fin.insert index row.key.0 (length notes))
      (ap (tick_after tick) (sym e))
      (ap₂ (taken_after_put channel.seal_rows) k.tail_is k.taken_is ∙ taken-row channel (layout_of channel notes) x ∙ ap (λ (l : Layout). l.taken) (sym same))
      (ap (tail_after_put channel.seal_rows) k.tail_is ∙ tail-row channel (layout_of channel notes) x ∙ ap (λ (l : Layout). length l.tail) (sym same))
      (ap (live_after_put (fin.get index row.key.0)) k.live_is ∙ live_put index notes ts how row k.indexed admitted ∙ ap (λ (kind : Kind). fin.len (after (live_in notes) (entries_of kind))) (sym e))
      (at_most_one (nat_eq (tail + 1) channel.seal_rows) taken)
      (at_most_one_else (is_some (fin.get index row.key.0)) live)
      (short_tail channel.seal_rows tail k.short)
      (index_put index notes note ts how row e k.indexed admitted)

  pub kept_refused : (ts : Timestamp) (how : PutKind) (row : Row) → note.kind ≡ Put ts how row → admits how (fin.get index row.key.0) ≡ false
      → KeepsJournal channel floor tick taken tail live notes index → is_step channel (record { notes = notes; floor = floor }) note ≡ true
      → KeepsJournal channel floor tick taken tail live (notes ++ note ∷ []) index
  kept_refused ts how row e off k ok =
      let insert = refused_insert how (fin.get index row.key.0) off in
      let is : note.kind ≡ Put ts Insert row = e ∙ ap (λ h. Put ts h row) insert.0 in
      let same : next_layout channel notes (layout_of channel notes) note ≡ layout_of channel notes =
      ap (layout_after channel notes note.by (layout_of channel notes)) e ∙ ap (with_row channel (layout_of channel notes)) (effective_refused index notes ts.0 how row k.indexed off) in
      kept_plain k ok tick taken (ap (tick_after tick) (sym e)) (k.taken_is ∙ ap (λ (l : Layout). l.taken) (sym same)) (omega arith) (ap (λ (l : Layout). length l.tail) same)
      (live_refused index notes ts row k.indexed insert.1 ∙ ap (λ (kind : Kind). fin.len (after (live_in notes) (entries_of kind))) (sym is))
      (λ q. ap (reindexed q notes (index_of notes q)) is ∙ index_refused index notes ts row k.indexed insert.1 q)

  pub kept_remove : (ts : Timestamp) (key : Key) → note.kind ≡ Remove ts key → KeepsJournal channel floor tick taken tail live notes index → is_step channel (record { notes = notes; floor = floor }) note ≡ true
      → KeepsJournal channel floor tick taken tail (live_after_remove (fin.get index key.0) live) (notes ++ note ∷ []) (fin.remove index key.0)
  kept_remove ts key e k ok =
      let same : next_layout channel notes (layout_of channel notes) note ≡ layout_of channel notes = ap (layout_after channel notes note.by (layout_of channel notes)) e in
      kept_with k ok tick taken tail (live_after_remove (fin.get index key.0) live) (fin.remove index key.0)
      (ap (tick_after tick) (sym e)) (k.taken_is ∙ ap (λ (l : Layout). l.taken) (sym same)) (k.tail_is ∙ ap (λ (l : Layout). length l.tail) (sym same))
      (ap (live_after_remove (fin.get index key.0)) k.live_is ∙ live_remove index notes ts key k.indexed ∙ ap (λ (kind : Kind). fin.len (after (live_in notes) (entries_of kind))) (sym e))
      (omega arith) (less_live (fin.get index key.0) live) k.short (index_remove index notes note ts key e k.indexed)

  pub kept_tick : (ts : Timestamp) → note.kind ≡ Tick ts → KeepsJournal channel floor tick taken tail live notes index → is_step channel (record { notes = notes; floor = floor }) note ≡ true
      → KeepsJournal channel floor ts.0 taken tail live (notes ++ note ∷ []) index
  kept_tick ts e k ok =
      let same : next_layout channel notes (layout_of channel notes) note ≡ layout_of channel notes = ap (layout_after channel notes note.by (layout_of channel notes)) e in
      kept_plain k ok ts.0 taken (ap (tick_after tick) (sym e)) (k.taken_is ∙ ap (λ (l : Layout). l.taken) (sym same)) (omega arith) (ap (λ (l : Layout). length l.tail) same)
      (ap (λ (kind : Kind). fin.len (after (live_in notes) (entries_of kind))) (sym e)) (λ q. ap (reindexed q notes (index_of notes q)) e)

  pub kept_look : (guarantee : Timestamp) → note.kind ≡ Look guarantee → KeepsJournal channel floor tick taken tail live notes index → is_step channel (record { notes = notes; floor = floor }) note ≡ true
      → KeepsJournal channel floor tick taken tail live (notes ++ note ∷ []) index
  kept_look guarantee e k ok =
      let same : next_layout channel notes (layout_of channel notes) note ≡ layout_of channel notes = ap (layout_after channel notes note.by (layout_of channel notes)) e in
      kept_plain k ok tick taken (ap (tick_after tick) (sym e)) (k.taken_is ∙ ap (λ (l : Layout). l.taken) (sym same)) (omega arith) (ap (λ (l : Layout). length l.tail) same)
      (ap (λ (kind : Kind). fin.len (after (live_in notes) (entries_of kind))) (sym e)) (λ q. ap (reindexed q notes (index_of notes q)) e)

  pub kept_seal : (ts : Timestamp) → note.kind ≡ Seal ts → KeepsJournal channel floor tick taken tail live notes index → is_step channel (record { notes = notes; floor = floor }) note ≡ true
      → KeepsJournal channel floor tick (taken_after_seal tail taken) 0 live (notes ++ note ∷ []) index
  kept_seal ts e k ok =
      let same : next_layout channel notes (layout_of channel notes) note ≡ after_seal channel (layout_of channel notes) = ap (layout_after channel notes note.by (layout_of channel notes)) e in
      let least : 1 ≤ channel.seal_rows = k.is_channel.least in
      kept_with k ok tick (taken_after_seal tail taken) 0 live index
      (ap (tick_after tick) (sym e))
      (ap₂ taken_after_seal k.tail_is k.taken_is ∙ taken-seal channel (layout_of channel notes) ∙ ap (λ (l : Layout). l.taken) (sym same))
      (tail-seal channel (layout_of channel notes) ∙ ap (λ (l : Layout). length l.tail) (sym same))
      (k.live_is ∙ ap (λ (kind : Kind). fin.len (after (live_in notes) (entries_of kind))) (sym e))
      (at_most_one_else (nat_eq tail 0) taken) (omega arith) (omega arith)
      (index_same index notes note (λ q. ap (reindexed q notes (index_of notes q)) e) k.indexed)

  pub kept_upkeep : is_upkeep note.kind ≡ true → KeepsJournal channel floor tick taken tail live notes index → is_step channel (record { notes = notes; floor = floor }) note ≡ true
      → KeepsJournal channel floor tick (taken + numbers_of note.kind) tail live (notes ++ note ∷ []) index
  kept_upkeep up k ok = go note.kind refl up
    where
      bound : (kind : Kind) → taken + numbers_of kind ≤ taken + 1
      bound (Number segment begun) = omega arith
      bound _ = omega arith

      no_number : (taken + 0) ≡ (layout_of channel notes).taken
      no_number = let is : taken ≡ (layout_of channel notes).taken = k.taken_is in omega arith

      merge_taken : (sources : List ℕ) (segment : Option ℕ) (node : ℕ) → (layout_of channel notes).taken ≡ (layout_after channel notes note.by (layout_of channel notes) (Merge sources segment node)).taken
      merge_taken sources None node = refl
      merge_taken sources (Some number) node = refl

      merge_tail : (sources : List ℕ) (segment : Option ℕ) (node : ℕ) → (layout_after channel notes note.by (layout_of channel notes) (Merge sources segment node)).tail ≡ (layout_of channel notes).tail
      merge_tail sources None node = refl
      merge_tail sources (Some number) node = refl

      by_kind : (kind : Kind) → note.kind ≡ kind → tick ≡ tick_after tick kind → taken + numbers_of kind ≡ (layout_after channel notes note.by (layout_of channel notes) kind).taken
          → (layout_after channel notes note.by (layout_of channel notes) kind).tail ≡ (layout_of channel notes).tail
          → fin.len (live_in notes) ≡ fin.len (after (live_in notes) (entries_of kind)) → ((q : ℤ) → reindexed q notes (index_of notes q) kind ≡ index_of notes q)
          → KeepsJournal channel floor tick (taken + numbers_of note.kind) tail live (notes ++ note ∷ []) index
      by_kind kind e t n r a f =
          kept_plain k ok tick (taken + numbers_of note.kind) (t ∙ ap (tick_after tick) (sym e))
          (ap (λ (kind : Kind). taken + numbers_of kind) e ∙ n ∙ ap (λ (kind : Kind). (layout_after channel notes note.by (layout_of channel notes) kind).taken) (sym e))
          (bound note.kind)
          (ap (λ (kind : Kind). length (layout_after channel notes note.by (layout_of channel notes) kind).tail) e ∙ ap (λ xs. length xs) r)
          (a ∙ ap (λ (kind : Kind). fin.len (after (live_in notes) (entries_of kind))) (sym e))
          (λ q. ap (reindexed q notes (index_of notes q)) e ∙ f q)

      go : (kind : Kind) → note.kind ≡ kind → is_upkeep kind ≡ true → KeepsJournal channel floor tick (taken + numbers_of note.kind) tail live (notes ++ note ∷ []) index
      go (Number segment begun) e h = by_kind (Number segment begun) e refl (ap (λ n. n + 1) k.taken_is) refl refl (λ q. refl)
      go (Load segment node) e h = by_kind (Load segment node) e refl no_number refl refl (λ q. refl)
      go (Release segment node) e h = by_kind (Release segment node) e refl no_number refl refl (λ q. refl)
      go (Lists segment) e h = by_kind (Lists segment) e refl no_number refl refl (λ q. refl)
      go (Merge sources segment node) e h = by_kind (Merge sources segment node) e refl (no_number ∙ merge_taken sources segment node) (merge_tail sources segment node) refl (λ q. refl)
      go (Put ts how row) e h = cc
      go (Remove ts key) e h = cc
      go (Tick ts) e h = cc
      go (Seal ts) e h = cc
      go (Look guarantee) e h = cc

pub kept_floor : (channel : Channel) (floor tick taken tail live : ℕ) (notes : List Note) (index : fin.FinMap int_cmp ℕ) (high : ℕ) → KeepsJournal channel floor tick taken tail live notes index
    → floor ≤ high → high ≤ tick_of notes → KeepsJournal channel high tick taken tail live notes index
kept_floor channel floor tick taken tail live notes index high k low most = record {
  is_channel = k.is_channel;
  sound = raise_sound channel (record { notes = notes; floor = floor }) high k.sound low most;
  tick_is = k.tick_is;
  taken_is = k.taken_is;
  tail_is = k.tail_is;
  live_is = k.live_is;
  few = k.few;
  few_taken = k.few_taken;
  few_live = k.few_live;
  short = k.short;
  indexed = k.indexed;
}

-- the same, at values that are equal
pub kept_as : (channel : Channel) (floor tick taken tail live : ℕ) (notes : List Note) (index : fin.FinMap int_cmp ℕ) (numbers rows alive : ℕ) (more : List Note) (map : fin.FinMap int_cmp ℕ)
    → numbers ≡ taken → rows ≡ tail → alive ≡ live → more ≡ notes → map ≡ index
    → KeepsJournal channel floor tick taken tail live notes index → KeepsJournal channel floor tick numbers rows alive more map
kept_as channel floor tick taken tail live notes index numbers rows alive more map n r a m i k =
    subst (λ u. KeepsJournal channel floor tick u rows alive more map) (sym n)
    (subst (λ u. KeepsJournal channel floor tick taken u alive more map) (sym r)
    (subst (λ u. KeepsJournal channel floor tick taken tail u more map) (sym a)
    (subst (λ u. KeepsJournal channel floor tick taken tail live u map) (sym m)
    (subst (λ u. KeepsJournal channel floor tick taken tail live notes u) (sym i) k))))

-- a channel with no notes
start : (channel : Channel) → IsChannel channel → KeepsJournal channel 0 0 0 0 0 [] fin.empty
unfolding layout_of
start channel is = record {
  is_channel = is;
  sound = start_sound channel;
  tick_is = refl;
  taken_is = refl;
  tail_is = refl;
  live_is = sym (ap (λ (rows : Rows). fin.len rows) (rows_of-after []) ∙ fin.len-empty int_cmp Row);
  few = omega arith;
  few_taken = omega arith;
  few_live = omega arith;
  short = let least : 1 ≤ channel.seal_rows = is.least in omega arith;
  indexed = λ k. fin.get-empty int_cmp k;
}

pub kept_start : (channel : Channel) (notes : List Note) (index : fin.FinMap int_cmp ℕ) → IsChannel channel → notes ≡ [] → index ≡ fin.empty → KeepsJournal channel 0 0 0 0 0 notes index
kept_start channel notes index is none empty = kept_as channel 0 0 0 0 0 [] fin.empty 0 0 0 notes index refl refl refl none empty (start channel is)
