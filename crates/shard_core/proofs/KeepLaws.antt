-- Each call keeps the shard: one note more, what its journal told is pending, and its death is open.
use Rattle.std.proofs.Common.{◌≡◌, ℕ, ◌+◌, ◌-◌, ◌^◌, ◌<◌, ◌≤◌, true, false, cond, List, [], ◌∷◌, ◌++◌, length, Option, Some, None, refl, sym, ap, ap₂, subst, ◌∙◌, arith, append-nil}
use Rattle.std.specs.Prelude.{nat_eq, nat_lt, option_to_list}
use Rattle.std.specs.Option.{option_map}
use Rattle.std.proofs.lemmas.Bool.{le-ltb, lt-ltb}
use Rattle.std.proofs.lemmas.List.{length_push}
use Rattle.hybrid_time.specs.declared.times.Timestamp.{Timestamp}
use Rattle.row_types.specs.declared.rows.Row.{Row}
use Rattle.log_model.specs.Places.{Placed, placed}
use Rattle.log_model.proofs.LogLaws.{each-append}
use Rattle.coarse_lists.specs.declared.collections.Collection.{Collection}
use Rattle.journal_model.specs.declared.notes.PutKind.{PutKind}
use Rattle.journal_model.specs.declared.notes.Kind.{Kind}
use Rattle.journal_model.specs.declared.notes.Kind.TheVariants.{Put, Seal}
use Rattle.journal_model.specs.declared.notes.Note.{Note}
use Rattle.journal_model.specs.Puts.{effective, effective_put}
use Rattle.journal_model.specs.Tables.{ends}
use Rattle.journal_model.specs.Layouts.{Channel, Layout, number_at, with_row, after_seal, after_boundary, with_tail, layout_after, layout_of}
use Rattle.journal_model.specs.Runs.{State, IsSound, is_step}
use Rattle.journal_model.proofs.LayoutLaws.{layout-snoc}
use Rattle.channel_journal.specs.declared.outcomes.PutOutcome.{PutOutcome}
use Rattle.channel_journal.specs.declared.outcomes.PutOutcome.TheVariants.{Exists, Added}
use Rattle.channel_journal.specs.Notes.{ChannelJournal, Appends, number_taken, with_note}
use Rattle.channel_journal.specs.Outcomes.{ended_at, added_row, sealed_number}
use Rattle.shard_core.specs.Shelves.{shelves_in_pieces}
use Rattle.shard_core.specs.Steps.{closed_with, closed_full, closed_by, pending_row, pending_end, pending_of, dated, deaths_of, is_move}
use Rattle.shard_core.specs.Told.{pending_told, deaths_told}
use Rattle.shard_core.specs.Keys.{IsPutIn, IsKeyIn, ArePutsIn, AreKeysIn}
use Rattle.shard_core.specs.Kept.{LaggingPieces, HasShape, kinds_in, IsChannel, HasRoom, KeepsShard}
use Rattle.shard_core.specs.Shards.{ChannelShard, Steps}
use Rattle.row_types.specs.declared.rows.Kind.{Kind as ColumnKind}
use Rattle.coarse_lists.specs.Collections.{IsInRange}
use Rattle.channel_pieces.specs.Pieces.{MarkedLayout, no_pieces}
use Rattle.shard_core.proofs.MoveLaws.{behind_none}
use Rattle.shard_core.proofs.StepLaws.{noted}

pub kept_note : (collection : Collection) (j k : ChannelJournal) (l m : LaggingPieces) (note : Note) → KeepsShard collection j l → IsSound j.channel j.state → IsPutIn collection note.kind × IsKeyIn collection.channels j.channel.number note.kind → is_move note.kind ≡ false → Appends j k note
    → m.pending ≡ l.pending ++ pending_of j.channel j.state.notes note.kind → m.deaths ≡ l.deaths ++ deaths_of j.state.notes note.kind → m.pieces ≡ l.pieces
    → KeepsShard collection k m
kept_note collection j k l m note s sound put stays a p d e = record {
  range = s.range;
  channel = subst IsChannel (sym a.channel) s.channel;
  there = subst (λ (c : Channel). c.number < collection.channels) (sym a.channel) s.there;
  seal = ap (λ (c : Channel). c.seal_rows) a.channel ∙ s.seal;
  puts = subst (λ (st : State). ArePutsIn collection st.notes) (sym a.state) (each-append (λ n. IsPutIn collection n.kind) j.state.notes (note ∷ []) s.puts (put.0, tt));
  keys = subst (λ (c : Channel). AreKeysIn collection.channels c.number k.state.notes) (sym a.channel)
      (subst (λ (st : State). AreKeysIn collection.channels j.channel.number st.notes) (sym a.state) (each-append (λ n. IsKeyIn collection.channels j.channel.number n.kind) j.state.notes (note ∷ []) s.keys (put.1, tt)));
  shape = subst (HasShape collection.dim (kinds_in collection.schema.columns) collection.nodes) (sym e) s.shape;
  behind = rw (a.channel, a.state, p, d, e) (noted j.channel j.state.notes note l.pending l.deaths (shelves_in_pieces l.pieces) s.behind sound.rows.correct stays);
}

-- a note that leaves nothing to be brought up
pub kept_plain : (collection : Collection) (j k : ChannelJournal) (l : LaggingPieces) (note : Note) → KeepsShard collection j l → IsSound j.channel j.state → IsPutIn collection note.kind × IsKeyIn collection.channels j.channel.number note.kind → is_move note.kind ≡ false → Appends j k note
    → pending_of j.channel j.state.notes note.kind ≡ [] → deaths_of j.state.notes note.kind ≡ []
    → KeepsShard collection k l
kept_plain collection j k l note s sound put stays a none quiet =
    kept_note collection j k l l note s sound put stays a
    (sym (append-nil l.pending) ∙ ap (λ ps. l.pending ++ ps) (sym none))
    (sym (append-nil l.deaths) ∙ ap (λ ds. l.deaths ++ ds) (sym quiet)) refl

pub room_less : (spare room now : ℕ) (j k : ChannelJournal) (note : Note) → HasRoom spare (length j.state.notes) j.spare room → 1 ≤ spare → Appends j k note → room ≤ now + 1
    → HasRoom (spare - 1) (length k.state.notes) k.spare now
room_less spare room now j k note h one a r =
    let more : length k.state.notes ≡ length (j.state.notes ++ note ∷ []) = ap (λ (st : State). length st.notes) a.state in
    let push : length (j.state.notes ++ note ∷ []) ≡ length j.state.notes + 1 = length_push j.state.notes note in
    let few : spare + length j.state.notes < 2 ^ 56 = h.few in
    let notes : spare ≤ j.spare = h.for_notes in
    let pending : spare ≤ room = h.for_pending in
    let less : j.spare ≡ k.spare + 1 = a.spare in
    record { few = omega arith; for_notes = omega arith; for_pending = omega arith }

pub stepped : (old : ChannelShard) (collection : Collection) (spare : ℕ) (j k : ChannelJournal) (note : Note) → record { collection = collection; channel = j.channel; state = j.state; spare = spare } ≡ old
    → Appends j k note → 1 ≤ old.spare → is_step old.channel old.state note ≡ true
    → Steps old (record { collection = collection; channel = k.channel; state = k.state; spare = spare - 1 }) note
stepped old collection spare j k note is a one ok =
    let same : spare ≡ old.spare = ap (λ (s : ChannelShard). s.spare) is in
    record {
      step = ok;
      state = a.state ∙ ap (λ (s : ChannelShard). with_note s.state note) is;
      collection = ap (λ (s : ChannelShard). s.collection) is;
      channel = a.channel ∙ ap (λ (s : ChannelShard). s.channel) is;
      spare = omega arith;
    }

-- ---- what is told is what is to be brought up

not_taken : (channel : Channel) (layout : Layout) → cond {A = Option ℕ} (nat_lt layout.taken layout.taken) (Some (number_at channel layout.taken)) None ≡ None
not_taken channel layout = ap (λ b. cond b (Some (number_at channel layout.taken)) None) (le-ltb layout.taken layout.taken (omega arith))

was_taken : (channel : Channel) (layout : Layout) → cond {A = Option ℕ} (nat_lt layout.taken (layout.taken + 1)) (Some (number_at channel layout.taken)) None ≡ Some (number_at channel layout.taken)
was_taken channel layout = ap (λ b. cond b (Some (number_at channel layout.taken)) None) (lt-ltb layout.taken (layout.taken + 1) (omega arith))

row_taken : (channel : Channel) (layout : Layout) (o : Option Placed) → number_taken channel layout (with_row channel layout o) ≡ closed_with channel layout o
row_taken channel layout None = not_taken channel layout
row_taken channel layout (Some x) = elim (nat_eq (length (layout.tail ++ x ∷ [])) channel.seal_rows) as
    (λ b. number_taken channel layout (cond b (after_boundary channel layout (layout.tail ++ x ∷ [])) (with_tail layout (layout.tail ++ x ∷ []))) ≡ cond b (Some (number_at channel layout.taken)) None) [
      | true ↦ was_taken channel layout
      | false ↦ not_taken channel layout
    ]

full_taken : (channel : Channel) (layout : Layout) → number_taken channel layout (after_seal channel layout) ≡ closed_full channel layout
full_taken channel layout = elim (nat_eq (length layout.tail) 0) as
    (λ b. number_taken channel layout (cond b layout (after_boundary channel layout layout.tail)) ≡ cond b None (Some (number_at channel layout.taken))) [
      | true ↦ not_taken channel layout
      | false ↦ was_taken channel layout
    ]

module _ (j k : ChannelJournal) (note : Note) (a : Appends j k note) where
  after : (kind : Kind) → note.kind ≡ kind → number_taken j.channel (layout_of j.channel j.state.notes) (layout_of j.channel k.state.notes) ≡ number_taken j.channel (layout_of j.channel j.state.notes) (layout_after j.channel j.state.notes note.by (layout_of j.channel j.state.notes) kind)
  after kind e = ap (number_taken j.channel (layout_of j.channel j.state.notes))
      (ap (λ (st : State). layout_of j.channel st.notes) a.state ∙ layout-snoc j.channel j.state.notes note ∙ ap (layout_after j.channel j.state.notes note.by (layout_of j.channel j.state.notes)) e)

  pub put_told : (ts : Timestamp) (how : PutKind) (row : Row) (outcome : PutOutcome) (position : ℕ) → note.kind ≡ Put ts how row → position ≡ length j.state.notes
      → effective j.state.notes (Put ts how row) ≡ added_row (placed (length j.state.notes) ts.0 row) outcome
      → number_taken j.channel (layout_of j.channel j.state.notes) (layout_of j.channel k.state.notes) ≡ sealed_number outcome
      → pending_told position outcome ≡ pending_of j.channel j.state.notes (Put ts how row)
  put_told ts how row outcome position e at added sealed =
      told outcome at
      ∙ ap₂ (λ o n. pending_row o ++ pending_end n) (sym added) (sym sealed ∙ after (Put ts how row) e ∙ row_taken j.channel (layout_of j.channel j.state.notes) (effective_put j.state.notes ts.0 how row))
    where
      told : (o : PutOutcome) → position ≡ length j.state.notes → pending_told position o ≡ pending_row (added_row (placed (length j.state.notes) ts.0 row) o) ++ pending_end (sealed_number o)
      told Exists h = refl
      told (Added ended number) h = ap (λ n. pending_told n (Added ended number)) h

  pub seal_told : (ts : Timestamp) (number : Option ℕ) → note.kind ≡ Seal ts
      → number_taken j.channel (layout_of j.channel j.state.notes) (layout_of j.channel k.state.notes) ≡ number
      → number ≡ closed_by j.channel j.state.notes (Seal ts)
  seal_told ts number e sealed = sym sealed ∙ after (Seal ts) e ∙ full_taken j.channel (layout_of j.channel j.state.notes)

pub end_told : (notes : List Note) (kind : Kind) (ts : Timestamp) (ended : Option ℕ) → ends notes kind ≡ ended_at ts.0 ended → deaths_told ts ended ≡ deaths_of notes kind
end_told notes kind ts ended e = told ended ∙ ap (λ o. option_to_list (option_map dated o)) (sym e)
  where
    told : (o : Option ℕ) → deaths_told ts o ≡ option_to_list (option_map dated (ended_at ts.0 o))
    told None = refl
    told (Some position) = refl

-- ---- a shard without notes

pub started : (collection : Collection) (channel dim nodes rows : ℕ) (kinds : List ColumnKind) (j : ChannelJournal) (l : LaggingPieces) (pieces : MarkedLayout) → IsInRange collection → channel < collection.channels
    → dim ≡ collection.dim → nodes ≡ collection.nodes → rows ≡ collection.seal_rows → kinds ≡ kinds_in collection.schema.columns
    → j.channel ≡ record { number = channel; seal_rows = rows } → j.state ≡ record { notes = []; floor = 0 }
    → l ≡ record { pieces = pieces; pending = []; deaths = []; room = 0 } → pieces ≡ no_pieces dim kinds nodes
    → HasRoom 0 (length j.state.notes) j.spare l.room × KeepsShard collection j l
started collection channel dim nodes rows kinds j l pieces range below d n r k ch st la pi =
    let most : collection.channels ≤ 16 = range.channels.1 in
    let least : 2 ≤ collection.seal_rows = range.seal_rows.0 in
    let top : collection.seal_rows ≤ 65536 = range.seal_rows.1 in
    let none : length j.state.notes ≡ 0 = ap (λ (s : State). length s.notes) st in
    let shows : l.pieces ≡ no_pieces dim kinds nodes = ap (λ (m : LaggingPieces). m.pieces) la ∙ pi in (
      record { few = omega arith; for_notes = omega arith; for_pending = omega arith },
      record {
        range = range;
        channel = subst IsChannel (sym ch) (record { low = omega arith; least = omega arith; most = omega arith });
        seal = ap (λ (c : Channel). c.seal_rows) ch ∙ r;
        there = subst (λ (c : Channel). c.number < collection.channels) (sym ch) below;
        puts = subst (λ (s : State). ArePutsIn collection s.notes) (sym st) tt;
        keys = subst (λ (s : State). AreKeysIn collection.channels j.channel.number s.notes) (sym st) tt;
        shape = subst (HasShape collection.dim (kinds_in collection.schema.columns) collection.nodes) (sym shows) (record { dim_is = d; kinds_are = k; nodes_are = n });
        behind = rw (st, la, pi) (behind_none j.channel);
      },
    )
