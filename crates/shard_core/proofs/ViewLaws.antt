-- What a look needs of a shard: a source from which its pieces are brought up, and then the view that they give.
use Rattle.std.proofs.Common.{◌≡◌, ℕ, ◌+◌, ◌^◌, ◌<◌, true, ◌&&◌, List, [], ◌∷◌, map, length, refl, ap, ap₂, subst, ◌∙◌, arith, leb-true}
use Rattle.std.specs.List.{AllByRecursion}
use Rattle.std.proofs.lemmas.Bool.{false≢true, and_parts}
use Rattle.log_model.proofs.LogLaws.{each_implied}
use Rattle.row_types.specs.declared.rows.Kind.{Kind as ColumnKind}
use Rattle.row_types.specs.declared.rows.Kind.TheVariants as kind
use Rattle.row_types.specs.declared.rows.Field.{Field}
use Rattle.row_types.specs.declared.rows.Field.TheVariants as field
use Rattle.row_types.specs.Schemas.{Columns, is_kind}
use Rattle.coarse_lists.specs.declared.collections.Collection.{Collection}
use Rattle.coarse_lists.specs.Schemas.{is_short, are_values}
use Rattle.journal_model.specs.declared.notes.Kind.{Kind}
use Rattle.journal_model.specs.declared.notes.Kind.TheVariants.{Put}
use Rattle.journal_model.specs.declared.notes.Note.{Note}
use Rattle.journal_model.specs.Notes.{tick_of}
use Rattle.journal_model.specs.Layouts.{Channel}
use Rattle.journal_model.specs.Runs.{State, IsSound}
use Rattle.journal_model.specs.Views.{Shown, view_of}
use Rattle.seg_sealed.specs.Segments as sealed
use Rattle.channel_journal.specs.Notes.{ChannelJournal}
use Rattle.channel_pieces.specs.Pieces.{MarkedLayout, places_of}
use Rattle.channel_view.specs.Views.{ChannelView}
use Rattle.shard_core.specs.Shelves.{shelves_of, shelves_in_pieces, seen_in}
use Rattle.shard_core.specs.Lagging.{IsBehind}
use Rattle.shard_core.specs.Keys.{IsPutIn}
use Rattle.shard_core.specs.Kept.{kinds_in, IsPutOf, LaggingPieces, IsSource, IsBehindOf, HasRoom, KeepsShard}
use Rattle.shard_core.specs.Shards.{ChannelShard, IsViewOf}
use Rattle.shard_core.proofs.ShelfLaws.{view_seen}
use Rattle.shard_core.proofs.MoveLaws.{shows_all}

-- ---- rows of a collection, as pieces ask for them

kind_same : (k : ColumnKind) (value : Field) → is_kind k value ≡ true → sealed.kind_of value ≡ k
kind_same kind.Int (field.Int n) e = refl
kind_same kind.Bool (field.Bool b) e = refl
kind_same kind.Text (field.Text t) e = refl
kind_same k f e = absurd (false≢true e)

short_same : (value : Field) → is_short value ≡ true → sealed.IsShortField value
short_same (field.Int n) e = tt
short_same (field.Bool b) e = tt
short_same (field.Text t) e = leb-true (length t) 1024 e

values_kinds : (columns : Columns) (values : List Field) → are_values columns values ≡ true → (map sealed.kind_of values ≡ kinds_in columns) × AllByRecursion sealed.IsShortField values
values_kinds [] [] e = (refl, tt)
values_kinds [] (value ∷ values) e = absurd (false≢true e)
values_kinds (column ∷ columns) [] e = absurd (false≢true e)
values_kinds (column ∷ columns) (value ∷ values) e =
    let outer = and_parts (is_kind column.1 value && is_short value) (are_values columns values) e in
    let inner = and_parts (is_kind column.1 value) (is_short value) outer.0 in
    let rest = values_kinds columns values outer.1 in
    (ap₂ (λ (k : ColumnKind) l. k ∷ l) (kind_same column.1 value inner.0) rest.0, (short_same value inner.1, rest.1))

put_of : (collection : Collection) (k : Kind) → IsPutIn collection k → IsPutOf collection.dim (kinds_in collection.schema.columns) k
put_of collection (Put ts how row) h = λ position.
    let values = values_kinds collection.schema.columns row.fields h.fields in
    record { vector = h.vector; fields = values.0; short = values.1 }
put_of collection _ h = tt

pub source_of : (collection : Collection) (j : ChannelJournal) (l : LaggingPieces) (spare room : ℕ) → HasRoom spare (length j.state.notes) j.spare room → KeepsShard collection j l → IsSound j.channel j.state → IsSource j l.pieces
source_of collection j l spare room h k sound = record {
  sound = sound;
  channel = k.channel;
  few = let few : spare + length j.state.notes < 2 ^ 56 = h.few in omega arith;
  puts = rw (k.shape.dim_is, k.shape.kinds_are) (each_implied (λ n. IsPutIn collection n.kind) (λ n. IsPutOf collection.dim (kinds_in collection.schema.columns) n.kind) (λ n p. put_of collection n.kind p) j.state.notes k.puts);
}

-- ---- pieces that are brought up

pub brought_up : (j : ChannelJournal) (l : LaggingPieces) → IsBehindOf j l → l.pending ≡ [] → l.deaths ≡ [] → shelves_in_pieces l.pieces ≡ shelves_of j.channel j.state.notes
brought_up j l behind none quiet =
    shows_all j.channel j.state.notes (shelves_in_pieces l.pieces)
    (subst (λ ds. IsBehind j.channel j.state.notes [] ds (shelves_in_pieces l.pieces)) quiet
    (subst (λ ps. IsBehind j.channel j.state.notes ps l.deaths (shelves_in_pieces l.pieces)) none behind))

pub shows_journal : (collection : Collection) (j : ChannelJournal) (l : LaggingPieces) → KeepsShard collection j l → l.pending ≡ [] → l.deaths ≡ [] → shelves_in_pieces l.pieces ≡ shelves_of j.channel j.state.notes
shows_journal collection j l k none quiet = brought_up j l k.behind none quiet

pub view_rows : (channel : Channel) (floor low tick : ℕ) (notes : List Note) (pieces : MarkedLayout) (tail : List Shown) (parts : List (List Shown)) → shelves_in_pieces pieces ≡ shelves_of channel notes
    → tail ≡ pieces.tail → parts ≡ places_of pieces.segments → low ≡ floor → tick ≡ tick_of notes
    → record { floor = low; tick = tick; parts = tail ∷ parts } ≡ view_of channel floor notes
view_rows channel floor low tick notes pieces tail parts shows t p f k =
    ap₂ (λ (n m : ℕ). record { floor = n; tick = m; parts = tail ∷ parts }) f k
    ∙ ap₂ (λ (l : List Shown) (ls : List (List Shown)). record { floor = floor; tick = tick_of notes; parts = l ∷ ls }) t p
    ∙ ap (seen_in floor (tick_of notes)) shows
    ∙ view_seen channel floor notes

-- a view is of a shard whatever its room
pub view_like : (s t : ChannelShard) (view : ChannelView) → s.collection ≡ t.collection → s.channel ≡ t.channel → s.state ≡ t.state → IsViewOf s view → IsViewOf t view
view_like s t view c h st v = record {
  collection = v.collection ∙ c;
  channel = v.channel ∙ ap (λ (x : Channel). x.number) h;
  rows = v.rows ∙ ap₂ (λ (x : Channel) (y : State). view_of x y.floor y.notes) h st;
}
