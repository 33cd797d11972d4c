-- The shard after its homes changed, and the parts of moves that were begun.
use Rattle.std.proofs.Common.{◌≡◌, ℕ, ◌+◌, ◌-◌, ◌^◌, ◌<◌, ◌≤◌, true, List, [], ◌∷◌, ◌++◌, map, length, drop, sym, ap, ap₂, subst, ◌∙◌, arith, append_assoc}
use Rattle.std.proofs.lemmas.List.{length_push}
use Rattle.std.proofs.Math.Seq.{drop-append_seam}
use Rattle.log_model.proofs.LogLaws.{each-append}
use Rattle.coarse_lists.specs.declared.collections.Collection.{Collection}
use Rattle.journal_model.specs.declared.notes.Note.{Note}
use Rattle.journal_model.specs.declared.notes.Home.{Home}
use Rattle.journal_model.specs.declared.notes.Kind.TheVariants.{Load, Release}
use Rattle.journal_model.specs.Layouts.{Channel, homes_after_load, homes_after_release, layout_of}
use Rattle.journal_model.specs.Lists.{IsIn}
use Rattle.journal_model.specs.Runs.{State, IsSound, is_step}
use Rattle.journal_model.specs.Views.{StandsFor, advanced}
use Rattle.journal_model.proofs.RunLaws.{append_sound}
use Rattle.journal_model.proofs.PartLaws.{moved_stands}
use Rattle.seg_sealed.specs.Parts.{SegmentPart, shown_rows}
use Rattle.channel_journal.specs.Notes.{ChannelJournal, Appends, with_note}
use Rattle.channel_pieces.specs.Pieces.{MarkedLayout, with_homes}
use Rattle.shard_core.specs.Shelves.{shelves_in_pieces, shelves_of}
use Rattle.shard_core.specs.Lagging.{IsBehind}
use Rattle.shard_core.specs.Keys.{IsPutIn, IsKeyIn, ArePutsIn, AreKeysIn}
use Rattle.shard_core.specs.Kept.{LaggingPieces, HasShape, IsShapedAs, IsChannel, IsBehindOf, HasRoom, KeepsShard, kinds_in}
use Rattle.shard_core.specs.Moves.{BegunMove, IsMoveOf, IsLike, StandsAt, Commits}
use Rattle.shard_core.specs.Shards.{ChannelShard}
use Rattle.shard_core.specs.Found.{found_in, found_with}
use Rattle.shard_core.proofs.MoveLaws.{shows_all, loaded, released}
use Rattle.shard_core.proofs.PlaceLaws.{found_caught}

-- ---- pieces that were brought up

pub shaped : (dim nodes : ℕ) (c : Collection) (pieces other : MarkedLayout) → HasShape c.dim (kinds_in c.schema.columns) c.nodes pieces → IsShapedAs pieces other → HasShape c.dim (kinds_in c.schema.columns) c.nodes other
shaped dim nodes c pieces other s h = record {
  dim_is = h.dim_is ∙ s.dim_is;
  kinds_are = h.kinds_are ∙ s.kinds_are;
  nodes_are = h.nodes_are ∙ s.nodes_are;
}

-- the same notes, and pieces that are behind them
pub kept_ready : (collection : Collection) (j k : ChannelJournal) (l m : LaggingPieces) → KeepsShard collection j l → k.state ≡ j.state → k.channel ≡ j.channel → IsShapedAs l.pieces m.pieces → IsBehindOf k m → KeepsShard collection k m
kept_ready collection j k l m s st ch h behind = record {
  range = s.range;
  channel = subst IsChannel (sym ch) s.channel;
  there = subst (λ (c : Channel). c.number < collection.channels) (sym ch) s.there;
  seal = ap (λ (c : Channel). c.seal_rows) ch ∙ s.seal;
  puts = subst (λ (x : State). ArePutsIn collection x.notes) (sym st) s.puts;
  keys = subst (λ (c : Channel). AreKeysIn collection.channels c.number k.state.notes) (sym ch)
      (subst (λ (x : State). AreKeysIn collection.channels j.channel.number x.notes) (sym st) s.keys);
  shape = shaped collection.dim collection.nodes collection l.pieces m.pieces s.shape h;
  behind = behind;
}

-- the homes that are found are those of the journal
pub found_kept : (collection : Collection) (j : ChannelJournal) (l : LaggingPieces) (segment : ℕ) → KeepsShard collection j l → found_with l.pieces.segments l.pending segment ≡ found_in (layout_of j.channel j.state.notes) segment
found_kept collection j l segment s = found_caught j.channel j.state.notes l.pending l.deaths (shelves_in_pieces l.pieces) segment s.behind.is

-- pieces that are brought up show the journal
pub up_shows : (j : ChannelJournal) (l : LaggingPieces) → IsBehindOf j l → (l.pending ≡ []) × (l.deaths ≡ []) → shelves_in_pieces l.pieces ≡ shelves_of j.channel j.state.notes
up_shows j l behind up =
    shows_all j.channel j.state.notes (shelves_in_pieces l.pieces)
    (subst (λ ds. IsBehind j.channel j.state.notes [] ds (shelves_in_pieces l.pieces)) up.1
    (subst (λ ps. IsBehind j.channel j.state.notes ps l.deaths (shelves_in_pieces l.pieces)) up.0 behind))

-- ---- a note that changes homes

kept_moved : (collection : Collection) (j k : ChannelJournal) (l m : LaggingPieces) (note : Note) (change : List Home → List Home) (segment : ℕ) → KeepsShard collection j l → IsPutIn collection note.kind × IsKeyIn collection.channels j.channel.number note.kind → Appends j k note
    → m.pieces ≡ with_homes segment change l.pieces → IsBehindOf k m → KeepsShard collection k m
kept_moved collection j k l m note change segment s put a e behind = record {
  range = s.range;
  channel = subst IsChannel (sym a.channel) s.channel;
  there = subst (λ (c : Channel). c.number < collection.channels) (sym a.channel) s.there;
  seal = ap (λ (c : Channel). c.seal_rows) a.channel ∙ s.seal;
  puts = subst (λ (st : State). ArePutsIn collection st.notes) (sym a.state) (each-append (λ n. IsPutIn collection n.kind) j.state.notes (note ∷ []) s.puts (put.0, tt));
  keys = subst (λ (c : Channel). AreKeysIn collection.channels c.number k.state.notes) (sym a.channel)
      (subst (λ (st : State). AreKeysIn collection.channels j.channel.number st.notes) (sym a.state) (each-append (λ n. IsKeyIn collection.channels j.channel.number n.kind) j.state.notes (note ∷ []) s.keys (put.1, tt)));
  shape = subst (HasShape collection.dim (kinds_in collection.schema.columns) collection.nodes) (sym e) (record { dim_is = s.shape.dim_is; kinds_are = s.shape.kinds_are; nodes_are = s.shape.nodes_are });
  behind = behind;
}

module _ (collection : Collection) (j k : ChannelJournal) (l m : LaggingPieces) (s : KeepsShard collection j l) (none : l.pending ≡ []) (quiet : l.deaths ≡ []) (p : m.pending ≡ l.pending) (d : m.deaths ≡ l.deaths) where
  brought : IsBehind j.channel j.state.notes [] [] (shelves_in_pieces l.pieces)
  brought =
      subst (λ ds. IsBehind j.channel j.state.notes [] ds (shelves_in_pieces l.pieces)) quiet
      (subst (λ ps. IsBehind j.channel j.state.notes ps l.deaths (shelves_in_pieces l.pieces)) none s.behind)

  behind_then : (note : Note) → Appends j k note → (pieces : MarkedLayout) → m.pieces ≡ pieces → IsBehind j.channel (j.state.notes ++ note ∷ []) [] [] (shelves_in_pieces pieces) → IsBehindOf k m
  behind_then note a pieces e b = rw (a.channel, a.state, p, d, none, quiet, e) b

  pub kept_load : (note : Note) (segment node : ℕ) → note.kind ≡ Load segment node → Appends j k note → m.pieces ≡ with_homes segment (homes_after_load node) l.pieces → KeepsShard collection k m
  kept_load note segment node is a e =
      kept_moved collection j k l m note (homes_after_load node) segment s (subst (IsPutIn collection) (sym is) tt, subst (IsKeyIn collection.channels j.channel.number) (sym is) tt) a e
      (behind_then note a (with_homes segment (homes_after_load node) l.pieces) e (loaded j.channel j.state.notes note (shelves_in_pieces l.pieces) brought segment node is))

  pub kept_release : (note : Note) (segment node : ℕ) → note.kind ≡ Release segment node → Appends j k note → m.pieces ≡ with_homes segment (homes_after_release node) l.pieces → KeepsShard collection k m
  kept_release note segment node is a e =
      kept_moved collection j k l m note (homes_after_release node) segment s (subst (IsPutIn collection) (sym is) tt, subst (IsKeyIn collection.channels j.channel.number) (sym is) tt) a e
      (behind_then note a (with_homes segment (homes_after_release node) l.pieces) e (released j.channel j.state.notes note (shelves_in_pieces l.pieces) brought segment node is))

-- ---- room

pub room_ready : (spare room now : ℕ) (j k : ChannelJournal) → HasRoom spare (length j.state.notes) j.spare room → k.state ≡ j.state → j.spare ≤ k.spare → now ≡ room → HasRoom spare (length k.state.notes) k.spare now
room_ready spare room now j k h st s r =
    let same : length k.state.notes ≡ length j.state.notes = ap (λ (x : State). length x.notes) st in
    let few : spare + length j.state.notes < 2 ^ 56 = h.few in
    let notes : spare ≤ j.spare = h.for_notes in
    let pending : spare ≤ room = h.for_pending in
    record { few = omega arith; for_notes = omega arith; for_pending = omega arith }

pub room_committed : (spare left room now : ℕ) (j k : ChannelJournal) (note : Note) → left ≡ spare - 1 → HasRoom spare (length j.state.notes) j.spare room → length j.state.notes + 1 < 2 ^ 56 → Appends j k note → now ≡ room
    → HasRoom left (length k.state.notes) k.spare now
room_committed spare left room now j k note one h under a r =
    let more : length k.state.notes ≡ length (j.state.notes ++ note ∷ []) = ap (λ (st : State). length st.notes) a.state in
    let push : length (j.state.notes ++ note ∷ []) ≡ length j.state.notes + 1 = length_push j.state.notes note in
    let few : spare + length j.state.notes < 2 ^ 56 = h.few in
    let notes : spare ≤ j.spare = h.for_notes in
    let pending : spare ≤ room = h.for_pending in
    let less : j.spare ≡ k.spare + 1 = a.spare in
    record { few = omega arith; for_notes = omega arith; for_pending = omega arith }

pub committed : (old : ChannelShard) (collection : Collection) (spare left : ℕ) (i j k : ChannelJournal) (note : Note) → record { collection = collection; channel = i.channel; state = i.state; spare = spare } ≡ old
    → j.state ≡ i.state → j.channel ≡ i.channel → Appends j k note → is_step old.channel old.state note ≡ true → left ≡ spare - 1
    → Commits old (record { collection = collection; channel = k.channel; state = k.state; spare = left }) note
committed old collection spare left i j k note is st ch a ok one = record {
  step = ok;
  state = a.state ∙ ap (λ s. with_note s note) (st ∙ ap (λ (s : ChannelShard). s.state) is);
  collection = ap (λ (s : ChannelShard). s.collection) is;
  channel = a.channel ∙ ch ∙ ap (λ (s : ChannelShard). s.channel) is;
  spare = one ∙ ap (λ (s : ChannelShard). s.spare - 1) is;
}

-- ---- moves that were begun

pub begun_later : (channel : Channel) (notes more : List Note) (m : BegunMove) → IsMoveOf channel notes m → IsMoveOf channel (notes ++ more) m
begun_later channel notes more m h = record {
  before = h.before;
  more = h.more ++ more;
  is = ap (λ (l : List Note). l ++ more) h.is ∙ append_assoc h.before h.more more;
  begun = h.begun;
  applied = h.applied;
  free = h.free;
  segment = h.segment;
  there = h.there;
  number = h.number;
  stands = h.stands;
}

-- a part like the one that was lent, with the marks of all notes since then
pub stands_at : (channel : Channel) (s : State) (m : BegunMove) (part : SegmentPart) → IsSound channel s → IsMoveOf channel s.notes m → IsLike part m.part → StandsAt channel s.notes m.begun part
stands_at channel s m part sound h like = λ t there same.
    let again : shown_rows part ≡ shown_rows m.part = ap₂ (λ ds rows. shown_rows (record { sealed = record part.sealed { rows = rows }; deaths = ds; applied = part.applied })) like.deaths like.rows in
    let left : drop m.begun s.notes ≡ h.more = ap₂ drop h.begun h.is ∙ drop-append_seam h.before h.more in
    subst (λ ns. StandsFor ns (map (advanced (drop m.begun s.notes)) (shown_rows part)) t.piece) (sym h.is)
    (subst (λ l. StandsFor (h.before ++ h.more) (map (advanced l) (shown_rows part)) t.piece) (sym left)
    (moved_stands channel s.floor h.before h.more (subst (λ ns. IsSound channel (record { notes = ns; floor = s.floor })) h.is sound) h.segment t h.there
    (subst (λ ns. IsIn t (layout_of channel ns).segments) h.is there) (same ∙ like.number ∙ sym h.number) (shown_rows part) (again ∙ h.stands)))

pub stands_then : (channel : Channel) (s : State) (note : Note) (m : BegunMove) (part : SegmentPart) → IsSound channel s → is_step channel s note ≡ true → IsMoveOf channel s.notes m → IsLike part m.part
    → StandsAt channel (s.notes ++ note ∷ []) m.begun part
stands_then channel s note m part sound ok h like =
    stands_at channel (with_note s note) m part (append_sound channel s note sound ok) (begun_later channel s.notes (note ∷ []) m h) like
