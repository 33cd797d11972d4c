-- What is found in the views that looks gave.
use Rattle.std.proofs.Common.{◌≡◌, ◌⊎◌, ⊎_elim, ℕ, ℤ, ◌+◌, ◌<◌, ◌≤◌, Bool, List, [], ◌∷◌, ◌++◌, map, append-nil, min, take, slice_get, zero, suc, add-one, Some, refl, sym, ap, subst, ◌∙◌, arith}
use Rattle.std.proofs.Math.Nat.{min-le_left, min-le_right, le-min}
use Rattle.std.specs.List.{AllByRecursion}
use Rattle.flat_scan.proofs.MarkedRows.{none_some, some_same}
use Rattle.coarse_lists.specs.declared.collections.Collection.{Collection}
use Rattle.log_model.specs.declared.logs.Entry.{Entry}
use Rattle.journal_model.specs.declared.notes.PutKind.TheVariants.{Insert, Upsert}
use Rattle.journal_model.specs.declared.notes.Kind.{Kind}
use Rattle.journal_model.specs.declared.notes.Kind.TheVariants.{Put, Remove, Tick, Seal, Look, Number, Load, Release, Lists, Merge}
use Rattle.journal_model.specs.declared.notes.Note.{Note}
use Rattle.journal_model.specs.Notes.{log_of, entries_of, tick_of}
use Rattle.journal_model.specs.Journals.{IsJournal}
use Rattle.journal_model.proofs.NoteLaws.{log_of-append}
use Rattle.view_laws.specs.Wholes.{IsOfChannel, AreOfChannelsFrom, Looked as LookedAt, ServesAt, log_at_end}
use Rattle.channel_view.specs.Views.{ChannelView, view_in}
use Rattle.channel_search.specs.Found.{AreOfDim}
use Rattle.seat_walks.specs.Walks.{Turned}
use Rattle.shard_core.specs.Keys.{channel_of, IsKeyIn, AreKeysIn}
use Rattle.call_model.specs.Turns.{stamp, Looks, LooksAtOnce, TicksAndLooks}
use Rattle.call_model.specs.Calls.{AreLooks, least_from, least_tick, tick_left, log_before}
use Rattle.shard_calls.specs.Fronts.{FrontView}
use Rattle.proxy_search.specs.Rounds.{AreViewsAt, least_after, least_in}

-- ---- logs

-- a look leaves the log as it was
pub looks_log : (by line guarantee : ℕ) (wait : Bool) (before notes : List Note) (numbers : List ℕ) → Looks by line guarantee wait before notes numbers → log_of (before ++ notes) ≡ log_of before
looks_log by line guarantee wait before notes numbers l =
    log_of-append before notes
    ∙ ap (λ (log : List Entry). log_of before ++ log)
    (⊎_elim (λ (a : LooksAtOnce by line guarantee wait before notes numbers). ap log_of a.noted) (λ (a : TicksAndLooks by line guarantee wait before notes numbers). ap log_of a.noted) l)
    ∙ append-nil (log_of before)

module _ (channels k : ℕ) where
  entries_home : (kind : Kind) (log : List Entry) → IsKeyIn channels k kind → IsOfChannel (channel_of channels) k log → IsOfChannel (channel_of channels) k (entries_of kind ++ log)
  entries_home (Put ts Insert row) log is rest = (is, rest)
  entries_home (Put ts Upsert row) log is rest = (is, rest)
  entries_home (Remove ts key) log is rest = (is, rest)
  entries_home (Tick ts) log is rest = rest
  entries_home (Seal ts) log is rest = rest
  entries_home (Look guarantee) log is rest = rest
  entries_home (Number segment floor) log is rest = rest
  entries_home (Load segment node) log is rest = rest
  entries_home (Release segment node) log is rest = rest
  entries_home (Lists segment) log is rest = rest
  entries_home (Merge sources segment node) log is rest = rest

  -- the entries of a channel's journal are of the channel's keys
  log_home : (notes : List Note) → AreKeysIn channels k notes → IsOfChannel (channel_of channels) k (log_of notes)
  log_home [] keys = tt
  log_home (note ∷ notes) keys = entries_home note.kind (log_of notes) keys.0 (log_home notes keys.1)

-- ---- ticks

after_below : (ts : ℕ) (views : List ChannelView) → (least_after ts views ≤ ts) × AllByRecursion (λ view. least_after ts views ≤ view.tick) views
after_below ts [] = (let e : ts ≤ ts = omega arith in e, tt)
after_below ts (v ∷ views) =
    let r = after_below (min ts v.tick) views in
    let l : least_after (min ts v.tick) views ≤ min ts v.tick = r.0 in
    let left : min ts v.tick ≤ ts = min-le_left ts v.tick in
    let right : min ts v.tick ≤ v.tick = min-le_right ts v.tick in
    let here : least_after (min ts v.tick) views ≤ ts = omega arith in
    let there : least_after (min ts v.tick) views ≤ v.tick = omega arith in
    (here, (there, r.1))

least_below : (views : List ChannelView) → AllByRecursion (λ view. least_in views ≤ view.tick) views
least_below [] = tt
least_below (v ∷ views) = after_below v.tick views

-- one view more
pub after_next : (ts : ℕ) (views : List ChannelView) (i : ℕ) (view : ChannelView) → slice_get views i ≡ Some view → least_after ts (take (i + 1) views) ≡ min (least_after ts (take i views)) view.tick
after_next ts views i view e = rw add-one (one ts views i e)
  where
    one : (ts : ℕ) (views : List ChannelView) (i : ℕ) → slice_get views i ≡ Some view → least_after ts (take (suc i) views) ≡ min (least_after ts (take i views)) view.tick
    one ts [] i e = absurd (none_some view e)
    one ts (v ∷ views) zero e = ap (λ (u : ChannelView). min ts u.tick) (some_same v view e)
    one ts (v ∷ views) (suc i) e = one (min ts v.tick) views i e

after_above : (n ts : ℕ) (views : List ChannelView) → n ≤ ts → AllByRecursion (λ view. n ≤ view.tick) views → n ≤ least_after ts views
after_above n ts [] h all = h
after_above n ts (v ∷ views) h all = after_above n (min ts v.tick) views (le-min h all.0) all.1

module _ (front : FrontView) where
  after_same : (ts k : ℕ) (turns : List (Turned Note)) (views : List ChannelView) → AreViewsAt front k turns views → least_after ts views ≡ least_from ts turns
  after_same ts k [] [] a = refl
  after_same ts k [] (v ∷ views) a = absurd a
  after_same ts k (t ∷ turns) [] a = absurd a
  after_same ts k (t ∷ turns) (v ∷ views) a = after_same (min ts v.tick) (k + 1) turns views a.1 ∙ ap (λ (n : ℕ). least_from (min ts n) turns) a.0.exact.tick_is

  -- the least of the views' ticks is that of the ticks that the looks left
  pub least_same : (k : ℕ) (turns : List (Turned Note)) (views : List ChannelView) → AreViewsAt front k turns views → least_in views ≡ least_tick turns
  least_same k [] [] a = refl
  least_same k [] (v ∷ views) a = absurd a
  least_same k (t ∷ turns) [] a = absurd a
  least_same k (t ∷ turns) (v ∷ views) a = after_same v.tick (k + 1) turns views a.1 ∙ ap (λ (n : ℕ). least_from n turns) a.0.exact.tick_is

  floors_below : (k : ℕ) (turns : List (Turned Note)) (views : List ChannelView) → AreViewsAt front k turns views → AllByRecursion (λ view. front.floor ≤ view.tick) views
  floors_below k [] [] a = tt
  floors_below k [] (v ∷ views) a = absurd a
  floors_below k (t ∷ turns) [] a = absurd a
  floors_below k (t ∷ turns) (v ∷ views) a =
      let low : front.floor ≤ tick_of (t.before ++ t.notes) = a.0.sound.floor in
      let at : v.tick ≡ tick_of (t.before ++ t.notes) = a.0.exact.tick_is in
      let here : front.floor ≤ v.tick = omega arith in
      (here, floors_below (k + 1) turns views a.1)

  -- ---- the views as looks at all channels

  abbrev pub founds : List (Turned Note) → List ChannelView → List LookedAt
  founds [] views = []
  founds (t ∷ turns) [] = []
  founds (t ∷ turns) (v ∷ views) = record { notes = t.before ++ t.notes; more = []; view = view_in v } ∷ founds turns views

  pub founds_shown : (k : ℕ) (turns : List (Turned Note)) (views : List ChannelView) → AreViewsAt front k turns views → map (λ (l : LookedAt). l.view) (founds turns views) ≡ map view_in views
  founds_shown k [] [] a = refl
  founds_shown k [] (v ∷ views) a = absurd a
  founds_shown k (t ∷ turns) [] a = absurd a
  founds_shown k (t ∷ turns) (v ∷ views) a = λ i. view_in v ∷ founds_shown (k + 1) turns views a.1 i

  pub founds_logs : (by line guarantee : ℕ) (wait : Bool) (j k : ℕ) (turns : List (Turned Note)) (views : List ChannelView) → AreLooks by line guarantee wait j turns → AreViewsAt front k turns views → map log_at_end (founds turns views) ≡ map log_before turns
  founds_logs by line guarantee wait j k [] [] l a = refl
  founds_logs by line guarantee wait j k [] (v ∷ views) l a = absurd a
  founds_logs by line guarantee wait j k (t ∷ turns) [] l a = absurd a
  founds_logs by line guarantee wait j k (t ∷ turns) (v ∷ views) l a =
      let one : log_of ((t.before ++ t.notes) ++ []) ≡ log_of t.before = ap log_of (append-nil (t.before ++ t.notes)) ∙ looks_log by line guarantee wait t.before t.notes t.drawn l.0.1 in
      λ i. one i ∷ founds_logs by line guarantee wait (j + 1) (k + 1) turns views l.2 a.1 i

  founds_serve : (ts k : ℕ) (turns : List (Turned Note)) (views : List ChannelView) → AreViewsAt front k turns views → front.floor ≤ ts → AllByRecursion (λ view. ts ≤ view.tick) views → AllByRecursion (ServesAt ts) (founds turns views)
  founds_serve ts k [] [] a low high = tt
  founds_serve ts k [] (v ∷ views) a low high = absurd a
  founds_serve ts k (t ∷ turns) [] a low high = absurd a
  founds_serve ts k (t ∷ turns) (v ∷ views) a low high =
      let floor : v.floor ≡ front.floor = a.0.floor in
      let from : v.floor ≤ ts = omega arith in (
        record {
          exact = a.0.exact;
          journal = subst IsJournal (sym (append-nil (t.before ++ t.notes))) a.0.sound.journal;
          from_floor = from;
          to_tick = high.0;
        },
        founds_serve ts (k + 1) turns views a.1 low high.1,
      )

  -- they serve the least of their ticks
  pub founds_serve_least : (k : ℕ) (turns : List (Turned Note)) (views : List ChannelView) → AreViewsAt front k turns views → AllByRecursion (ServesAt (least_in views)) (founds turns views)
  founds_serve_least k [] [] a = tt
  founds_serve_least k [] (v ∷ views) a = absurd a
  founds_serve_least k (t ∷ turns) [] a = absurd a
  founds_serve_least k (t ∷ turns) (v ∷ views) a =
      let floors = floors_below k (t ∷ turns) (v ∷ views) a in
      founds_serve (least_in (v ∷ views)) k (t ∷ turns) (v ∷ views) a (after_above front.floor v.tick views floors.0 floors.1) (least_below (v ∷ views))

  pub founds_home : (k : ℕ) (turns : List (Turned Note)) (views : List ChannelView) → AreViewsAt front k turns views → AreOfChannelsFrom (channel_of front.collection.channels) k (map log_at_end (founds turns views))
  founds_home k [] [] a = tt
  founds_home k [] (v ∷ views) a = absurd a
  founds_home k (t ∷ turns) [] a = absurd a
  founds_home k (t ∷ turns) (v ∷ views) a =
      (log_home front.collection.channels k ((t.before ++ t.notes) ++ []) (subst (AreKeysIn front.collection.channels k) (sym (append-nil (t.before ++ t.notes))) a.0.keys), founds_home (k + 1) turns views a.1)

  -- all views are of the collection
  pub dims : (dim k : ℕ) (turns : List (Turned Note)) (views : List ChannelView) → dim ≡ front.collection.dim → AreViewsAt front k turns views → AreOfDim dim views
  dims dim k [] [] e a = tt
  dims dim k [] (v ∷ views) e a = absurd a
  dims dim k (t ∷ turns) [] e a = absurd a
  dims dim k (t ∷ turns) (v ∷ views) e a = (e ∙ sym (ap (λ (c : Collection). c.dim) a.0.collection), dims dim (k + 1) turns views e a.1)
