-- A meet, channel after channel.
use Rattle.std.proofs.Common.{◌≡◌, ℕ, zero, suc, ◌+◌, ◌*◌, ◌<◌, ◌≤◌, ◌≢◌, inl, inr, cond, Bool, true, false, ⊎_elim, Some, List, [], ◌∷◌, ◌++◌, length, map, take, get_or, set, refl, ap, sym, ◌∙◌, subst, arith, ltb-true, append-nil, Ok, Err}
use Rattle.std.specs.Prelude.{nat_lt, OnErr}
use Rattle.std.specs.declared.result.Result.{Result}
use Rattle.std.specs.List.{count_by}
use Rattle.std.proofs.lemmas.List.{length-map, length-set, take_more}
use Rattle.std.proofs.lemmas.Bool.{cases_lt}
use mathlib.Core.Option.{some-ne-none}
use lib.ListN.{get_elem?}
use Rattle.turn_facts.specs.Prefixes.{IsAt}
use Rattle.turn_facts.proofs.Places.{same_or, at_below, at_some, at_get, at_map, at_here, at_else, at_one}
use Rattle.turn_table.specs.Knowledge.{at_slot}
use Rattle.coarse_lists.specs.declared.collections.Collection.{Collection}
use Rattle.answer_lines.specs.declared.answers.MeetReply.{MeetReply}
use Rattle.hybrid_time.specs.declared.times.Timestamp.{Timestamp}
use Rattle.log_model.specs.declared.logs.Entry.{Entry}
use Rattle.log_model.specs.Places.{Placed}
use Rattle.view_laws.specs.Wholes.{IsOfChannel}
use Rattle.legal_output.specs.Printed.{sum_over}
use Rattle.journal_model.specs.declared.notes.Kind.{Kind}
use Rattle.journal_model.specs.declared.notes.Kind.TheVariants.{Put, Remove, Tick, Seal, Look, Number, Load, Release, Lists, Merge}
use Rattle.journal_model.specs.declared.notes.PutKind.TheVariants.{Insert, Upsert}
use Rattle.journal_model.specs.declared.notes.Note.{Note}
use Rattle.journal_model.specs.Notes.{ts_of, entries_of, log_of, tick_after, tick_from, tick_of}
use Rattle.journal_model.specs.Journals.{is_below, AreBelow, AreUpTo, IsJournal}
use Rattle.journal_model.specs.Layouts.{Channel, Segment, rows_in, is_kept, layout_of}
use Rattle.journal_model.specs.Counts.{Counts, counts_of, is_alive, on_nodes}
use Rattle.journal_model.specs.Groups.{kept_rows, grouped, is_mostly_dead, meet_groups, numbers_of, MergesOf, Done}
use Rattle.journal_model.specs.Runs.{State, IsSound}
use Rattle.journal_model.proofs.NoteLaws.{tick_of-snoc}
use Rattle.journal_model.proofs.CountLaws.{kept_alive, count_alike}
use Rattle.journal_model.proofs.MeetLaws.{all_up_to}
use Rattle.shard_core.specs.Keys.{channel_of, IsKeyIn, AreKeysIn}
use Rattle.shard_core.specs.Shards.{ChannelShard, ChannelBase, Steps, base_of}
use Rattle.call_model.specs.Calls.{channel_at}
use Rattle.shard_calls.specs.Fronts.{notes_of, base_at, AreBases}
use Rattle.phase_model.specs.Rests.{Rest, IsKept}
use Rattle.phase_model.specs.Meets.{meet_tick, MeetsIn, Meets, count_at}
use Rattle.phase_run.specs.Meets.{met_notes, IsMet, Stays, MayHaveMet, met_rest, due_of, total_met, AreCountsOf, Adds}

-- a fact that holds also where there is no error
pub on_err : {T E P : Type 0} (r : Result T E) → P → OnErr r P
on_err (Ok x) p = tt
on_err (Err e) p = p

-- ---- one channel

after_low : (ts t : ℕ) (kind : Kind) → t ≤ ts → is_below (ts_of kind) (Some ts) ≡ true → tick_after t kind ≤ ts
after_low ts t (Tick s) low b = let h : s.0 < ts = ltb-true s.0 ts b in omega arith
after_low ts t _ low b = low

from_low : (ts t : ℕ) (notes : List Note) → t ≤ ts → AreBelow ts notes → tick_from t notes ≤ ts
from_low ts t [] low b = low
from_low ts t (note ∷ notes) low b = from_low ts (tick_after t note.kind) notes (after_low ts t note.kind low b.0) b.1

-- the floor may be raised to a number above all timestamps
pub floor_least : (ts : ℕ) (s m t : ChannelShard) (note : Note) → IsSound s.channel s.state → AreBelow ts s.state.notes → m.state ≡ s.state → Steps m t note → t.state.floor ≤ ts
floor_least ts s m t note sound below same step =
    let stays : t.state.floor ≡ s.state.floor = ap (λ (st : State). st.floor) step.state ∙ ap (λ (st : State). st.floor) same in
    let low : s.state.floor ≤ tick_of s.state.notes = sound.floor in
    let tick : tick_of s.state.notes ≤ ts = from_low ts 0 s.state.notes (omega arith) below in omega arith

pub floor_most : (ts : ℕ) (m t : ChannelShard) → Steps m t (meet_tick 0 ts) → ts ≤ tick_of t.state.notes
floor_most ts m t step =
    let e : tick_of t.state.notes ≡ ts = ap (λ (st : State). tick_of st.notes) step.state ∙ tick_of-snoc m.state.notes (meet_tick 0 ts) in omega arith

pub is_met : (ts : ℕ) (s m t n : ChannelShard) → m.state ≡ s.state → m.collection ≡ s.collection → m.channel ≡ s.channel → Steps m t (meet_tick 0 ts) → n.state ≡ record { notes = t.state.notes; floor = ts } → n.collection ≡ t.collection → n.channel ≡ t.channel
    → IsSound n.channel n.state → AreKeysIn n.collection.channels n.channel.number n.state.notes → IsMet ts s n
is_met ts s m t n state collection channel step floor of at sound keys = record {
  notes = ap (λ (st : State). st.notes) floor ∙ ap (λ (st : State). st.notes) step.state ∙ ap (λ (st : State). st.notes ++ meet_tick 0 ts ∷ []) state;
  floor = ap (λ (st : State). st.floor) floor;
  collection = of ∙ step.collection ∙ collection;
  channel = at ∙ step.channel ∙ channel;
  sound = sound;
  keys = keys;
}

-- ---- the channels so far

-- the first k shards have met, and the others are as they were
pub record MetUpTo (ts k : ℕ) (old now : List ChannelShard) : Type 0 where
  pub met : (j : ℕ) (a : ChannelShard) → j < k → IsAt old j a → (b : ChannelShard) × IsAt now j b × IsMet ts a b
  pub left : (j : ℕ) → k ≤ j → get_elem? now j ≡ get_elem? old j
  pub long : length now ≡ length old

pub met_none : (ts : ℕ) (shards : List ChannelShard) → MetUpTo ts 0 shards shards
met_none ts shards = record { met = λ j a below at. absurd (omega arith); left = λ j low. refl; long = refl }

-- a shard is at its place
pub is_there : (now : List ChannelShard) (k : ℕ) (d : ChannelShard) → k < length now → IsAt now k (get_or now k d)
is_there now k d below = let p = at_some now k below in subst (λ (x : ChannelShard). IsAt now k x) (sym (at_get now k p.0 d p.1)) p.1

-- the shard that is next is as it was
pub next_at : (ts k : ℕ) (old now : List ChannelShard) (a : ChannelShard) → MetUpTo ts k old now → IsAt now k a → IsAt old k a
next_at ts k old now a m there = sym (m.left k (omega arith)) ∙ there

pub met_more : (ts k : ℕ) (old now : List ChannelShard) (a b : ChannelShard) → MetUpTo ts k old now → IsAt now k a → IsMet ts a b → MetUpTo ts (k + 1) old (set now k b)
met_more ts k old now a b m there met = record {
  met = λ j x low at. ⊎_elim
      (λ (e : j ≡ k). (
        b,
        subst (λ (i : ℕ). IsAt (set now k b) i b) (sym e) (at_here now k b (at_below now k a there)),
        subst (λ (y : ChannelShard). IsMet ts y b) (at_one old k a x (next_at ts k old now a m there) (subst (λ (i : ℕ). IsAt old i x) e at)) met,
      ))
      (λ (n : j ≢ k). let q = m.met j x (omega arith) at in (q.0, at_else now k j b n ∙ q.1, q.2))
      (same_or j k);
  left = λ j low. at_else now k j b (λ e. omega arith) ∙ m.left j (omega arith);
  long = length-set now k b ∙ m.long;
}

-- where memory was wanting in the channel that is next
pub may_have_met : (ts k : ℕ) (old now : List ChannelShard) (a b : ChannelShard) → MetUpTo ts k old now → IsAt now k a → MayHaveMet ts a b
    → (j : ℕ) (x y : ChannelShard) → IsAt old j x → IsAt (set now k b) j y → MayHaveMet ts x y
may_have_met ts k old now a b m there may j x y was at = ⊎_elim
    (λ (e : j ≡ k).
    let first : a ≡ x = at_one old k a x (next_at ts k old now a m there) (subst (λ (i : ℕ). IsAt old i x) e was) in
    let second : b ≡ y = at_one (set now k b) k b y (at_here now k b (at_below now k a there)) (subst (λ (i : ℕ). IsAt (set now k b) i y) e at) in
    subst (λ (u : ChannelShard). MayHaveMet ts u y) first (subst (MayHaveMet ts a) second may))
    (λ (n : j ≢ k).
    let other : IsAt now j y = sym (at_else now k j b n) ∙ at in
    ⊎_elim
    (λ (low : j < k). let q = m.met j x low was in inl (subst (IsMet ts x) (at_one now j q.0 y q.1 other) q.2))
    (λ (high : k ≤ j). inr (stays x y (at_one old j x y was (sym (m.left j high) ∙ other))))
    (cases_lt j k))
    (same_or j k)
  where
    stays : (u v : ChannelShard) → u ≡ v → Stays u v
    stays u v e = record { state = sym (ap (λ (s : ChannelShard). s.state) e); collection = sym (ap (λ (s : ChannelShard). s.collection) e); channel = sym (ap (λ (s : ChannelShard). s.channel) e) }

-- ---- counts

total_append : (part : Counts → ℕ) (ts : ℕ) (shards : List ChannelShard) (a : ChannelShard) → total_met part ts (shards ++ a ∷ []) ≡ total_met part ts shards + part (counts_of a.channel (met_notes ts a))
total_append part ts [] a = omega arith
total_append part ts (s ∷ shards) a = let r : total_met part ts (shards ++ a ∷ []) ≡ total_met part ts shards + part (counts_of a.channel (met_notes ts a)) = total_append part ts shards a in omega arith

pub counts_none : (ts : ℕ) (shards : List ChannelShard) (counted : MeetReply) → counted.ts.0 ≡ ts → counted.live ≡ 0 → counted.tail ≡ 0 → counted.waiting ≡ 0 → counted.node_rows ≡ 0 → counted.node_live ≡ 0 → counted.failed ≡ 0 → AreCountsOf ts [] counted
counts_none ts shards counted is live tail waiting rows alive failed = record { ts_is = is; live = live; tail = tail; waiting = waiting; node_rows = rows; node_live = alive; failed = failed }

pub counts_more : (ts k : ℕ) (shards : List ChannelShard) (a : ChannelShard) (counts : Counts) (old new : MeetReply) → IsAt shards k a → counts ≡ counts_of a.channel (met_notes ts a) → AreCountsOf ts (take k shards) old → Adds counts old new → AreCountsOf ts (take (k + 1) shards) new
counts_more ts k shards a counts old new at is c adds =
    let more : take (k + 1) shards ≡ take k shards ++ a ∷ [] = take_more shards k a (at_below shards k a at) ∙ ap (λ (x : ChannelShard). take k shards ++ x ∷ []) (at_get shards k a a at) in
    let one : (part : Counts → ℕ) (n m : ℕ) → n ≡ total_met part ts (take k shards) → m ≡ n + part counts → m ≡ total_met part ts (take (k + 1) shards) =
    λ part n m so_far added.
    let e : total_met part ts (take (k + 1) shards) ≡ total_met part ts (take k shards) + part (counts_of a.channel (met_notes ts a)) = ap (total_met part ts) more ∙ total_append part ts (take k shards) a in
    let p : part counts ≡ part (counts_of a.channel (met_notes ts a)) = ap part is in omega arith in
    record {
      ts_is = ap (λ (t : Timestamp). t.0) adds.ts ∙ c.ts_is;
      live = one (λ x. x.live) old.live new.live c.live adds.live;
      tail = one (λ x. x.tail) old.tail new.tail c.tail adds.tail;
      waiting = one (λ x. x.waiting) old.waiting new.waiting c.waiting adds.waiting;
      node_rows = one (λ x. x.node_rows) old.node_rows new.node_rows c.node_rows adds.node_rows;
      node_live = one (λ x. x.node_live) old.node_live new.node_live c.node_live adds.node_live;
      failed = one due_of old.failed new.failed c.failed adds.failed;
    }

total_has : (part : Counts → ℕ) (ts k : ℕ) (shards : List ChannelShard) (a : ChannelShard) → IsAt shards k a → part (counts_of a.channel (met_notes ts a)) ≤ total_met part ts shards
total_has part ts k [] a at = absurd (some-ne-none a (sym at))
total_has part ts zero (s ∷ shards) a at =
    let same : s ≡ a = at_one (s ∷ shards) 0 s a refl at in
    let e : part (counts_of s.channel (met_notes ts s)) ≡ part (counts_of a.channel (met_notes ts a)) = ap (λ (x : ChannelShard). part (counts_of x.channel (met_notes ts x))) same in omega arith
total_has part ts (suc k) (s ∷ shards) a at = let r : part (counts_of a.channel (met_notes ts a)) ≤ total_met part ts shards = total_has part ts k shards a at in omega arith

sum_first : (n : ℕ) (f : ℕ → ℕ) → sum_over (suc n) f ≡ f 0 + sum_over n (λ k. f (suc k))
sum_first zero f = omega arith
sum_first (suc n) f = let r : sum_over (suc n) f ≡ f 0 + sum_over n (λ k. f (suc k)) = sum_first n f in omega arith

-- the sum over the channels is that over their shards
sum_shards : (part : Counts → ℕ) (ts : ℕ) (shards : List ChannelShard) (f : ℕ → ℕ) → ((k : ℕ) (a : ChannelShard) → IsAt shards k a → f k ≡ part (counts_of a.channel (met_notes ts a))) → total_met part ts shards ≡ sum_over (length shards) f
sum_shards part ts [] f h = refl
sum_shards part ts (s ∷ shards) f h =
    let r : total_met part ts shards ≡ sum_over (length shards) (λ k. f (suc k)) = sum_shards part ts shards (λ k. f (suc k)) (λ k. h (suc k)) in
    let e : f 0 ≡ part (counts_of s.channel (met_notes ts s)) = h 0 s refl in
    let first : sum_over (suc (length shards)) f ≡ f 0 + sum_over (length shards) (λ k. f (suc k)) = sum_first (length shards) f in omega arith

-- ---- merges

not_due : (b : Bool) → ◌≡◌ {A = ℕ} (cond b 1 0) 0 → b ≡ false
not_due true e = absurd (omega arith)
not_due false e = refl

-- where at least half of the rows on nodes are alive a meet merges nothing
pub no_merges : (channel : Channel) (ts : ℕ) (notes : List Note) → AreUpTo ts notes → due_of (counts_of channel notes) ≡ 0 → MergesOf ts [] (numbers_of (meet_groups channel notes ts)) []
no_merges channel ts notes low none =
    let rows : List Placed = rows_in (on_nodes (layout_of channel notes).segments) in
    let same : count_by (is_kept notes ts) rows ≡ count_by (is_alive notes) rows = count_alike (is_kept notes ts) (is_alive notes) rows (λ x. kept_alive notes ts x low) in
    let few : is_mostly_dead notes ts rows ≡ false = ap (λ n. nat_lt (2 * n) (length rows)) same ∙ not_due (nat_lt (2 * count_by (is_alive notes) rows) (length rows)) none in
    let groups : meet_groups channel notes ts ≡ [] = ap (λ (b : Bool). cond b (grouped channel.seal_rows (kept_rows notes ts) (on_nodes (layout_of channel notes).segments)) []) few in
    subst (λ (l : List (List Segment)). MergesOf ts [] (numbers_of l) []) (sym groups) (Done [])

-- ---- keys

module _ (channels k : ℕ) where
  entries_home : (kind : Kind) (log : List Entry) → IsKeyIn channels k kind → IsOfChannel (channel_of channels) k log → IsOfChannel (channel_of channels) k (entries_of kind ++ log)
  entries_home (Put ts Insert row) log is others = (is, others)
  entries_home (Put ts Upsert row) log is others = (is, others)
  entries_home (Remove ts key) log is others = (is, others)
  entries_home (Tick ts) log is others = others
  entries_home (Seal ts) log is others = others
  entries_home (Look guarantee) log is others = others
  entries_home (Number segment floor) log is others = others
  entries_home (Load segment node) log is others = others
  entries_home (Release segment node) log is others = others
  entries_home (Lists segment) log is others = others
  entries_home (Merge sources segment node) log is others = others

  -- the entries of a channel's journal are of the channel's keys
  pub log_home : (notes : List Note) → AreKeysIn channels k notes → IsOfChannel (channel_of channels) k (log_of notes)
  log_home [] keys = tt
  log_home (note ∷ notes) keys = entries_home note.kind (log_of notes) keys.0 (log_home notes keys.1)

-- ---- all channels

module _ (ts : ℕ) (before after : List ChannelShard) (m : MetUpTo ts (length before) before after) (collection : Collection) (floor : ℕ) (bases : AreBases collection floor (map base_of before)) where
  many : length before ≡ collection.channels
  many = sym (length-map before base_of) ∙ bases.many

  -- what is known of a channel
  pub record Known (k : ℕ) : Type 0 where
    pub a : ChannelShard
    pub b : ChannelShard
    pub was : IsAt before k a
    pub is : IsAt after k b
    pub met : IsMet ts a b
    pub base : base_of a ≡ base_at collection floor k

  known : (k : ℕ) → k < collection.channels → Known k
  known k below =
      let p = at_some before k (let e : length before ≡ collection.channels = many in omega arith) in
      let q = m.met k p.0 (at_below before k p.0 p.1) p.1 in
      record { a = p.0; b = q.0; was = p.1; is = q.1; met = q.2; base = bases.each k (base_of p.0) (at_map base_of before k p.0 p.1) }

  notes_at : (shards : List ChannelShard) (k : ℕ) (x : ChannelShard) → IsAt shards k x → at_slot (map notes_of shards) k ≡ x.state.notes
  notes_at shards k x at = at_get (map notes_of shards) k (notes_of x) [] (at_map notes_of shards k x at)

  pub bases_after : AreBases collection ts (map base_of after)
  bases_after = record {
    range = bases.range;
    many = length-map after base_of ∙ m.long ∙ many;
    each = λ k x at.
        let low : k < collection.channels = let h : k < length (map base_of after) = at_below (map base_of after) k x at in let e : length (map base_of after) ≡ length after = length-map after base_of in let l : length after ≡ length before = m.long in let n : length before ≡ collection.channels = many in omega arith in
        let w = known k low in
        let base : base_of w.b ≡ base_at collection ts k = based w.a w.b k w.met w.base in
        at_one (map base_of after) k x (base_of w.b) at (at_map base_of after k w.b w.is) ∙ base;
  }
    where
      based : (a b : ChannelShard) (k : ℕ) → IsMet ts a b → base_of a ≡ base_at collection floor k → base_of b ≡ base_at collection ts k
      based a b k met base =
          let channel : b.channel ≡ channel_at collection k = met.channel ∙ ap (λ (x : ChannelBase). x.channel) base in
          let of : b.collection ≡ collection = met.collection ∙ ap (λ (x : ChannelBase). x.collection) base in
          (λ i. record { channel = channel i; collection = of i; floor = met.floor i })

  module _ (least : ℕ) (old : Rest) (counted : MeetReply) (c : AreCountsOf ts before counted) (journals : old.journals ≡ map notes_of before) (above : old.clock ≤ ts) (early : least ≤ ts) where
    abbrev pub new : Rest
    new = met_rest old ts (map notes_of after)

    new_notes : (k : ℕ) (w : Known k) → at_slot (map notes_of after) k ≡ met_notes ts w.a
    new_notes k w = notes_at after k w.b w.is ∙ w.met.notes

    old_notes : (k : ℕ) (w : Known k) → at_slot old.journals k ≡ w.a.state.notes
    old_notes k w = ap (λ (l : List (List Note)). at_slot l k) journals ∙ notes_at before k w.a w.was

    channel_is : (k : ℕ) (w : Known k) → w.a.channel ≡ channel_at collection k
    channel_is k w = ap (λ (x : ChannelBase). x.channel) w.base

    up_to : (k : ℕ) (w : Known k) → AreUpTo ts (met_notes ts w.a)
    up_to k w = all_up_to w.a.state.notes (meet_tick 0 ts) ts (subst IsJournal w.met.notes w.met.sound.journal) refl

    merged : (k : ℕ) (w : Known k) → counted.failed ≡ 0 → MergesOf ts [] (numbers_of (meet_groups w.a.channel (met_notes ts w.a) ts)) []
    merged k w none =
        let has : due_of (counts_of w.a.channel (met_notes ts w.a)) ≤ total_met due_of ts before = total_has due_of ts k before w.a w.was in
        let all : counted.failed ≡ total_met due_of ts before = c.failed in
        no_merges w.a.channel ts (met_notes ts w.a) (up_to k w) (omega arith)

    meets_in : (k : ℕ) (w : Known k) → MeetsIn (channel_at collection k) ts counted.failed (at_slot old.journals k) (at_slot (map notes_of after) k)
    meets_in k w =
        subst (λ (l : List Note). MeetsIn (channel_at collection k) ts counted.failed l (at_slot (map notes_of after) k)) (sym (old_notes k w))
        (subst (λ (l : List Note). MeetsIn (channel_at collection k) ts counted.failed w.a.state.notes l) (sym (new_notes k w))
        (subst (λ (x : Channel). MeetsIn x ts counted.failed w.a.state.notes (met_notes ts w.a)) (channel_is k w)
        (record { by = 0; more = []; grown = sym (append-nil (met_notes ts w.a)); background = tt; up_to = tt; merged = merged k w })))

    kept : (k : ℕ) (w : Known k) → IsKept collection ts k (at_slot (map notes_of after) k)
    kept k w =
        let notes : w.b.state.notes ≡ at_slot (map notes_of after) k = sym (notes_at after k w.b w.is) in
        let channel : w.b.channel ≡ channel_at collection k = w.met.channel ∙ channel_is k w in
        let of : w.b.collection ≡ collection = w.met.collection ∙ ap (λ (x : ChannelBase). x.collection) w.base in record {
          sound = subst (λ (l : List Note). IsSound (channel_at collection k) (record { notes = l; floor = ts })) notes
              (subst (λ (n : ℕ). IsSound (channel_at collection k) (record { notes = w.b.state.notes; floor = n })) w.met.floor (subst (λ (x : Channel). IsSound x w.b.state) channel w.met.sound));
          keys = subst (λ (l : List Note). IsOfChannel (channel_of collection.channels) k (log_of l)) notes
              (log_home collection.channels k w.b.state.notes
              (subst (λ (x : Channel). AreKeysIn collection.channels x.number w.b.state.notes) channel (subst (λ (d : Collection). AreKeysIn d.channels w.b.channel.number w.b.state.notes) of w.met.keys)));
        }

    counted_at : (part : Counts → ℕ) (n : ℕ) → n ≡ total_met part ts before → n ≡ sum_over collection.channels (count_at collection part new)
    counted_at part n is =
        is
        ∙ sum_shards part ts before (count_at collection part new) (λ k a at. part_at k a at)
        ∙ ap (λ (channels : ℕ). sum_over channels (count_at collection part new)) many
      where
        part_at : (k : ℕ) (a : ChannelShard) → IsAt before k a → count_at collection part new k ≡ part (counts_of a.channel (met_notes ts a))
        part_at k a at =
            let w = known k (let h : k < length before = at_below before k a at in let e : length before ≡ collection.channels = many in omega arith) in
            let same : w.a ≡ a = at_one before k w.a a w.was at in
            ap (λ (l : List Note). part (counts_of (channel_at collection k) l)) (new_notes k w)
            ∙ ap (λ (x : Channel). part (counts_of x (met_notes ts w.a))) (sym (channel_is k w))
            ∙ ap (λ (x : ChannelShard). part (counts_of x.channel (met_notes ts x))) same

    pub meets : Meets collection least old new counted
    meets =
        let is : counted.ts.0 ≡ ts = c.ts_is in
        let clock : old.clock ≤ ts = above in
        let first : least ≤ ts = early in record {
          above = omega arith;
          not_early = omega arith;
          later = omega arith;
          met = sym is;
          floor = sym is;
          mine = refl;
          channels = λ k below. subst (λ (n : ℕ). MeetsIn (channel_at collection k) n counted.failed (at_slot old.journals k) (at_slot (map notes_of after) k)) (sym is) (meets_in k (known k below));
          counts = record {
            live = counted_at (λ x. x.live) counted.live c.live;
            tail = counted_at (λ x. x.tail) counted.tail c.tail;
            waiting = counted_at (λ x. x.waiting) counted.waiting c.waiting;
            node_rows = counted_at (λ x. x.node_rows) counted.node_rows c.node_rows;
            node_live = counted_at (λ x. x.node_live) counted.node_live c.node_live;
          };
          long = length-map after notes_of ∙ m.long ∙ sym (length-map before notes_of) ∙ sym (ap length journals);
          kept = λ k below. kept k (known k below);
        }
