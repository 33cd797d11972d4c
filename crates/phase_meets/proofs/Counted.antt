-- The counts of a meet are those of the logs and the tails.
use Rattle.std.proofs.Common.{◌≡◌, ℕ, suc, ◌+◌, ◌*◌, ◌<◌, ◌≤◌, true, Option, Some, List, [], ◌∷◌, ◌++◌, length, refl, sym, ap, subst, ◌∙◌, append_assoc, append-nil, arith, nat_le, le-leb, ltb-true, subst₂}
use Rattle.std.specs.List.{AllByRecursion as Each, filter}
use Rattle.std.specs.FinMap as fin
use Rattle.turn_table.specs.Knowledge.{at_slot}
use Rattle.log_model.specs.declared.logs.Entry.{Entry}
use Rattle.log_model.specs.Logs.{Rows, rows_of, live}
use Rattle.log_model.proofs.LogLaws.{each_implied, each-append, filter-all, live-all}
use Rattle.coarse_lists.specs.declared.collections.Collection.{Collection}
use Rattle.answer_lines.specs.declared.answers.MeetReply.{MeetReply}
use Rattle.legal_output.specs.Lines.{channel_of}
use Rattle.legal_output.specs.Printed.{Event, Tail, walk, sum_over}
use Rattle.legal_output.specs.Legal.{Counts}
use Rattle.legal_output.specs.Phases.{tail_at}
use Rattle.legal_output.specs.Outputs.{start_of}
use Rattle.journal_model.specs.declared.notes.Kind.{Kind}
use Rattle.journal_model.specs.declared.notes.Kind.TheVariants.{Put, Remove, Seal}
use Rattle.journal_model.specs.declared.notes.Note.{Note}
use Rattle.journal_model.specs.Notes.{ts_of, entries_of, log_of, live_in}
use Rattle.journal_model.specs.Journals.{is_below, AreBelow, IsJournal, AreUpTo}
use Rattle.journal_model.specs.Layouts.{layout_of}
use Rattle.journal_model.specs.Lawful.{IsLawful}
use Rattle.journal_model.specs.Lists.{joined}
use Rattle.journal_model.specs.Counts.{IsBounded, counts_of}
use Rattle.journal_model.proofs.CountLaws.{counts_bound}
use Rattle.journal_model.proofs.MeetLaws.{meet_bound, all_up_to}
use Rattle.journal_model.proofs.NoteLaws.{log_of-append}
use Rattle.call_model.specs.Calls.{channel_at}
use Rattle.phase_model.specs.Rests.{Rest, AreJournals}
use Rattle.phase_model.specs.Phases.{IsQuiet, IsBackground}
use Rattle.phase_model.specs.Meets.{meet_tick, MeetsIn, count_at, Meets}
use Rattle.phase_order.proofs.Ticks.{journal_front}
use Rattle.phase_logs.specs.Events.{events_at, events_from, events_in}
use Rattle.phase_logs.proofs.Growing.{events_from-append, events_all}
use Rattle.phase_logs.proofs.Tails.{TailOf, tails}
use Rattle.phase_logs.proofs.Channels.{logs_of, rest_of_channels}
use Rattle.phase_meets.proofs.Sums.{sum_le, sum_same, sum_double, sum_most}
use Rattle.phase_meets.proofs.Lives.{lives_together}

-- ---- quiet notes change neither log nor tail

quiet_log : (notes : List Note) → Each (λ (note : Note). IsQuiet note.kind) notes → log_of notes ≡ []
quiet_log [] q = refl
quiet_log (note ∷ notes) q = ap (λ (l : List Entry). l ++ log_of notes) (none note.kind q.0) ∙ quiet_log notes q.1
  where
    none : (kind : Kind) → IsQuiet kind → entries_of kind ≡ []
    none (Put ts how row) q = absurd q
    none (Remove ts key) q = absurd q
    none (Seal ts) q = absurd q
    none kind q = refl

quiet_events : (before notes : List Note) → Each (λ (note : Note). IsQuiet note.kind) notes → events_from before notes ≡ []
quiet_events before [] q = refl
quiet_events before (note ∷ notes) q = ap (λ (l : List Event). l ++ events_from (before ++ note ∷ []) notes) (none note.kind q.0) ∙ quiet_events (before ++ note ∷ []) notes q.1
  where
    none : (kind : Kind) → IsQuiet kind → events_at before kind ≡ []
    none (Put ts how row) q = absurd q
    none (Remove ts key) q = absurd q
    none (Seal ts) q = absurd q
    none kind q = refl

-- ---- timestamps

low_ts : (ts : ℕ) (kind : Kind) (t : ℕ) → ts_of kind ≡ Some t → is_below (ts_of kind) (Some ts) ≡ true → t < ts
low_ts ts kind t dated below = ltb-true t ts (subst (λ (o : Option ℕ). is_below o (Some ts) ≡ true) dated below)

entries_low : (ts : ℕ) (kind : Kind) → is_below (ts_of kind) (Some ts) ≡ true → Each (λ (entry : Entry). entry.ts.0 ≤ ts) (entries_of kind)
entries_low ts (Put at how row) below = ((let l : at.0 < ts = ltb-true at.0 ts below in omega arith), tt)
entries_low ts (Remove at key) below = ((let l : at.0 < ts = ltb-true at.0 ts below in omega arith), tt)
entries_low ts kind below = tt

log_low : (ts clock : ℕ) (notes : List Note) → clock ≤ ts → AreBelow clock notes → Each (λ (entry : Entry). entry.ts.0 ≤ ts) (log_of notes)
log_low ts clock [] later below = tt
log_low ts clock (note ∷ notes) later below =
    each-append (λ (entry : Entry). entry.ts.0 ≤ ts) (entries_of note.kind) (log_of notes)
    (each_implied (λ (entry : Entry). entry.ts.0 ≤ clock) (λ (entry : Entry). entry.ts.0 ≤ ts) (λ entry l. omega arith) (entries_of note.kind) (entries_low clock note.kind below.0)) (log_low ts clock notes later below.1)

le_true : (m n : ℕ) → m ≤ n → nat_le m n ≡ true
le_true m n h = le-leb m n h

events_low : (ts clock : ℕ) (notes : List Note) → clock ≤ ts → AreBelow clock notes → filter (λ e. nat_le e.ts ts) (events_in notes) ≡ events_in notes
events_low ts clock notes later below =
    filter-all (λ (e : Event). nat_le e.ts ts) (events_in notes)
    (events_all (λ n. nat_le n ts ≡ true) [] notes
    (each_implied (λ (note : Note). is_below (ts_of note.kind) (Some clock) ≡ true) (λ (note : Note). (t : ℕ) → ts_of note.kind ≡ Some t → nat_le t ts ≡ true)
    (λ note b t dated. le_true t ts (let l : t < clock = low_ts clock note.kind t dated b in omega arith)) notes below))

module _ (collection : Collection) (least : ℕ) (old new : Rest) (counted : MeetReply) (rows : 0 < collection.seal_rows) (rest : AreJournals collection old) (m : Meets collection least old new counted) where
  abbrev before : ℕ → List Note
  before k = at_slot old.journals k

  abbrev behind : ℕ → List Note
  behind k = at_slot new.journals k

  module _ (k : ℕ) (below : k < collection.channels) where
    meets : MeetsIn (channel_at collection k) counted.ts.0 counted.failed (before k) (behind k)
    meets = m.channels k below

    quiet : Each (λ (note : Note). IsQuiet note.kind) (meet_tick meets.by counted.ts.0 ∷ meets.more)
    quiet = (tt, each_implied IsBackground (λ (note : Note). IsQuiet note.kind) (λ note b. b.quiet) meets.more meets.background)

    grown : behind k ≡ before k ++ meet_tick meets.by counted.ts.0 ∷ meets.more
    grown = meets.grown ∙ append_assoc (before k) (meet_tick meets.by counted.ts.0 ∷ []) meets.more

    pub same_log : log_of (behind k) ≡ log_of (before k)
    same_log = ap log_of grown ∙ log_of-append (before k) (meet_tick meets.by counted.ts.0 ∷ meets.more)
        ∙ ap (λ (l : List Entry). log_of (before k) ++ l) (quiet_log (meet_tick meets.by counted.ts.0 ∷ meets.more) quiet) ∙ append-nil (log_of (before k))

    pub same_events : events_in (behind k) ≡ events_in (before k)
    same_events = ap events_in grown ∙ events_from-append [] (before k) (meet_tick meets.by counted.ts.0 ∷ meets.more)
        ∙ ap (λ (l : List Event). events_in (before k) ++ l) (quiet_events (before k) (meet_tick meets.by counted.ts.0 ∷ meets.more) quiet) ∙ append-nil (events_in (before k))

    lawful : IsLawful (channel_at collection k) (behind k)
    lawful = (m.kept k below).sound.lawful

    journal : IsJournal (behind k)
    journal = (m.kept k below).sound.journal

    tail_is : TailOf (layout_of (channel_at collection k) (behind k)) (walk collection.seal_rows (events_in (behind k)))
    tail_is = tails (channel_at collection k) rows (behind k) lawful

    -- the tail that is counted is the one of the events up to the meet
    same_tail : walk collection.seal_rows (events_in (behind k)) ≡ tail_at collection.seal_rows (λ j. events_in (before j)) counted.ts.0 k
    same_tail = ap (walk collection.seal_rows) (same_events ∙ sym (events_low counted.ts.0 old.clock (before k) m.above (rest.each k below).below))

    bounded : IsBounded (channel_at collection k) (counts_of (channel_at collection k) (behind k))
    bounded = counts_bound (channel_at collection k) (behind k) new.floor rows lawful (m.kept k below).sound.rows

    half : counted.failed ≡ 0 → (counts_of (channel_at collection k) (behind k)).node_rows ≤ 2 * (counts_of (channel_at collection k) (behind k)).node_live
    half none =
        let ticked : List Note = before k ++ meet_tick meets.by counted.ts.0 ∷ [] in
        let low : AreUpTo counted.ts.0 ticked = all_up_to (before k) (meet_tick meets.by counted.ts.0) counted.ts.0 (journal_front ticked meets.more (subst IsJournal meets.grown journal)) refl in
        subst (λ (l : List Note). (counts_of (channel_at collection k) l).node_rows ≤ 2 * (counts_of (channel_at collection k) l).node_live) (sym meets.grown)
        (meet_bound (channel_at collection k) counted.ts.0 ticked meets.more low (meets.merged none) (subst (IsLawful (channel_at collection k)) meets.grown lawful))

  abbrev whole_log : List Entry
  whole_log = joined (logs_of old.journals)

  low_all : (i : ℕ) → i < length old.journals → Each (λ (entry : Entry). entry.ts.0 ≤ counted.ts.0) (log_of (before i))
  low_all i below = log_low counted.ts.0 old.clock (before i) m.above (rest.each i (let n : length old.journals ≡ collection.channels = rest.many in omega arith)).below

  whole_low : (journals : List (List Note)) → ((i : ℕ) → i < length journals → Each (λ (entry : Entry). entry.ts.0 ≤ counted.ts.0) (log_of (at_slot journals i))) → Each (λ (entry : Entry). entry.ts.0 ≤ counted.ts.0) (joined (logs_of journals))
  whole_low [] f = tt
  whole_low (notes ∷ journals) f = each-append (λ (entry : Entry). entry.ts.0 ≤ counted.ts.0) (log_of notes) (joined (logs_of journals)) (f 0 (omega arith)) (whole_low journals (λ i below. f (suc i) (omega arith)))

  live_is : counted.live ≡ fin.len (live whole_log counted.ts.0)
  live_is =
      m.counts.live
      ∙ sum_same (count_at collection (λ c. c.live) new) (λ k. fin.len (live_in (before k))) collection.channels (λ k below. ap (λ (log : List Entry). fin.len (rows_of log)) (same_log k below))
      ∙ ap (λ (n : ℕ). sum_over n (λ k. fin.len (live_in (before k)))) (sym rest.many)
      ∙ sym (lives_together (channel_of collection.channels) counted.ts.0 old.journals (rest_of_channels collection old rest) low_all)
      ∙ ap (λ (rows : Rows). fin.len rows) (sym (live-all whole_log counted.ts.0 (whole_low old.journals low_all)))

  pub counts : Counts (start_of collection) whole_log (tail_at collection.seal_rows (λ j. events_in (before j)) counted.ts.0) 0 counted
  counts = record {
    live = live_is;
    tail = m.counts.tail ∙ sum_same (count_at collection (λ c. c.tail) new) (λ k. (tail_at collection.seal_rows (λ j. events_in (before j)) counted.ts.0 k).rows) collection.channels
        (λ k below. sym (tail_is k below).rows ∙ ap (λ (t : Tail). t.rows) (same_tail k below));
    node_live = let a : counted.node_live ≡ sum_over collection.channels (count_at collection (λ c. c.node_live) new) = m.counts.node_live in
        let b : counted.node_rows ≡ sum_over collection.channels (count_at collection (λ c. c.node_rows) new) = m.counts.node_rows in
        let c : sum_over collection.channels (count_at collection (λ c. c.node_live) new) ≤ sum_over collection.channels (count_at collection (λ c. c.node_rows) new) =
        sum_le (count_at collection (λ c. c.node_live) new) (count_at collection (λ c. c.node_rows) new) collection.channels (λ k below. (bounded k below).node_live) in omega arith;
    merged = λ none. let a : counted.node_live ≡ sum_over collection.channels (count_at collection (λ c. c.node_live) new) = m.counts.node_live in
        let b : counted.node_rows ≡ sum_over collection.channels (count_at collection (λ c. c.node_rows) new) = m.counts.node_rows in
        let c : sum_over collection.channels (count_at collection (λ c. c.node_rows) new) ≤ 2 * sum_over collection.channels (count_at collection (λ c. c.node_live) new) =
        sum_double (count_at collection (λ c. c.node_rows) new) (count_at collection (λ c. c.node_live) new) collection.channels (λ k below. half k below none) in omega arith;
    least = let a : counted.node_live ≡ sum_over collection.channels (count_at collection (λ c. c.node_live) new) = m.counts.node_live in
        let b : counted.live ≡ sum_over collection.channels (count_at collection (λ c. c.live) new) = m.counts.live in
        let c : sum_over collection.channels (count_at collection (λ c. c.node_live) new) ≤ sum_over collection.channels (count_at collection (λ c. c.live) new) =
        sum_le (count_at collection (λ c. c.node_live) new) (count_at collection (λ c. c.live) new) collection.channels (λ k below. (bounded k below).live_least) in omega arith;
    most = subst₂ (λ (l t : ℕ). l ≤ t + counted.waiting * collection.seal_rows + counted.node_live) (sym m.counts.live) (sym m.counts.tail)
        (subst₂ (λ (w n : ℕ). sum_over collection.channels (count_at collection (λ c. c.live) new) ≤ sum_over collection.channels (count_at collection (λ c. c.tail) new) + w * collection.seal_rows + n) (sym m.counts.waiting) (sym m.counts.node_live)
        (sum_most (count_at collection (λ c. c.live) new) (count_at collection (λ c. c.tail) new) (count_at collection (λ c. c.waiting) new) (count_at collection (λ c. c.node_live) new) collection.seal_rows collection.channels (λ k below. (bounded k below).live_most)));
    waiting = let a : counted.waiting ≡ sum_over collection.channels (count_at collection (λ c. c.waiting) new) = m.counts.waiting in
        let b : sum_over collection.channels (count_at collection (λ c. c.waiting) new) ≤ sum_over collection.channels (λ k. (tail_at collection.seal_rows (λ j. events_in (before j)) counted.ts.0 k).segments) =
        sum_le (count_at collection (λ c. c.waiting) new) (λ k. (tail_at collection.seal_rows (λ j. events_in (before j)) counted.ts.0 k).segments) collection.channels
        (λ k below. subst (λ (t : Tail). count_at collection (λ c. c.waiting) new k ≤ t.segments) (same_tail k below) (tail_is k below).waits) in omega arith;
    failed = omega arith;
  }
