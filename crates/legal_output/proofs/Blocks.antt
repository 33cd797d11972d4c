-- Lines whose numbers are from a clock on, behind lines whose numbers are below it: what was legal stays so.
use Rattle.std.proofs.Common.{◌≡◌, ℕ, Bool, false, ◌+◌, ◌<◌, ◌≤◌, List, [], ◌∷◌, ◌++◌, map, zero, suc, refl, sym, ap, subst, ◌∙◌, append_assoc, arith}
use Rattle.std.specs.Prelude.{nat_eq, nat_le, nat_lt}
use Rattle.std.specs.List.{AllByRecursion as Each, filter, flat_map, zip}
use Rattle.std.specs.FinMap as fin
use Rattle.std.proofs.lemmas.Bool.{lt-leb, le-ltb}
use Rattle.std.proofs.lemmas.List.{append-nil}
use Rattle.std.proofs.lemmas.List.Elements.{filter-append}
use Rattle.std.proofs.lemmas.Grind.{flat_map-append}
use Rattle.hybrid_time.specs.declared.times.Timestamp.{Timestamp}
use Rattle.log_model.specs.declared.logs.Write.{Write}
use Rattle.log_model.specs.declared.logs.Entry.{Entry}
use Rattle.log_model.specs.Logs.{IsFrom, key_of, live}
use Rattle.log_model.proofs.LogLaws.{each-append, each_implied, filter-none, live-more}
use Rattle.answer_lines.specs.declared.answers.Wrote.{Wrote}
use Rattle.answer_lines.specs.declared.answers.MeetReply.{MeetReply}
use Rattle.answer_lines.specs.declared.answers.Answer.{Answer}
use Rattle.answer_lines.specs.declared.answers.Answer.TheVariants as answers
use Rattle.legal_output.specs.Lines.{Line, Start, channel_of, changes_of, written_of, seals_of, drawn, stamps, IsOfKind}
use Rattle.legal_output.specs.Printed.{Event, Tail, ordered, only_at, entries_of, events_of, event_if, write_event, seal_event, walk, printed_log, printed_events, printed_tail, tail_before, past_of, all_drawn, phase_failures}
use Rattle.legal_output.specs.Legal.{AtEach, RefusedRightly, Replied, HasContent, HasLevel, InOrder, PendingRightly, Differ, HasNumbers, Counts, AreTails, CountsRightly}
use Rattle.legal_output.proofs.Grown.{each-flat_map, differ-append}
use Rattle.legal_output.proofs.Placed.{entries_hold, drawn_shown, ordered-blocks, ordered_each}
use Rattle.legal_output.proofs.Later.{replied-more, content-more, above}

-- ---- facts of each line

pub at_each-append : (P : List Line → Line → Type 0) (before lines more : List Line) → AtEach P before lines → AtEach P (before ++ lines) more → AtEach P before (lines ++ more)
at_each-append P before [] more all rest = subst (λ b. AtEach P b more) (append-nil before) rest
at_each-append P before (line ∷ lines) more all rest =
    (all.0, at_each-append P (before ++ line ∷ []) lines more all.1 (subst (λ b. AtEach P b more) (sym (append_assoc before (line ∷ []) lines)) rest))

pub at_each_both : (P R : List Line → Line → Type 0) (Q : Line → Type 0) → ((earlier : List Line) (line : Line) → P earlier line → Q line → R earlier line)
    → (before lines : List Line) → AtEach P before lines → Each Q lines → AtEach R before lines
at_each_both P R Q f before [] all each = tt
at_each_both P R Q f before (line ∷ lines) all each = (f before line all.0 each.0, at_each_both P R Q f (before ++ line ∷ []) lines all.1 each.1)

pub each_both : {X : Type 0} (P Q R : X → Type 0) → ((x : X) → P x → Q x → R x) → (xs : List X) → Each P xs → Each Q xs → Each R xs
each_both P Q R f [] ps qs = tt
each_both P Q R f (x ∷ xs) ps qs = (f x ps.0 qs.0, each_both P Q R f xs ps.1 qs.1)

abbrev pub AreBelow : ℕ → List Line → Type 0
AreBelow clock lines = Each (λ line. Each (λ n. n < clock) (stamps line.answer)) lines

abbrev pub AreFrom : ℕ → List Line → Type 0
AreFrom clock lines = Each (λ line. Each (λ n. clock ≤ n) (drawn line.answer)) lines

-- ---- events

seals_hold : (Q : ℕ → Type 0) (channel : ℕ) (seals : List (Timestamp × ℕ)) → Each Q (map (λ seal. seal.0.0) seals) → Each (λ (e : Event). Q e.ts) (map seal_event (only_at seals channel))
seals_hold Q channel [] all = tt
seals_hold Q zero (seal ∷ seals) all = (all.0, tt)
seals_hold Q (suc channel) (seal ∷ seals) all = seals_hold Q channel seals all.1

event_holds : (Q : ℕ → Type 0) (ts : ℕ) (changes : List (Write × Wrote)) → Q ts → Each (λ (e : Event). Q e.ts) (event_if ts changes)
event_holds Q ts [] here = tt
event_holds Q ts (change ∷ changes) here = (here, tt)

events_hold : (Q : ℕ → Type 0) (channels channel : ℕ) (changes : List Write) (answer : Answer) → Each Q (drawn answer)
    → Each (λ (e : Event). Q e.ts) (write_event channels channel changes (written_of answer) ++ map seal_event (only_at (seals_of answer) channel))
events_hold Q channels channel changes answers.Created all = tt
events_hold Q channels channel changes (answers.Wrote reply) all =
    each-append (λ (e : Event). Q e.ts) (write_event channels channel changes (written_of (answers.Wrote reply))) []
    (event_holds Q reply.ts.0 (filter (λ change. nat_eq (channel_of channels (key_of change.0)) channel) (zip changes (reply.what ∷ []))) all.0) tt
events_hold Q channels channel changes (answers.Hits now guarantee ts hits) all = tt
events_hold Q channels channel changes (answers.Found now guarantee ts row) all = tt
events_hold Q channels channel changes (answers.Pending now guarantee late tick) all = tt
events_hold Q channels channel changes (answers.Ticked ticks) all = tt
events_hold Q channels channel changes (answers.Sealed seals) all = seals_hold Q channel seals all
events_hold Q channels channel changes (answers.Met reply) all = tt
events_hold Q channels channel changes (answers.End reply) all = tt
events_hold Q channels channel changes (answers.Refused reason) all = tt

lt_over : (a b c : ℕ) → a < b → b ≤ c → a < c
lt_over a b c low high = omega arith

le_over : (a b c : ℕ) → a < b → b ≤ c → a ≤ c
le_over a b c low high = omega arith

-- what comes later and is left out
kept-more : {X : Type 0} (p : X → Bool) (P : X → Type 0) → ((x : X) → P x → p x ≡ false) → (xs ys : List X) → Each P ys → filter p (xs ++ ys) ≡ filter p xs
kept-more p P out xs ys all =
    filter-append p xs ys ∙ ap (λ l. filter p xs ++ l) (filter-none p ys (each_implied P (λ x. p x ≡ false) out ys all)) ∙ append-nil (filter p xs)

module _ (start : Start) (clock : ℕ) (before block : List Line) (low : AreBelow clock before) (high : AreFrom clock block) where
  pub entries_from : Each (λ e. clock ≤ e.ts.0) (flat_map entries_of block)
  entries_from = each-flat_map (λ e. clock ≤ e.ts.0) entries_of block
      (each_implied (λ line. Each (λ n. clock ≤ n) (drawn line.answer)) (λ line. Each (λ e. clock ≤ e.ts.0) (entries_of line))
      (λ line all. entries_hold (λ n. clock ≤ n) (changes_of line.asked) line.answer all) block high)

  entries_below : Each (λ e. e.ts.0 < clock) (flat_map entries_of before)
  entries_below = each-flat_map (λ e. e.ts.0 < clock) entries_of before
      (each_implied (λ line. Each (λ n. n < clock) (stamps line.answer)) (λ line. Each (λ e. e.ts.0 < clock) (entries_of line))
      (λ line all. entries_hold (λ n. n < clock) (changes_of line.asked) line.answer (drawn_shown (λ n. n < clock) line.answer all)) before low)

  pub printed_log-blocks : printed_log start (before ++ block) ≡ printed_log start before ++ ordered (λ e. e.ts.0) (flat_map entries_of block)
  printed_log-blocks =
      ap (λ es. start.base ++ ordered (λ e. e.ts.0) es) (flat_map-append entries_of before block)
      ∙ ap (λ es. start.base ++ es) (ordered-blocks (λ e. e.ts.0) clock (flat_map entries_of before) (flat_map entries_of block) entries_below entries_from)
      ∙ sym (append_assoc start.base (ordered (λ e. e.ts.0) (flat_map entries_of before)) (ordered (λ e. e.ts.0) (flat_map entries_of block)))

  pub log_from : IsFrom clock (ordered (λ e. e.ts.0) (flat_map entries_of block))
  log_from = ordered_each (λ e. e.ts.0) (λ e. clock ≤ e.ts.0) (flat_map entries_of block) entries_from

  events_from : (channel : ℕ) → Each (λ e. clock ≤ e.ts) (flat_map (events_of start.channels channel) block)
  events_from channel = each-flat_map (λ e. clock ≤ e.ts) (events_of start.channels channel) block
      (each_implied (λ line. Each (λ n. clock ≤ n) (drawn line.answer)) (λ line. Each (λ e. clock ≤ e.ts) (events_of start.channels channel line))
      (λ line all. events_hold (λ n. clock ≤ n) start.channels channel (changes_of line.asked) line.answer all) block high)

  pub events_below : (channel : ℕ) → Each (λ e. e.ts < clock) (flat_map (events_of start.channels channel) before)
  events_below channel = each-flat_map (λ e. e.ts < clock) (events_of start.channels channel) before
      (each_implied (λ line. Each (λ n. n < clock) (stamps line.answer)) (λ line. Each (λ e. e.ts < clock) (events_of start.channels channel line))
      (λ line all. events_hold (λ n. n < clock) start.channels channel (changes_of line.asked) line.answer (drawn_shown (λ n. n < clock) line.answer all)) before low)

  pub printed_events-blocks : (channel : ℕ) → printed_events start channel (before ++ block) ≡ printed_events start channel before ++ ordered (λ e. e.ts) (flat_map (events_of start.channels channel) block)
  printed_events-blocks channel =
      ap (ordered (λ e. e.ts)) (flat_map-append (events_of start.channels channel) before block)
      ∙ ordered-blocks (λ e. e.ts) clock (flat_map (events_of start.channels channel) before) (flat_map (events_of start.channels channel) block) (events_below channel) (events_from channel)

  block_events_from : (channel : ℕ) → Each (λ e. clock ≤ e.ts) (ordered (λ e. e.ts) (flat_map (events_of start.channels channel) block))
  block_events_from channel = ordered_each (λ e. e.ts) (λ e. clock ≤ e.ts) (flat_map (events_of start.channels channel) block) (events_from channel)

  pub printed_tail-blocks : (ts channel : ℕ) → ts < clock → printed_tail start before ts channel ≡ printed_tail start (before ++ block) ts channel
  printed_tail-blocks ts channel early = ap (walk start.seal_rows) (sym
      (ap (filter (λ e. nat_le e.ts ts)) (printed_events-blocks channel)
      ∙ kept-more (λ e. nat_le e.ts ts) (λ e. clock ≤ e.ts) (λ e from. lt-leb _ _ (lt_over ts clock e.ts early from)) (printed_events start channel before) _ (block_events_from channel)))

  pub tail_before-blocks : (ts channel : ℕ) → ts < clock → tail_before start before ts channel ≡ tail_before start (before ++ block) ts channel
  tail_before-blocks ts channel early = ap (walk start.seal_rows) (sym
      (ap (filter (λ e. nat_lt e.ts ts)) (printed_events-blocks channel)
      ∙ kept-more (λ e. nat_lt e.ts ts) (λ e. clock ≤ e.ts) (λ e from. le-ltb _ _ (le_over ts clock e.ts early from)) (printed_events start channel before) _ (block_events_from channel)))

-- ---- counts

pub tails_more : (f g : ℕ → ℕ → Tail) (Q : ℕ → Type 0) → ((ts channel : ℕ) → Q ts → f ts channel ≡ g ts channel) → (channel : ℕ) (seals : List (Timestamp × ℕ))
    → Each Q (map (λ seal. seal.0.0) seals) → AreTails f channel seals → AreTails g channel seals
tails_more f g Q same channel [] all tails = tt
tails_more f g Q same channel (seal ∷ seals) all tails =
    (tails.0 ∙ ap (λ tail. tail.rows) (same seal.0.0 channel all.0), tails_more f g Q same (channel + 1) seals all.1 tails.1)

pub counts_more : (start : Start) (log other : List Entry) (tails others : ℕ → Tail) (failures more : ℕ) (counted : MeetReply)
    → live log counted.ts.0 ≡ live other counted.ts.0 → tails ≡ others → failures ≡ more → Counts start log tails failures counted → Counts start other others more counted
counts_more start log other tails others failures more counted rows same fails counts =
    subst (λ t. Counts start other t more counted) same
    (subst (λ n. Counts start other tails n counted) fails (record {
      live = counts.live ∙ ap (λ r. fin.len r) rows;
      tail = counts.tail;
      node_live = counts.node_live;
      merged = counts.merged;
      least = counts.least;
      most = counts.most;
      waiting = counts.waiting;
      failed = counts.failed;
    }))

module _ (start : Start) (clock : ℕ) (before block : List Line) (low : AreBelow clock before) (high : AreFrom clock block) where
  log_same : (ts : ℕ) → ts < clock → live (printed_log start before) ts ≡ live (printed_log start (before ++ block)) ts
  log_same ts early =
      sym (live-more (printed_log start before) _ ts (above ts clock _ early (log_from start clock before block low high)))
      ∙ sym (ap (λ log. live log ts) (printed_log-blocks start clock before block low high))

  tails_same : (ts : ℕ) → ts < clock → printed_tail start before ts ≡ printed_tail start (before ++ block) ts
  tails_same ts early = λ i. λ channel. printed_tail-blocks start clock before block low high ts channel early i

  counted_later : (earlier : List Line) (answer : Answer) → CountsRightly start before earlier answer → Each (λ n. n < clock) (stamps answer) → CountsRightly start (before ++ block) earlier answer
  counted_later earlier answers.Created right early = record { sealed = tt; met = tt }
  counted_later earlier (answers.Wrote reply) right early = record { sealed = tt; met = tt }
  counted_later earlier (answers.Hits now guarantee ts hits) right early = record { sealed = tt; met = tt }
  counted_later earlier (answers.Found now guarantee ts row) right early = record { sealed = tt; met = tt }
  counted_later earlier (answers.Pending now guarantee channel tick) right early = record { sealed = tt; met = tt }
  counted_later earlier (answers.Ticked ticks) right early = record { sealed = tt; met = tt }
  counted_later earlier (answers.Sealed seals) right early = record {
    sealed = tails_more (tail_before start before) (tail_before start (before ++ block)) (λ ts. ts < clock)
        (λ ts channel low_ts. tail_before-blocks start clock before block low high ts channel low_ts) 0 seals early right.sealed;
    met = tt;
  }
  counted_later earlier (answers.Met counted) right early = record {
    sealed = tt;
    met = counts_more start (printed_log start before) (printed_log start (before ++ block)) (printed_tail start before counted.ts.0) (printed_tail start (before ++ block) counted.ts.0)
        (phase_failures 0 earlier) (phase_failures 0 earlier) counted (log_same counted.ts.0 early.0) (tails_same counted.ts.0 early.0) refl right.met;
  }
  counted_later earlier (answers.End counted) right early = record {
    sealed = tt;
    met = counts_more start (printed_log start before) (printed_log start (before ++ block)) (printed_tail start before counted.ts.0) (printed_tail start (before ++ block) counted.ts.0)
        (phase_failures 0 earlier) (phase_failures 0 earlier) counted (log_same counted.ts.0 early.0) (tails_same counted.ts.0 early.0) refl right.met;
  }
  counted_later earlier (answers.Refused reason) right early = record { sealed = tt; met = tt }

-- ---- blocks

-- the lines so far are legal, and all that they show is below the clock
pub record SoFar (start : Start) (clock : ℕ) (lines : List Line) : Type 0 where
  pub m0 : start.m0 < clock
  pub stamped : AreBelow clock lines
  pub kinds : Each (λ line. IsOfKind start line.asked line.answer) lines
  pub refusals : Each (λ line. RefusedRightly line.asked line.answer) lines
  pub numbers : HasNumbers start (all_drawn lines)
  pub writes : Each (λ line. Replied (printed_log start lines) line.asked line.answer) lines
  pub content : Each (λ line. HasContent start.plan (printed_log start lines) line.asked line.answer) lines
  pub levels : AtEach (λ earlier line. HasLevel start.channels (past_of start earlier line) line.asked line.answer) [] lines
  pub order : AtEach (λ earlier line. InOrder (past_of start earlier line) line.answer) [] lines
  pub pending : AtEach (λ earlier line. PendingRightly start.channels (past_of start earlier line) line.asked line.answer) [] lines
  pub meets : AtEach (λ earlier line. CountsRightly start lines earlier line.answer) [] lines

-- further lines, whose numbers are from the clock on, are legal behind them
pub record Extends (start : Start) (clock end : ℕ) (before block : List Line) : Type 0 where
  pub later : clock ≤ end
  pub from : AreFrom clock block
  pub differ : Differ (all_drawn block)
  pub stamped : AreBelow end block
  pub kinds : Each (λ line. IsOfKind start line.asked line.answer) block
  pub refusals : Each (λ line. RefusedRightly line.asked line.answer) block
  pub writes : Each (λ line. Replied (printed_log start (before ++ block)) line.asked line.answer) block
  pub content : Each (λ line. HasContent start.plan (printed_log start (before ++ block)) line.asked line.answer) block
  pub levels : AtEach (λ earlier line. HasLevel start.channels (past_of start earlier line) line.asked line.answer) before block
  pub order : AtEach (λ earlier line. InOrder (past_of start earlier line) line.answer) before block
  pub pending : AtEach (λ earlier line. PendingRightly start.channels (past_of start earlier line) line.asked line.answer) before block
  pub meets : AtEach (λ earlier line. CountsRightly start (before ++ block) earlier line.answer) before block

lt_later : (n a b : ℕ) → a ≤ b → n < a → n < b
lt_later n a b more low = omega arith

drawn_below : (clock : ℕ) (lines : List Line) → AreBelow clock lines → Each (λ n. n < clock) (all_drawn lines)
drawn_below clock lines low = each-flat_map (λ n. n < clock) (λ line. drawn line.answer) lines
    (each_implied (λ line. Each (λ n. n < clock) (stamps line.answer)) (λ line. Each (λ n. n < clock) (drawn line.answer)) (λ line all. drawn_shown (λ n. n < clock) line.answer all) lines low)

pub extended : (start : Start) (clock end : ℕ) (before block : List Line) → SoFar start clock before → Extends start clock end before block → SoFar start end (before ++ block)
extended start clock end before block sofar more =
    let log : List Entry = ordered (λ e. e.ts.0) (flat_map entries_of block) in
    let grown : printed_log start (before ++ block) ≡ printed_log start before ++ log = printed_log-blocks start clock before block sofar.stamped more.from in
    let high : IsFrom clock log = log_from start clock before block sofar.stamped more.from in
    let from : Each (λ n. clock ≤ n) (all_drawn block) = each-flat_map (λ n. clock ≤ n) (λ line. drawn line.answer) block more.from in
    record {
      m0 = lt_later start.m0 clock end more.later sofar.m0;
      stamped = each-append (λ line. Each (λ n. n < end) (stamps line.answer)) before block
          (each_implied (λ line. Each (λ n. n < clock) (stamps line.answer)) (λ line. Each (λ n. n < end) (stamps line.answer))
          (λ line all. each_implied (λ n. n < clock) (λ n. n < end) (λ n low. lt_later n clock end more.later low) (stamps line.answer) all) before sofar.stamped)
          more.stamped;
      kinds = each-append (λ line. IsOfKind start line.asked line.answer) before block sofar.kinds more.kinds;
      refusals = each-append (λ line. RefusedRightly line.asked line.answer) before block sofar.refusals more.refusals;
      numbers = subst (HasNumbers start) (sym (flat_map-append (λ line. drawn line.answer) before block)) (record {
        differ = differ-append clock (all_drawn before) (all_drawn block) sofar.numbers.differ more.differ (drawn_below clock before sofar.stamped) from;
        above = each-append (λ n. start.m0 < n) (all_drawn before) (all_drawn block) sofar.numbers.above
            (each_implied (λ n. clock ≤ n) (λ n. start.m0 < n) (λ n above. lt_later start.m0 clock n above sofar.m0) (all_drawn block) from);
      });
      writes = each-append (λ line. Replied (printed_log start (before ++ block)) line.asked line.answer) before block
          (each_both (λ line. Each (λ n. n < clock) (stamps line.answer)) (λ line. Replied (printed_log start before) line.asked line.answer) (λ line. Replied (printed_log start (before ++ block)) line.asked line.answer)
          (λ line low right. subst (λ l. Replied l line.asked line.answer) (sym grown) (replied-more (printed_log start before) log clock line.asked line.answer low high right)) before sofar.stamped sofar.writes)
          more.writes;
      content = each-append (λ line. HasContent start.plan (printed_log start (before ++ block)) line.asked line.answer) before block
          (each_both (λ line. Each (λ n. n < clock) (stamps line.answer)) (λ line. HasContent start.plan (printed_log start before) line.asked line.answer) (λ line. HasContent start.plan (printed_log start (before ++ block)) line.asked line.answer)
          (λ line low right. subst (λ l. HasContent start.plan l line.asked line.answer) (sym grown) (content-more start.plan (printed_log start before) log clock line.asked line.answer low high right)) before sofar.stamped sofar.content)
          more.content;
      levels = at_each-append (λ earlier line. HasLevel start.channels (past_of start earlier line) line.asked line.answer) [] before block sofar.levels more.levels;
      order = at_each-append (λ earlier line. InOrder (past_of start earlier line) line.answer) [] before block sofar.order more.order;
      pending = at_each-append (λ earlier line. PendingRightly start.channels (past_of start earlier line) line.asked line.answer) [] before block sofar.pending more.pending;
      meets = at_each-append (λ earlier line. CountsRightly start (before ++ block) earlier line.answer) [] before block
          (at_each_both (λ earlier line. CountsRightly start before earlier line.answer) (λ earlier line. CountsRightly start (before ++ block) earlier line.answer) (λ line. Each (λ n. n < clock) (stamps line.answer))
          (λ earlier line right early. counted_later start clock before block sofar.stamped more.from earlier line.answer right early) [] before sofar.meets sofar.stamped)
          more.meets;
    }
