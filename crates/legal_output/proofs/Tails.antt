-- The tails that a run of one caller keeps are those of its printed lines.
use Rattle.std.proofs.Common.{◌≡◌, ℕ, ◌+◌, ◌<◌, ◌≤◌, zero, suc, true, List, [], ◌∷◌, ◌++◌, map, refl, sym, ap, subst, ◌∙◌, arith}
use Rattle.std.specs.Prelude.{Option, Some, None, nat_le}
use Rattle.std.specs.List.{AllByRecursion as Each, filter, flat_map}
use Rattle.std.proofs.lemmas.Bool.{le-leb}
use Rattle.std.proofs.lemmas.List.{append-nil}
use Rattle.log_model.specs.declared.logs.Write.{Write}
use Rattle.log_model.specs.declared.logs.Entry.{Entry}
use Rattle.log_model.proofs.LogLaws.{each_implied, filter-all}
use Rattle.answer_lines.specs.declared.answers.Wrote.{Wrote}
use Rattle.answer_lines.specs.declared.answers.MeetReply.{MeetReply}
use Rattle.legal_output.specs.Lines.{Line, Start, Written, changes_of, written_of, seals_of, met_of, drawn}
use Rattle.legal_output.specs.Printed.{Event, Tail, ordered, only_at, event_if, write_event, events_of, seal_event, after_deed, after_events, walk, printed_events, sum_over, failures_or, phase_failures}
use Rattle.legal_output.specs.Legal.{Counts}
use Rattle.legal_output.proofs.Placed.{ordered_each}
use Rattle.legal_output.proofs.Blocks.{AreBelow, events_below, printed_events-blocks}

after_events-append : (seal_rows : ℕ) (tail : Tail) (events more : List Event) → after_events seal_rows tail (events ++ more) ≡ after_events seal_rows (after_events seal_rows tail events) more
after_events-append seal_rows tail [] more = refl
after_events-append seal_rows tail (event ∷ events) more = after_events-append seal_rows (after_deed seal_rows tail event.deed) events more

ordered-event : (ts : ℕ) (pairs : List (Write × Wrote)) → ordered (λ (event : Event). event.ts) (event_if ts pairs) ≡ event_if ts pairs
ordered-event ts [] = refl
ordered-event ts (pair ∷ pairs) = refl

ordered-written : (channels channel : ℕ) (changes : List Write) (written : Option Written)
    → ordered (λ (event : Event). event.ts) (write_event channels channel changes written) ≡ write_event channels channel changes written
ordered-written channels channel changes None = refl
ordered-written channels channel changes (Some written) = ordered-event written.ts _

-- what a line that seals nothing did to a channel
events_unsealed : (channels channel : ℕ) (line : Line) → seals_of line.answer ≡ []
    → flat_map (events_of channels channel) (line ∷ []) ≡ write_event channels channel (changes_of line.asked) (written_of line.answer)
events_unsealed channels channel line unsealed =
    append-nil (events_of channels channel line)
    ∙ ap (λ seals. write_event channels channel (changes_of line.asked) (written_of line.answer) ++ map seal_event (only_at seals channel)) unsealed
    ∙ append-nil (write_event channels channel (changes_of line.asked) (written_of line.answer))

-- one line more
pub tail_push : (start : Start) (clock channel : ℕ) (before : List Line) (line : Line) (old new : Tail) → AreBelow clock before → Each (λ n. clock ≤ n) (drawn line.answer) → seals_of line.answer ≡ []
    → old ≡ walk start.seal_rows (printed_events start channel before)
    → new ≡ after_events start.seal_rows old (write_event start.channels channel (changes_of line.asked) (written_of line.answer))
    → new ≡ walk start.seal_rows (printed_events start channel (before ++ line ∷ []))
tail_push start clock channel before line old new low high unsealed is grown =
    let more : List Event = write_event start.channels channel (changes_of line.asked) (written_of line.answer) in
    grown
    ∙ ap (λ tail. after_events start.seal_rows tail more) is
    ∙ sym (after_events-append start.seal_rows (record { rows = 0; segments = 0 }) (printed_events start channel before) more)
    ∙ sym (ap (walk start.seal_rows)
    (printed_events-blocks start clock before (line ∷ []) low (high, tt) channel
    ∙ ap (λ events. printed_events start channel before ++ events)
    (ap (ordered (λ event. event.ts)) (events_unsealed start.channels channel line unsealed)
    ∙ ordered-written start.channels channel (changes_of line.asked) (written_of line.answer))))

le_over : (a b c : ℕ) → a < b → b ≤ c → a ≤ c
le_over a b c low high = omega arith

-- from the clock on, all that happened counts
pub all_happened : (start : Start) (clock ts channel : ℕ) (before : List Line) → AreBelow clock before → clock ≤ ts
    → filter (λ event. nat_le event.ts ts) (printed_events start channel before) ≡ printed_events start channel before
all_happened start clock ts channel before low from =
    let early : Each (λ event. event.ts < clock) (printed_events start channel before) =
    ordered_each (λ event. event.ts) (λ event. event.ts < clock) (flat_map (events_of start.channels channel) before) (events_below start clock before [] low tt channel) in
    filter-all (λ event. nat_le event.ts ts) (printed_events start channel before)
    (each_implied (λ event. event.ts < clock) (λ event. nat_le event.ts ts ≡ true) (λ event below. le-leb event.ts ts (le_over event.ts clock ts below from)) (printed_events start channel before) early)

le_next : (n most : ℕ) → suc n ≤ most → n ≤ most
le_next n most low = omega arith

sum_same : (most channels : ℕ) (count other : ℕ → ℕ) → channels ≤ most → ((channel : ℕ) → channel < most → count channel ≡ other channel) → sum_over channels count ≡ sum_over channels other
sum_same most zero count other low same = refl
sum_same most (suc channels) count other low same =
    ap (λ n. n + count channels) (sum_same most channels count other (le_next channels most low) same)
    ∙ ap (λ n. sum_over channels other + n) (same channels low)

le_self : (n : ℕ) → n ≤ n
le_self n = omega arith

-- counts are of the tails of the channels that there are
pub counts_tails : (start : Start) (log : List Entry) (tails others : ℕ → Tail) (failures : ℕ) (counted : MeetReply)
    → ((channel : ℕ) → channel < start.channels → tails channel ≡ others channel) → Counts start log tails failures counted → Counts start log others failures counted
counts_tails start log tails others failures counted same counts = record {
  live = counts.live;
  tail = counts.tail ∙ sum_same start.channels start.channels (λ channel. (tails channel).rows) (λ channel. (others channel).rows) (le_self start.channels) (λ channel there. ap (λ tail. tail.rows) (same channel there));
  node_live = counts.node_live;
  merged = counts.merged;
  least = counts.least;
  most = counts.most;
  waiting = subst (λ n. counted.waiting ≤ n)
      (sum_same start.channels start.channels (λ channel. (tails channel).segments) (λ channel. (others channel).segments) (le_self start.channels) (λ channel there. ap (λ tail. tail.segments) (same channel there)))
      counts.waiting;
  failed = counts.failed;
}

-- no line tells a failure
none_failed : (met : Option MeetReply) → failures_or 0 met ≡ 0
none_failed None = refl
none_failed (Some reply) = refl

pub no_failures : (lines : List Line) → phase_failures 0 lines ≡ 0
no_failures [] = refl
no_failures (line ∷ lines) = ap (λ n. phase_failures n lines) (none_failed (met_of line.answer)) ∙ no_failures lines
