-- A meet and the end extend the lines before them, and so do all phases of a run.
use Rattle.std.proofs.Common.{◌≡◌, ℕ, suc, ◌<◌, ◌≤◌, List, [], ◌∷◌, ◌++◌, map, sym, ap, subst, ◌∙◌, append_assoc, arith}
use Rattle.std.specs.Prelude.{Some, None, nat_le}
use Rattle.std.specs.List.{AllByRecursion as Each, filter}
use Rattle.std.proofs.lemmas.List.{append-nil}
use Rattle.log_model.specs.declared.logs.Entry.{Entry}
use Rattle.log_model.proofs.LogLaws.{each-append, each_implied}
use Rattle.answer_lines.specs.declared.answers.MeetReply.{MeetReply}
use Rattle.answer_lines.specs.declared.answers.Answer.TheVariants as answers
use Rattle.request_lines.specs.declared.requests.Ask.TheVariants as asks
use Rattle.legal_output.specs.Lines.{Asked, Given, Finish, Line, Start, stamps}
use Rattle.legal_output.specs.Printed.{Event, walk, printed_log, printed_events, printed_tail, all_stamps, lines_of, greatest, write_behind, past_for, phase_failures}
use Rattle.legal_output.specs.Legal.{Numbered, Counts, CountsRightly, IsLegal}
use Rattle.legal_output.specs.Phases.{Running, IsWhole, of_key, tail_at, PhaseFacts, MeetFacts, EndFacts, Begins, Phase, RunOver, lines_in}
use Rattle.legal_output.proofs.Grown.{each-flat_map, greatest-lt}
use Rattle.legal_output.proofs.KeyByKey.{same_live}
use Rattle.legal_output.proofs.Blocks.{AreFrom, SoFar, Extends, extended, counts_more, printed_log-blocks, printed_events-blocks}
use Rattle.legal_output.proofs.InPhases.{Stand, Settled, phase_stands, lines_of-append, phase_failures-append, meet_behind-append}

lt_lt : (a b c : ℕ) → a < b → b ≤ c → a < c
lt_lt a b c low high = omega arith

le_lt : (a b c : ℕ) → a ≤ b → b < c → a ≤ c
le_lt a b c low high = omega arith

lt_le : (a b c : ℕ) → a < b → b ≤ c → a ≤ c
lt_le a b c low high = omega arith

le_self : (n : ℕ) → n ≤ n
le_self n = omega arith

some_clock : (a b : ℕ) → a < b → 0 < b
some_clock a b low = omega arith

-- a line that draws one number when all is at rest is in order
at_rest : (start : Start) (old : Running) (before : List Line) → Stand start old before → (ts : ℕ) → old.clock ≤ ts
    → ((past_for start before None).last_meet < ts) × ((past_for start before None).last_stamp < ts)
at_rest start old before stand ts from = (
  subst (λ m. m < ts) stand.met (lt_lt old.met old.clock ts stand.below from),
  lt_lt (greatest (all_stamps before)) old.clock ts
      (greatest-lt old.clock (all_stamps before) (some_clock old.met old.clock stand.below) (each-flat_map (λ n. n < old.clock) (λ line. stamps line.answer) before stand.sofar.stamped)) from,
)

-- what is counted when all is at rest, by a line that writes and seals nothing
counts_rest : (start : Start) (old : Running) (before : List Line) → Stand start old before → (line : Line) (counted : MeetReply)
    → printed_log start (before ++ line ∷ []) ≡ printed_log start before → ((channel : ℕ) → printed_events start channel (before ++ line ∷ []) ≡ printed_events start channel before)
    → (log : List Entry) → IsWhole start.channels old.logs log → Counts start log (tail_at start.seal_rows old.events counted.ts.0) old.failures counted
    → Counts start (printed_log start (before ++ line ∷ [])) (printed_tail start (before ++ line ∷ []) counted.ts.0) (phase_failures 0 before) counted
counts_rest start old before stand line counted same events log whole counts =
    counts_more start log (printed_log start (before ++ line ∷ [])) (tail_at start.seal_rows old.events counted.ts.0) (printed_tail start (before ++ line ∷ []) counted.ts.0)
    old.failures (phase_failures 0 before) counted
    (same_live log (printed_log start (before ++ line ∷ [])) counted.ts.0 (λ key. whole key ∙ sym (ap (of_key key) same ∙ stand.whole key)))
    (λ i. λ channel. ap (λ es. walk start.seal_rows (filter (λ (event : Event). nat_le event.ts counted.ts.0) es)) (sym (events channel ∙ stand.events channel)) i)
    stand.failures counts

-- ---- meets

abbrev meet_at : ℕ → ℕ → MeetReply → Line
meet_at number caller counted = record { number = number; asked = Given (record { caller = caller; what = asks.Meet }); answer = answers.Met counted }

module _ (start : Start) (old new : Running) (before : List Line) (stand : Stand start old before) (number caller : ℕ) (counted : MeetReply) (from : old.clock ≤ counted.ts.0) where
  meet_from : AreFrom old.clock (meet_at number caller counted ∷ [])
  meet_from = ((from, tt), tt)

  log_meet : printed_log start (before ++ meet_at number caller counted ∷ []) ≡ printed_log start before
  log_meet = printed_log-blocks start old.clock before (meet_at number caller counted ∷ []) stand.sofar.stamped meet_from ∙ append-nil (printed_log start before)

  events_meet : (channel : ℕ) → printed_events start channel (before ++ meet_at number caller counted ∷ []) ≡ printed_events start channel before
  events_meet channel = printed_events-blocks start old.clock before (meet_at number caller counted ∷ []) stand.sofar.stamped meet_from channel ∙ append-nil (printed_events start channel before)

  whole_meet : IsWhole start.channels old.logs (printed_log start (before ++ meet_at number caller counted ∷ []))
  whole_meet key = ap (of_key key) log_meet ∙ stand.whole key

  counts_meet : (log : List Entry) → IsWhole start.channels old.logs log → Counts start log (tail_at start.seal_rows old.events counted.ts.0) old.failures counted
      → CountsRightly start (before ++ meet_at number caller counted ∷ []) before (answers.Met counted)
  counts_meet log whole counts = record {
    sealed = tt;
    met = counts_rest start old before stand (meet_at number caller counted) counted log_meet events_meet log whole counts;
  }

  meet_extends : counted.ts.0 < new.clock → (log : List Entry) → IsWhole start.channels old.logs log → Counts start log (tail_at start.seal_rows old.events counted.ts.0) old.failures counted
      → Extends start old.clock new.clock before (meet_at number caller counted ∷ [])
  meet_extends later log whole counts =
      let above : ((past_for start before None).last_meet < counted.ts.0) × ((past_for start before None).last_stamp < counted.ts.0) = at_rest start old before stand counted.ts.0 from in
      record {
        later = le_lt old.clock counted.ts.0 new.clock from later;
        from = meet_from;
        differ = (tt, tt);
        stamped = ((later, tt), tt);
        kinds = (tt, tt);
        refusals = (tt, tt);
        writes = (tt, tt);
        content = (tt, tt);
        levels = (tt, tt);
        order = (record { rising = (tt, tt); after_meet = (above.0, tt); after_caller = (above.1, tt) }, tt);
        pending = (tt, tt);
        meets = (counts_meet log whole counts, tt);
      }

  meet_at_stands : counted.ts.0 < new.clock → (log : List Entry) → IsWhole start.channels old.logs log → Counts start log (tail_at start.seal_rows old.events counted.ts.0) old.failures counted
      → new.met ≡ counted.ts.0 → new.written ≡ old.written → new.failures ≡ 0 → new.logs ≡ old.logs → new.events ≡ old.events
      → Stand start new (before ++ meet_at number caller counted ∷ [])
  meet_at_stands later log whole counts met written failures logs events = record {
    sofar = extended start old.clock new.clock before (meet_at number caller counted ∷ []) stand.sofar (meet_extends later log whole counts);
    met = met ∙ sym (meet_behind-append start.m0 before (meet_at number caller counted ∷ []));
    below = subst (λ m. m < new.clock) (sym met) later;
    written = λ other. ap (λ f. f other) written ∙ stand.written other
        ∙ sym (ap (write_behind 0) (lines_of-append other before (meet_at number caller counted ∷ []) ∙ append-nil (lines_of (Some other) before)));
    whole = subst (λ l. IsWhole start.channels l (printed_log start (before ++ meet_at number caller counted ∷ []))) (sym logs) whole_meet;
    events = λ channel. events_meet channel ∙ stand.events channel ∙ sym (ap (λ f. f channel) events);
    failures = failures ∙ sym (phase_failures-append 0 before (meet_at number caller counted ∷ []));
  }

  meet_at_settles : new.met ≡ counted.ts.0 → Settled new.met (before ++ meet_at number caller counted ∷ [])
  meet_at_settles met = subst (λ m. Settled m (before ++ meet_at number caller counted ∷ [])) (sym met)
      (each-append (λ line. Each (λ n. n ≤ counted.ts.0) (stamps line.answer)) before (meet_at number caller counted ∷ [])
      (each_implied (λ line. Each (λ n. n < old.clock) (stamps line.answer)) (λ line. Each (λ n. n ≤ counted.ts.0) (stamps line.answer))
      (λ line all. each_implied (λ n. n < old.clock) (λ n. n ≤ counted.ts.0) (λ n low. lt_le n old.clock counted.ts.0 low from) (stamps line.answer) all) before stand.sofar.stamped)
      ((le_self counted.ts.0, tt), tt))

-- the line of a meet is this line
meet_is : (start : Start) (old new : Running) (line : Line) (facts : MeetFacts start old new line) → meet_at line.number facts.caller facts.counted ≡ line
meet_is start old new line facts = λ i. record { number = line.number; asked = sym facts.asked i; answer = sym facts.answer i }

meet_stands : (start : Start) (old new : Running) (before : List Line) (line : Line) → Stand start old before → MeetFacts start old new line
    → Stand start new (before ++ line ∷ []) × Settled new.met (before ++ line ∷ [])
meet_stands start old new before line stand facts =
    subst (λ l. Stand start new (before ++ l ∷ []) × Settled new.met (before ++ l ∷ [])) (meet_is start old new line facts) (
      meet_at_stands start old new before stand line.number facts.caller facts.counted facts.drawn facts.later facts.log facts.whole facts.counts facts.met facts.written facts.failures facts.logs facts.events,
      meet_at_settles start old new before stand line.number facts.caller facts.counted facts.drawn facts.met,
    )

-- ---- the end

abbrev end_at : ℕ → MeetReply → Line
end_at number counted = record { number = number; asked = Finish; answer = answers.End counted }

next : (n : ℕ) → n < suc n
next n = omega arith

le_next : (a b : ℕ) → a ≤ b → a ≤ suc b
le_next a b low = omega arith

end_at_stands : (start : Start) (old : Running) (before : List Line) → Stand start old before → (number : ℕ) (counted : MeetReply) → old.clock ≤ counted.ts.0
    → (log : List Entry) → IsWhole start.channels old.logs log → Counts start log (tail_at start.seal_rows old.events counted.ts.0) old.failures counted → SoFar start (suc counted.ts.0) (before ++ end_at number counted ∷ [])
end_at_stands start old before stand number counted from log whole counts =
    let line : Line = end_at number counted in
    let drawn_from : AreFrom old.clock (line ∷ []) = ((from, tt), tt) in
    let same : printed_log start (before ++ line ∷ []) ≡ printed_log start before = printed_log-blocks start old.clock before (line ∷ []) stand.sofar.stamped drawn_from ∙ append-nil (printed_log start before) in
    let events : (channel : ℕ) → printed_events start channel (before ++ line ∷ []) ≡ printed_events start channel before =
    λ channel. printed_events-blocks start old.clock before (line ∷ []) stand.sofar.stamped drawn_from channel ∙ append-nil (printed_events start channel before) in
    let above : ((past_for start before None).last_meet < counted.ts.0) × ((past_for start before None).last_stamp < counted.ts.0) = at_rest start old before stand counted.ts.0 from in
    extended start old.clock (suc counted.ts.0) before (line ∷ []) stand.sofar (record {
      later = le_next old.clock counted.ts.0 from;
      from = drawn_from;
      differ = (tt, tt);
      stamped = ((next counted.ts.0, tt), tt);
      kinds = (tt, tt);
      refusals = (tt, tt);
      writes = (tt, tt);
      content = (tt, tt);
      levels = (tt, tt);
      order = (record { rising = (tt, tt); after_meet = (above.0, tt); after_caller = (above.1, tt) }, tt);
      pending = (tt, tt);
      meets = (record { sealed = tt; met = counts_rest start old before stand line counted same events log whole counts }, tt);
    })

end_is : (start : Start) (old : Running) (line : Line) (facts : EndFacts start old line) → end_at line.number facts.counted ≡ line
end_is start old line facts = λ i. record { number = line.number; asked = sym facts.asked i; answer = sym facts.answer i }

pub end_stands : (start : Start) (old : Running) (before : List Line) (line : Line) → Stand start old before → (facts : EndFacts start old line) → SoFar start (suc facts.counted.ts.0) (before ++ line ∷ [])
end_stands start old before line stand facts =
    subst (λ l. SoFar start (suc facts.counted.ts.0) (before ++ l ∷ [])) (end_is start old line facts)
    (end_at_stands start old before stand line.number facts.counted facts.drawn facts.log facts.whole facts.counts)

-- ---- runs

pub begun_stands : (start : Start) (first : Running) → Begins start first → Stand start first [] × Settled first.met []
begun_stands start first begins = (
  record {
    sofar = record {
      m0 = begins.m0;
      stamped = tt;
      kinds = tt;
      refusals = tt;
      numbers = record { differ = tt; above = tt };
      writes = tt;
      content = tt;
      levels = tt;
      order = tt;
      pending = tt;
      meets = tt;
    };
    met = begins.met;
    below = subst (λ m. m < first.clock) (sym begins.met) begins.m0;
    written = begins.written;
    whole = λ key. ap (of_key key) (append-nil start.base) ∙ begins.whole key;
    events = λ channel. sym (begins.events channel);
    failures = begins.failures;
  },
  tt,
)

pub run_stands : (start : Start) (old new : Running) (before : List Line) (phases : List Phase) → Stand start old before × Settled old.met before → RunOver start old phases new
    → Stand start new (before ++ lines_in phases) × Settled new.met (before ++ lines_in phases)
run_stands start old new before [] stand run =
    subst (λ l. Stand start new l × Settled new.met l) (sym (append-nil before)) (subst (λ r. Stand start r before × Settled r.met before) (sym run) stand)
run_stands start old new before (phase ∷ phases) stand run =
    let ran : Stand start run.0 (before ++ phase.lines) = phase_stands start old run.0 before stand.0 stand.1 phase.lines run.2 in
    let met : Stand start run.1 ((before ++ phase.lines) ++ phase.meet ∷ []) × Settled run.1.met ((before ++ phase.lines) ++ phase.meet ∷ []) =
    meet_stands start run.0 run.1 (before ++ phase.lines) phase.meet ran run.3 in
    subst (λ l. Stand start new l × Settled new.met l)
    (ap (λ l. l ++ lines_in phases) (append_assoc before phase.lines (phase.meet ∷ [])) ∙ append_assoc before (phase.lines ++ phase.meet ∷ []) (lines_in phases))
    (run_stands start run.1 new ((before ++ phase.lines) ++ phase.meet ∷ []) phases met run.4)

pub sofar_legal : (start : Start) (clock : ℕ) (asks : List Asked) (lines : List Line) → SoFar start clock lines → Numbered 2 lines → map (λ line. line.asked) lines ≡ asks → IsLegal start asks lines
sofar_legal start clock asks lines sofar numbered asked = record {
  form = record { numbered = numbered; asked = asked; kinds = sofar.kinds };
  refusals = sofar.refusals;
  numbers = sofar.numbers;
  writes = sofar.writes;
  content = sofar.content;
  levels = sofar.levels;
  order = sofar.order;
  pending = sofar.pending;
  meets = sofar.meets;
}

-- after each meet the output is legal as one that is stopped there
pub stopped_legal : (start : Start) (first last : Running) (phases : List Phase) (asks : List Asked) → Begins start first → RunOver start first phases last
    → Numbered 2 (lines_in phases) → map (λ line. line.asked) (lines_in phases) ≡ asks → IsLegal start asks (lines_in phases)
stopped_legal start first last phases asks begins run numbered asked =
    let ran : Stand start last (lines_in phases) × Settled last.met (lines_in phases) = run_stands start first last [] phases (begun_stands start first begins) run in
    sofar_legal start last.clock asks (lines_in phases) ran.0.sofar numbered asked

-- with a last phase and the end it is legal as a whole
pub whole_legal : (start : Start) (first met last : Running) (phases : List Phase) (block : List Line) (end : Line) (asks : List Asked)
    → Begins start first → RunOver start first phases met → PhaseFacts start met last block → EndFacts start last end
    → Numbered 2 ((lines_in phases ++ block) ++ end ∷ []) → map (λ line. line.asked) ((lines_in phases ++ block) ++ end ∷ []) ≡ asks → IsLegal start asks ((lines_in phases ++ block) ++ end ∷ [])
whole_legal start first met last phases block end asks begins run facts ends numbered asked =
    let ran : Stand start met (lines_in phases) × Settled met.met (lines_in phases) = run_stands start first met [] phases (begun_stands start first begins) run in
    let stands : Stand start last (lines_in phases ++ block) = phase_stands start met last (lines_in phases) ran.0 ran.1 block facts in
    sofar_legal start (suc ends.counted.ts.0) asks ((lines_in phases ++ block) ++ end ∷ []) (end_stands start last (lines_in phases ++ block) end stands ends) numbered asked
