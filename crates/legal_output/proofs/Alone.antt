-- The run of one caller on a plain log is a phase.
use Rattle.std.proofs.Common.{◌≡◌, ℕ, suc, ◌<◌, ◌≤◌, Bool, true, false, true≢false, cond, List, [], ◌∷◌, ◌++◌, map, refl, sym, ap, subst, ◌∙◌, arith}
use Rattle.std.specs.Prelude.{Option, Some, None, max}
use Rattle.std.specs.List.{AllByRecursion as Each, flat_map}
use Rattle.std.proofs.lemmas.Bool.{eqb-true}
use Rattle.std.proofs.lemmas.List.{append-nil}
use Rattle.log_model.specs.declared.logs.Entry.{Entry}
use Rattle.log_model.proofs.LogLaws.{each_implied}
use Rattle.answer_lines.specs.declared.answers.MeetReply.{MeetReply}
use Rattle.answer_lines.specs.declared.answers.Answer.{Answer}
use Rattle.answer_lines.specs.declared.answers.Answer.TheVariants as answers
use Rattle.request_lines.specs.declared.requests.Ask.{Ask}
use Rattle.request_lines.specs.declared.requests.Ask.TheVariants as asks
use Rattle.legal_output.specs.Lines.{Asked, Given, Line, Start, caller_of, met_of, drawn, stamps, IsOfKind}
use Rattle.legal_output.specs.Printed.{ordered, entries_of, printed_events, walk, past_for, past_of, all_stamps, lines_of, is_caller, greatest, all_ticks_shown, meet_behind, write_behind, phase_failures}
use Rattle.legal_output.specs.Legal.{AtEach, Numbered, RefusedRightly, Replied, ShowsContent, HasContent, HasLevel, InOrder, Counts, AreTails, IsLegal}
use Rattle.legal_output.specs.Runs.{Plain, Run, Ends, IsPlain, begun, end_line}
use Rattle.legal_output.specs.Phases.{IsWithin, Running, tail_at, tail_below, ShowsChannels, ContentByChannel, past_in_phase, Called, InPhase, PhaseFacts, EndFacts, Begins}
use Rattle.legal_output.proofs.Grown.{lines_of-push}
use Rattle.legal_output.proofs.Pasts.{level_within, order_within}
use Rattle.legal_output.proofs.Blocks.{at_each_both}
use Rattle.legal_output.proofs.InPhases.{AreUnmet, meet_behind-block, at_each_prefix, at_each_two}
use Rattle.legal_output.proofs.PhaseRuns.{whole_legal}
use Rattle.legal_output.proofs.Tails.{all_happened, counts_tails, no_failures}
use Rattle.legal_output.proofs.Stands.{Stands, at_start, ran, plain_meet, plain_seals, plain_pending}

-- the values at the start, and those that a plain run has
abbrev first_of : Start → Running
first_of start = record { clock = suc start.m0; met = start.m0; written = λ caller. 0; logs = λ channel. start.base; events = λ channel. []; failures = 0 }

abbrev running_of : Start → Plain → List Line → Running
running_of start plain lines = record {
  clock = plain.clock;
  met = start.m0;
  written = λ caller. write_behind 0 (lines_of (Some caller) lines);
  logs = λ channel. plain.log;
  events = λ channel. printed_events start channel lines;
  failures = phase_failures 0 lines;
}

next : (n : ℕ) → n < suc n
next n = omega arith

begins : (start : Start) → Begins start (first_of start)
begins start = record { m0 = next start.m0; met = refl; written = λ caller. refl; whole = λ key. refl; events = λ channel. refl; failures = refl }

-- ---- the lines of one caller

is_its : (caller : ℕ) (who : Option ℕ) → is_caller caller who ≡ true → who ≡ Some caller
is_its caller None is = absurd (true≢false (sym is))
is_its caller (Some other) is = ap (λ n. Some n) (sym (eqb-true caller other is))

module _ (caller : ℕ) (P Q : List Line → Line → Type 0) (f : (pre : List Line) (line : Line) → caller_of line.asked ≡ Some caller → P pre line → Q (lines_of (Some caller) pre) line) where
  its_line : (pre rest : List Line) (line : Line) (b : Bool) → is_caller caller (caller_of line.asked) ≡ b → P pre line
      → AtEach Q (lines_of (Some caller) (pre ++ line ∷ [])) rest → AtEach Q (lines_of (Some caller) pre) (cond b (line ∷ rest) rest)
  its_line pre rest line true is here more =
      (f pre line (is_its caller (caller_of line.asked) is) here, subst (λ l. AtEach Q l rest) (lines_of-push caller pre line ∙ ap (λ b. lines_of (Some caller) pre ++ cond b (line ∷ []) []) is) more)
  its_line pre rest line false is here more =
      subst (λ l. AtEach Q l rest) (lines_of-push caller pre line ∙ ap (λ b. lines_of (Some caller) pre ++ cond b (line ∷ []) []) is ∙ append-nil (lines_of (Some caller) pre)) more

  its_lines : (pre rest : List Line) → AtEach P pre rest → AtEach Q (lines_of (Some caller) pre) (lines_of (Some caller) rest)
  its_lines pre [] all = tt
  its_lines pre (line ∷ rest) all = its_line pre (lines_of (Some caller) rest) line (is_caller caller (caller_of line.asked)) refl all.0 (its_lines (pre ++ line ∷ []) rest all.1)

same_most : (a b n : ℕ) → a ≡ b → max a n ≤ max b n
same_most a b n same = omega arith

most_itself : (met n : ℕ) → n ≤ max met n
most_itself met n = omega arith

-- in a first phase, what stands behind a line is what stands behind it in the phase
first_past : (start : Start) (pre : List Line) (caller : ℕ) → AreUnmet pre → IsWithin (past_in_phase start.channels start.m0 0 (lines_of (Some caller) pre)) (past_for start pre (Some caller))
first_past start pre caller unmet =
    let same : start.m0 ≡ meet_behind start.m0 pre = sym (meet_behind-block start.m0 [] pre unmet) in
    record {
      met = same;
      stamp = most_itself (meet_behind start.m0 pre) (greatest (all_stamps (lines_of (Some caller) pre)));
      write = refl;
      tick = λ channel. same_most start.m0 (meet_behind start.m0 pre) (greatest (all_ticks_shown start.channels channel (lines_of (Some caller) pre))) same;
    }

record Placed (start : Start) (pre : List Line) (line : Line) : Type 0 where
  unmet : AreUnmet pre
  level : HasLevel start.channels (past_of start pre line) line.asked line.answer
  order : InOrder (past_of start pre line) line.answer
  kind : IsPlain line.answer

called : (start : Start) (caller : ℕ) (pre : List Line) (line : Line) → caller_of line.asked ≡ Some caller → Placed start pre line → Called start.channels start.m0 0 (lines_of (Some caller) pre) line
called start caller pre line is placed = record {
  level = level_within start.channels (past_in_phase start.channels start.m0 0 (lines_of (Some caller) pre)) (past_for start pre (Some caller)) line.asked line.answer (first_past start pre caller placed.unmet)
      (subst (λ who. HasLevel start.channels (past_for start pre who) line.asked line.answer) is placed.level);
  order = order_within (past_in_phase start.channels start.m0 0 (lines_of (Some caller) pre)) (past_for start pre (Some caller)) line.answer (first_past start pre caller placed.unmet)
      (subst (λ who. InOrder (past_for start pre who) line.answer) is placed.order);
  pending = plain_pending start.channels (past_in_phase start.channels start.m0 0 (lines_of (Some caller) pre)) line.asked line.answer placed.kind;
}

-- ---- its lines

each-first : {A : Type 0} (P : A → Type 0) (xs ys : List A) → Each P (xs ++ ys) → Each P xs
each-first P [] ys all = tt
each-first P (x ∷ xs) ys all = (all.0, each-first P xs ys all.1)

each-rest : {A : Type 0} (P : A → Type 0) (xs ys : List A) → Each P (xs ++ ys) → Each P ys
each-rest P [] ys all = all
each-rest P (x ∷ xs) ys all = each-rest P xs ys all.1

each-unflat : {X A : Type 0} (P : A → Type 0) (f : X → List A) (xs : List X) → Each P (flat_map f xs) → Each (λ x. Each P (f x)) xs
each-unflat P f [] all = tt
each-unflat P f (x ∷ xs) all = (each-first P (f x) (flat_map f xs) all, each-unflat P f xs (each-rest P (f x) (flat_map f xs) all))

shows_channels : (start : Start) (log : List Entry) (ask : Ask) (answer : Answer) → ShowsContent start.plan log ask answer → ShowsChannels start (λ channel. log) ask answer
shows_channels start log (asks.Search query level wait) (answers.Hits now guarantee ts hits) shows = (log, (λ key. refl), shows)
shows_channels start log (asks.Get key level wait) (answers.Found now guarantee ts row) shows = shows
shows_channels start log ask answer shows = tt

content_channels : (start : Start) (log : List Entry) (asked : Asked) (answer : Answer) → HasContent start.plan log asked answer → ContentByChannel start (λ channel. log) asked answer
content_channels start log (Given request) answer content = shows_channels start log request.what answer content
content_channels start log asked answer content = tt

each_all : (start : Start) (last : Plain) (all block : List Line) → Each (λ line. IsOfKind start line.asked line.answer) block → Each (λ line. RefusedRightly line.asked line.answer) block
    → Each (λ line. Each (λ n. start.m0 < n) (drawn line.answer)) block → Each (λ line. Each (λ n. n < last.clock) (stamps line.answer)) block → Each (λ line. IsPlain line.answer) block
    → Each (λ line. Replied last.log line.asked line.answer) block → Each (λ line. HasContent start.plan last.log line.asked line.answer) block
    → Each (InPhase start (first_of start) (running_of start last all)) block
each_all start last all [] kinds refusals drawns stamped plain writes content = tt
each_all start last all (line ∷ block) kinds refusals drawns stamped plain writes content = (
  record {
    kind = kinds.0;
    refusal = refusals.0;
    drawn = drawns.0;
    stamped = stamped.0;
    unmet = plain_meet line.answer plain.0;
    replied = writes.0;
    content = content_channels start last.log line.asked line.answer content.0;
    sealed = subst (AreTails (tail_below start.seal_rows (λ channel. printed_events start channel all)) 0) (sym (plain_seals line.answer plain.0)) tt;
  },
  each_all start last all block kinds.1 refusals.1 drawns.1 stamped.1 plain.1 writes.1 content.1,
)

module _ (start : Start) (last : Plain) (block : List Line) (stands : Stands start last block) where
  in_phase : Each (InPhase start (first_of start) (running_of start last block)) block
  in_phase = each_all start last block block stands.kinds stands.refusals (each-unflat (λ n. start.m0 < n) (λ line. drawn line.answer) block stands.numbers.above) stands.stamped stands.plain_kinds stands.writes stands.content

  unmet_block : AreUnmet block
  unmet_block = each_implied (λ line. IsPlain line.answer) (λ line. met_of line.answer ≡ None) (λ line plain. plain_meet line.answer plain) block stands.plain_kinds

  placed : AtEach (Placed start) [] block
  placed = at_each_both (λ pre line. AreUnmet pre × (HasLevel start.channels (past_of start pre line) line.asked line.answer × InOrder (past_of start pre line) line.answer)) (Placed start) (λ line. IsPlain line.answer)
      (λ pre line known plain. record { unmet = known.0; level = known.1.0; order = known.1.1; kind = plain }) [] block
      (at_each_two (λ pre line. AreUnmet pre) (λ pre line. HasLevel start.channels (past_of start pre line) line.asked line.answer × InOrder (past_of start pre line) line.answer)
      (λ pre line. AreUnmet pre × (HasLevel start.channels (past_of start pre line) line.asked line.answer × InOrder (past_of start pre line) line.answer)) (λ pre line one two. (one, two)) [] block
      (at_each_prefix (λ line. met_of line.answer ≡ None) [] block tt unmet_block)
      (at_each_two (λ pre line. HasLevel start.channels (past_of start pre line) line.asked line.answer) (λ pre line. InOrder (past_of start pre line) line.answer)
      (λ pre line. HasLevel start.channels (past_of start pre line) line.asked line.answer × InOrder (past_of start pre line) line.answer) (λ pre line one two. (one, two)) [] block stands.levels stands.order))
      stands.plain_kinds

  -- what the lines of a plain run keep is what a phase owes
  pub plain_phase : PhaseFacts start (first_of start) (running_of start last block) block
  plain_phase = record {
    later = stands.m0;
    met = refl;
    written = λ caller. refl;
    failures = refl;
    more = λ channel. ordered (λ entry. entry.ts.0) (flat_map entries_of block);
    grown = λ channel. stands.log;
    entries = λ key. refl;
    events = λ channel. refl;
    lines = in_phase;
    differ = stands.numbers.differ;
    callers = λ caller. its_lines caller (Placed start) (Called start.channels start.m0 0) (called start caller) [] block placed;
  }

-- ---- its end

module _ (start : Start) (last : Plain) (block : List Line) (stands : Stands start last block) (counted : MeetReply) (ends : Ends start last counted) where
  -- the tail that was kept is the printed one at the end
  last_tail : (channel : ℕ) → channel < start.channels → last.tail ≡ tail_at start.seal_rows (λ c. printed_events start c block) counted.ts.0 channel
  last_tail channel there =
      stands.tails channel there
      ∙ sym (ap (walk start.seal_rows) (all_happened start last.clock counted.ts.0 channel block stands.stamped ends.drawn_above))

  end_facts : (number : ℕ) → EndFacts start (running_of start last block) (end_line number counted)
  end_facts number = record {
    counted = counted;
    asked = refl;
    answer = refl;
    drawn = ends.drawn_above;
    log = last.log;
    whole = λ key. refl;
    counts = subst (λ failures. Counts start last.log (tail_at start.seal_rows (λ c. printed_events start c block) counted.ts.0) failures counted) (sym (no_failures block))
        (counts_tails start last.log (λ channel. last.tail) (tail_at start.seal_rows (λ c. printed_events start c block) counted.ts.0) 0 counted last_tail ends.counts);
  }

-- a run of one caller on a plain log, and its end, are legal
pub alone_legal : (start : Start) (clock : ℕ) (last : Plain) (asks : List Asked) (block : List Line) (number : ℕ) (counted : MeetReply)
    → Each (λ entry. entry.ts.0 < clock) start.base → start.m0 < clock → Run start (begun start clock) block last → Ends start last counted
    → Numbered 2 (block ++ end_line number counted ∷ []) → map (λ line. line.asked) (block ++ end_line number counted ∷ []) ≡ asks
    → IsLegal start asks (block ++ end_line number counted ∷ [])
alone_legal start clock last asks block number counted base m0 run ends numbered asked =
    let stands : Stands start last block = ran start (begun start clock) last [] block (at_start start clock base m0) run in
    whole_legal start (first_of start) (first_of start) (running_of start last block) [] block (end_line number counted) asks
    (begins start) refl (plain_phase start last block stands) (end_facts start last block stands counted ends number) numbered asked
