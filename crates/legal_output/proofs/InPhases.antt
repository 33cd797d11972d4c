-- A phase extends the lines before it.
use Rattle.std.proofs.Common.{◌≡◌, ℕ, ◌+◌, ◌<◌, ◌≤◌, Bool, true, false, cond, List, [], ◌∷◌, ◌++◌, map, refl, sym, ap, subst, ◌∙◌, append_assoc, arith}
use Rattle.std.specs.Prelude.{Option, Some, None, IfSome, max, nat_lt, ⊤}
use Rattle.std.specs.List.{AllByRecursion as Each, AllZip, filter, flat_map}
use Rattle.std.specs.Ordering.{int_cmp, eq_by_cmp}
use Rattle.std.proofs.Common.{eq-eqb}
use Rattle.std.proofs.lemmas.List.{append-nil}
use Rattle.std.proofs.lemmas.List.Elements.{filter-append}
use Rattle.std.proofs.lemmas.Grind.{flat_map-append}
use Rattle.log_model.specs.declared.logs.Entry.{Entry}
use Rattle.log_model.specs.Logs.{key_of}
use Rattle.log_model.proofs.LogLaws.{each-append, each_implied}
use Rattle.answer_lines.specs.declared.answers.Answer.{Answer}
use Rattle.answer_lines.specs.declared.answers.Answer.TheVariants as answers
use Rattle.request_lines.specs.declared.requests.Request.{Request}
use Rattle.request_lines.specs.declared.requests.Ask.{Ask}
use Rattle.request_lines.specs.declared.requests.Ask.TheVariants as asks
use Rattle.legal_output.specs.Lines.{Asked, Bad, Given, Finish, Line, Start, channel_of, caller_in, caller_of, changes_of, reading_in, reading_of, written_of, late_of, seals_of, met_of, failures_of, drawn, stamps, IsOfKind, IsAnswerTo}
use Rattle.legal_output.specs.Printed.{Past, ordered, entries_of, events_of, walk, printed_log, printed_events, printed_tail, tail_before, past_for, past_of, all_stamps, all_ticks_shown, ticks_shown, lines_of, is_caller, greatest, meet_behind, meet_or, write_behind, write_or, failures_or, phase_failures}
use Rattle.legal_output.specs.Legal.{AtEach, RefusedRightly, told_of, reply, Replied, ShowsContent, HasContent, HasLevel, ReadsAt, Rising, InOrder, IsPending, PendingRightly, Counts, CountsRightly}
use Rattle.legal_output.specs.Phases.{IsWithin, Running, IsWhole, of_key, tail_below, RepliedByChannel, ShowsChannels, ContentByChannel, past_in_phase, Called, InPhase, PhaseFacts}
use Rattle.legal_output.proofs.Grown.{lines_of_each, lines_of-push, greatest-le, each-flat_map}
use Rattle.legal_output.proofs.Later.{zip_implied}
use Rattle.legal_output.proofs.KeyByKey.{same_row, same_was_live, same_scan}
use Rattle.legal_output.proofs.Pasts.{some_implied, level_within, pending_within, order_within, told_shown, each_greatest}
use Rattle.legal_output.proofs.Blocks.{AreFrom, SoFar, Extends, extended, at_each_both, tails_more, printed_log-blocks, printed_events-blocks}

-- ---- what stands behind two lists of lines

pub meet_behind-append : (met : ℕ) (lines more : List Line) → meet_behind met (lines ++ more) ≡ meet_behind (meet_behind met lines) more
meet_behind-append met [] more = refl
meet_behind-append met (line ∷ lines) more = meet_behind-append (meet_or met (met_of line.answer)) lines more

abbrev pub AreUnmet : List Line → Type 0
AreUnmet lines = Each (λ line. met_of line.answer ≡ None) lines

meet_behind-unmet : (met : ℕ) (lines : List Line) → AreUnmet lines → meet_behind met lines ≡ met
meet_behind-unmet met [] unmet = refl
meet_behind-unmet met (line ∷ lines) unmet = ap (λ m. meet_behind (meet_or met m) lines) unmet.0 ∙ meet_behind-unmet met lines unmet.1

pub meet_behind-block : (met : ℕ) (before block : List Line) → AreUnmet block → meet_behind met (before ++ block) ≡ meet_behind met before
meet_behind-block met before block unmet = meet_behind-append met before block ∙ meet_behind-unmet (meet_behind met before) block unmet

write_behind-append : (ts : ℕ) (lines more : List Line) → write_behind ts (lines ++ more) ≡ write_behind (write_behind ts lines) more
write_behind-append ts [] more = refl
write_behind-append ts (line ∷ lines) more = write_behind-append (write_or ts (written_of line.answer)) lines more

pub phase_failures-append : (failures : ℕ) (lines more : List Line) → phase_failures failures (lines ++ more) ≡ phase_failures (phase_failures failures lines) more
phase_failures-append failures [] more = refl
phase_failures-append failures (line ∷ lines) more = phase_failures-append (failures_or (failures + failures_of line.answer) (met_of line.answer)) lines more

pub lines_of-append : (caller : ℕ) (lines more : List Line) → lines_of (Some caller) (lines ++ more) ≡ lines_of (Some caller) lines ++ lines_of (Some caller) more
lines_of-append caller lines more = filter-append (λ line. is_caller caller (caller_of line.asked)) lines more

pub write_behind-block : (caller : ℕ) (before block : List Line) → write_behind 0 (lines_of (Some caller) (before ++ block)) ≡ write_behind (write_behind 0 (lines_of (Some caller) before)) (lines_of (Some caller) block)
write_behind-block caller before block = ap (write_behind 0) (lines_of-append caller before block) ∙ write_behind-append 0 (lines_of (Some caller) before) (lines_of (Some caller) block)

-- all that was shown so far is at or below the last meet
abbrev pub Settled : ℕ → List Line → Type 0
Settled met lines = Each (λ line. Each (λ n. n ≤ met) (stamps line.answer)) lines

below_max : (n met most : ℕ) → n ≤ met → n ≤ max met most
below_max n met most low = omega arith

above_max : (n met most : ℕ) → n ≤ most → n ≤ max met most
above_max n met most low = omega arith

max_max : (met m most : ℕ) → m ≡ met → (n : ℕ) → n ≤ max met most → max m n ≤ max met most
max_max met m most is n low = omega arith

-- the greatest of what two lists of lines tell, where nothing of the first is above the last meet
greatest_both : (tells : Line → List ℕ) (met : ℕ) (before block : List Line) → Each (λ line. Each (λ n. n ≤ met) (tells line)) before
    → greatest (flat_map tells (before ++ block)) ≤ max met (greatest (flat_map tells block))
greatest_both tells met before block low =
    greatest-le (max met (greatest (flat_map tells block))) (flat_map tells (before ++ block))
    (subst (Each (λ n. n ≤ max met (greatest (flat_map tells block)))) (sym (flat_map-append tells before block))
    (each-append (λ n. n ≤ max met (greatest (flat_map tells block))) (flat_map tells before) (flat_map tells block)
    (each_implied (λ n. n ≤ met) (λ n. n ≤ max met (greatest (flat_map tells block))) (λ n few. below_max n met (greatest (flat_map tells block)) few) (flat_map tells before)
    (each-flat_map (λ n. n ≤ met) tells before low))
    (each_implied (λ n. n ≤ greatest (flat_map tells block)) (λ n. n ≤ max met (greatest (flat_map tells block))) (λ n few. above_max n met (greatest (flat_map tells block)) few) (flat_map tells block)
    (each_greatest (flat_map tells block)))))

module _ (start : Start) (met written : ℕ) (caller : ℕ) (before pre : List Line) where
  -- what stands behind a line is no more than what stands behind it in its phase
  past_within : met ≡ meet_behind start.m0 before → Settled met before → written ≡ write_behind 0 (lines_of (Some caller) before) → AreUnmet pre
      → IsWithin (past_for start (before ++ pre) (Some caller)) (past_in_phase start.channels met written (lines_of (Some caller) pre))
  past_within is settled mine unmet =
      let same : meet_behind start.m0 (before ++ pre) ≡ met = meet_behind-block start.m0 before pre unmet ∙ sym is in
      let own : Settled met (lines_of (Some caller) before) = lines_of_each (λ line. Each (λ n. n ≤ met) (stamps line.answer)) (Some caller) before settled in
      record {
        met = same;
        stamp = subst (λ ls. greatest (all_stamps ls) ≤ max met (greatest (all_stamps (lines_of (Some caller) pre)))) (sym (lines_of-append caller before pre))
            (greatest_both (λ line. stamps line.answer) met (lines_of (Some caller) before) (lines_of (Some caller) pre) own);
        write = sym (write_behind-block caller before pre ∙ ap (λ ts. write_behind ts (lines_of (Some caller) pre)) (sym mine));
        tick = λ channel. max_max met (meet_behind start.m0 (before ++ pre)) (greatest (all_ticks_shown start.channels channel (lines_of (Some caller) pre))) same
            (greatest (all_ticks_shown start.channels channel (lines_of (Some caller) (before ++ pre))))
            (subst (λ ls. greatest (all_ticks_shown start.channels channel ls) ≤ max met (greatest (all_ticks_shown start.channels channel (lines_of (Some caller) pre)))) (sym (lines_of-append caller before pre))
            (greatest_both (λ line. ticks_shown start.channels channel line.asked line.answer) met (lines_of (Some caller) before) (lines_of (Some caller) pre)
            (each_implied (λ line. Each (λ n. n ≤ met) (stamps line.answer)) (λ line. Each (λ n. n ≤ met) (ticks_shown start.channels channel line.asked line.answer))
            (λ line all. told_shown (λ n. n ≤ met) start.channels channel line.asked line.answer all) (lines_of (Some caller) before) own)));
      }

-- ---- from the callers to the lines in their order

same_caller : (caller : ℕ) → is_caller caller (Some caller) ≡ true
same_caller caller = eq-eqb caller caller refl

abbrev OfCaller : (ℕ → List Line → Line → Type 0) → List Line → Line → Type 0
OfCaller Q earlier line = (caller : ℕ) → caller_of line.asked ≡ Some caller → Q caller (lines_of (Some caller) earlier) line

module _ (Q : ℕ → List Line → Line → Type 0) where
  next_line : (caller : ℕ) (pre rest : List Line) (line : Line) (b : Bool) → is_caller caller (caller_of line.asked) ≡ b
      → AtEach (Q caller) (lines_of (Some caller) pre) (cond b (line ∷ rest) rest) → AtEach (Q caller) (lines_of (Some caller) (pre ++ line ∷ [])) rest
  next_line caller pre rest line true is all =
      subst (λ l. AtEach (Q caller) l rest) (sym (lines_of-push caller pre line ∙ ap (λ b. lines_of (Some caller) pre ++ cond b (line ∷ []) []) is)) all.1
  next_line caller pre rest line false is all =
      subst (λ l. AtEach (Q caller) l rest) (sym (lines_of-push caller pre line ∙ ap (λ b. lines_of (Some caller) pre ++ cond b (line ∷ []) []) is ∙ append-nil (lines_of (Some caller) pre))) all

  callers_together : (pre rest : List Line) → ((caller : ℕ) → AtEach (Q caller) (lines_of (Some caller) pre) (lines_of (Some caller) rest)) → AtEach (OfCaller Q) pre rest
  callers_together pre [] all = tt
  callers_together pre (line ∷ rest) all = (
    λ caller is. (subst (λ b. AtEach (Q caller) (lines_of (Some caller) pre) (cond b (line ∷ lines_of (Some caller) rest) (lines_of (Some caller) rest)))
        (ap (is_caller caller) is ∙ same_caller caller) (all caller)).0,
    callers_together (pre ++ line ∷ []) rest
        (λ caller. next_line caller pre (lines_of (Some caller) rest) line (is_caller caller (caller_of line.asked)) refl (all caller)),
  )

pub at_each_prefix : (R : Line → Type 0) (pre rest : List Line) → Each R pre → Each R rest → AtEach (λ earlier line. Each R earlier) pre rest
at_each_prefix R pre [] before all = tt
at_each_prefix R pre (line ∷ rest) before all = (before, at_each_prefix R (pre ++ line ∷ []) rest (each-append R pre (line ∷ []) before (all.0, tt)) all.1)

pub at_each_two : (P P' R : List Line → Line → Type 0) → ((earlier : List Line) (line : Line) → P earlier line → P' earlier line → R earlier line) → (pre rest : List Line)
    → AtEach P pre rest → AtEach P' pre rest → AtEach R pre rest
at_each_two P P' R f pre [] one two = tt
at_each_two P P' R f pre (line ∷ rest) one two = (f pre line one.0 two.0, at_each_two P P' R f (pre ++ line ∷ []) rest one.1 two.1)

at_each_behind : (P P' : List Line → Line → Type 0) (before : List Line) → ((earlier : List Line) (line : Line) → P' earlier line → P (before ++ earlier) line) → (pre rest : List Line)
    → AtEach P' pre rest → AtEach P (before ++ pre) rest
at_each_behind P P' before f pre [] all = tt
at_each_behind P P' before f pre (line ∷ rest) all =
    (f pre line all.0, subst (λ b. AtEach P b rest) (sym (append_assoc before pre (line ∷ []))) (at_each_behind P P' before f (pre ++ line ∷ []) rest all.1))

-- ---- lines that no caller asked

no_reading_ask : (channels caller : ℕ) (ask : Ask) → caller_in caller ask ≡ None → reading_in channels ask ≡ None
no_reading_ask channels caller (asks.Write write) none = refl
no_reading_ask channels caller (asks.Search query level wait) none = cc
no_reading_ask channels caller (asks.Get key level wait) none = cc
no_reading_ask channels caller asks.Tick none = refl
no_reading_ask channels caller asks.Seal none = refl
no_reading_ask channels caller asks.Meet none = refl

no_reading : (channels : ℕ) (asked : Asked) → caller_of asked ≡ None → reading_of channels asked ≡ None
no_reading channels (Bad reason) none = refl
no_reading channels (Given request) none = no_reading_ask channels request.caller request.what none
no_reading channels Finish none = refl

pub some_of_none : {X : Type 0} (P : X → Type 0) (o : Option X) → o ≡ None → IfSome o P
some_of_none P o is = subst (λ x. IfSome x P) (sym is) tt

-- a meet that was answered as one is no line of a phase
meet_draws : (start : Start) (request : Request) (answer : Answer) → IsAnswerTo start asks.Meet answer → RefusedRightly (Given request) answer → met_of answer ≡ None → drawn answer ≡ []
meet_draws start request answers.Created kind refusal unmet = refl
meet_draws start request (answers.Wrote reply) kind refusal unmet = absurd kind
meet_draws start request (answers.Hits now guarantee ts hits) kind refusal unmet = absurd kind
meet_draws start request (answers.Found now guarantee ts row) kind refusal unmet = absurd kind
meet_draws start request (answers.Pending now guarantee channel tick) kind refusal unmet = absurd kind
meet_draws start request (answers.Ticked ticks) kind refusal unmet = absurd kind
meet_draws start request (answers.Sealed seals) kind refusal unmet = absurd kind
meet_draws start request (answers.Met reply) kind refusal unmet = cc
meet_draws start request (answers.End reply) kind refusal unmet = absurd kind
meet_draws start request (answers.Refused reason) kind refusal unmet = refl

ask_draws : (start : Start) (request : Request) (ask : Ask) (answer : Answer) → caller_in request.caller ask ≡ None → IsAnswerTo start ask answer → RefusedRightly (Given request) answer → met_of answer ≡ None → drawn answer ≡ []
ask_draws start request (asks.Write write) answer none kind refusal unmet = cc
ask_draws start request (asks.Search query level wait) answer none kind refusal unmet = cc
ask_draws start request (asks.Get key level wait) answer none kind refusal unmet = cc
ask_draws start request asks.Tick answer none kind refusal unmet = cc
ask_draws start request asks.Seal answer none kind refusal unmet = cc
ask_draws start request asks.Meet answer none kind refusal unmet = meet_draws start request answer kind refusal unmet

end_draws : (start : Start) (answer : Answer) → IsOfKind start Finish answer → met_of answer ≡ None → drawn answer ≡ []
end_draws start (answers.End reply) kind unmet = cc
end_draws start answer kind unmet = absurd kind

pub no_draws : (start : Start) (asked : Asked) (answer : Answer) → caller_of asked ≡ None → IsOfKind start asked answer → RefusedRightly asked answer → met_of answer ≡ None
    → drawn answer ≡ []
no_draws start (Bad reason) answer none kind refusal unmet = ap drawn refusal
no_draws start (Given request) answer none kind refusal unmet = ask_draws start request request.what answer none kind refusal unmet
no_draws start Finish answer none kind refusal unmet = end_draws start answer kind unmet

order_of_none : (past : Past) (answer : Answer) → drawn answer ≡ [] → InOrder past answer
order_of_none past answer is = record {
  rising = subst Rising (sym is) tt;
  after_meet = subst (Each (λ n. past.last_meet < n)) (sym is) tt;
  after_caller = subst (Each (λ n. past.last_stamp < n)) (sym is) tt;
}

-- ---- the answers of a phase by the logs of its channels

replied_whole : (start : Start) (logs : ℕ → List Entry) (log : List Entry) (line : Line) → IsWhole start.channels logs log → RepliedByChannel start.channels logs line.asked line.answer → Replied log line.asked line.answer
replied_whole start logs log line whole replied =
    some_implied
    (λ written. AllZip (λ change what. what ≡ reply (logs (channel_of start.channels (key_of change))) written.ts change) (changes_of line.asked) written.replies)
    (λ written. AllZip (λ change what. what ≡ reply log written.ts change) (changes_of line.asked) written.replies)
    (λ written. zip_implied (λ change what. what ≡ reply (logs (channel_of start.channels (key_of change))) written.ts change) (λ change what. what ≡ reply log written.ts change)
    (λ change what is. is ∙ ap (told_of change) (sym (same_was_live log (logs (channel_of start.channels (key_of change))) written.ts change (whole (key_of change)))))
    (changes_of line.asked) written.replies)
    (written_of line.answer) replied

shows_whole : (start : Start) (logs : ℕ → List Entry) (log : List Entry) (ask : Ask) (answer : Answer) → IsWhole start.channels logs log → ShowsChannels start logs ask answer → ShowsContent start.plan log ask answer
shows_whole start logs log (asks.Search query level wait) (answers.Hits now guarantee ts hits) whole shows =
    shows.2 ∙ same_scan shows.0 log ts.0 start.plan query (λ key. shows.1 key ∙ sym (whole key))
shows_whole start logs log (asks.Get key level wait) (answers.Found now guarantee ts row) whole shows =
    shows ∙ sym (same_row log (logs (channel_of start.channels key.0)) ts.0 key.0 (whole key.0))
shows_whole start logs log ask answer whole shows = tt

content_whole : (start : Start) (logs : ℕ → List Entry) (log : List Entry) (asked : Asked) (answer : Answer) → IsWhole start.channels logs log → ContentByChannel start logs asked answer
    → HasContent start.plan log asked answer
content_whole start logs log (Given request) answer whole content = shows_whole start logs log request.what answer whole content
content_whole start logs log asked answer whole content = tt

each_any : (ns : List ℕ) → Each (λ n. ⊤) ns
each_any [] = tt
each_any (n ∷ ns) = (tt, each_any ns)

lt_later : (n a b : ℕ) → a ≤ b → n < a → n < b
lt_later n a b more low = omega arith

-- ---- a phase behind the lines before it

-- the lines so far are legal, and the values are theirs
pub record Stand (start : Start) (running : Running) (lines : List Line) : Type 0 where
  pub sofar : SoFar start running.clock lines
  pub met : running.met ≡ meet_behind start.m0 lines
  pub below : running.met < running.clock
  pub written : (caller : ℕ) → running.written caller ≡ write_behind 0 (lines_of (Some caller) lines)
  pub whole : IsWhole start.channels running.logs (printed_log start lines)
  pub events : (channel : ℕ) → printed_events start channel lines ≡ running.events channel
  pub failures : running.failures ≡ phase_failures 0 lines

-- what is known of a line of a phase, behind the lines of the phase before it
record Behind (start : Start) (old new : Running) (pre : List Line) (line : Line) : Type 0 where
  called : OfCaller (λ caller. Called start.channels old.met (old.written caller)) pre line
  unmet : AreUnmet pre
  here : InPhase start old new line

module _ (start : Start) (old new : Running) (before : List Line) (stand : Stand start old before) (settled : Settled old.met before) where
  within : (pre : List Line) (caller : ℕ) → AreUnmet pre → IsWithin (past_for start (before ++ pre) (Some caller)) (past_in_phase start.channels old.met (old.written caller) (lines_of (Some caller) pre))
  within pre caller unmet = past_within start old.met (old.written caller) caller before pre stand.met settled (stand.written caller) unmet

  level_by : (pre : List Line) (line : Line) (who : Option ℕ) → caller_of line.asked ≡ who → Behind start old new pre line → HasLevel start.channels (past_for start (before ++ pre) who) line.asked line.answer
  level_by pre line None is behind = some_of_none (ReadsAt start.channels (past_for start (before ++ pre) None) line.answer) (reading_of start.channels line.asked) (no_reading start.channels line.asked is)
  level_by pre line (Some caller) is behind =
      level_within start.channels (past_for start (before ++ pre) (Some caller)) (past_in_phase start.channels old.met (old.written caller) (lines_of (Some caller) pre)) line.asked line.answer
      (within pre caller behind.unmet) (behind.called caller is).level

  order_by : (pre : List Line) (line : Line) (who : Option ℕ) → caller_of line.asked ≡ who → Behind start old new pre line → InOrder (past_for start (before ++ pre) who) line.answer
  order_by pre line None is behind =
      order_of_none (past_for start (before ++ pre) None) line.answer (no_draws start line.asked line.answer is behind.here.kind behind.here.refusal behind.here.unmet)
  order_by pre line (Some caller) is behind =
      order_within (past_for start (before ++ pre) (Some caller)) (past_in_phase start.channels old.met (old.written caller) (lines_of (Some caller) pre)) line.answer
      (within pre caller behind.unmet) (behind.called caller is).order

  pending_by : (pre : List Line) (line : Line) (who : Option ℕ) → caller_of line.asked ≡ who → Behind start old new pre line → PendingRightly start.channels (past_for start (before ++ pre) who) line.asked line.answer
  pending_by pre line None is behind =
      some_of_none (λ reading. IfSome (late_of line.answer) (IsPending start.channels (past_for start (before ++ pre) None) reading)) (reading_of start.channels line.asked) (no_reading start.channels line.asked is)
  pending_by pre line (Some caller) is behind =
      pending_within start.channels (past_for start (before ++ pre) (Some caller)) (past_in_phase start.channels old.met (old.written caller) (lines_of (Some caller) pre)) line.asked line.answer
      (within pre caller behind.unmet) (behind.called caller is).pending

  module _ (block : List Line) (facts : PhaseFacts start old new block) where
    unmet_block : AreUnmet block
    unmet_block = each_implied (InPhase start old new) (λ line. met_of line.answer ≡ None) (λ line here. here.unmet) block facts.lines

    from : AreFrom old.clock block
    from = each_implied (InPhase start old new) (λ line. Each (λ n. old.clock ≤ n) (drawn line.answer)) (λ line here. here.drawn) block facts.lines

    behind : AtEach (Behind start old new) [] block
    behind = at_each_both (λ pre line. OfCaller (λ caller. Called start.channels old.met (old.written caller)) pre line × AreUnmet pre) (Behind start old new) (InPhase start old new)
        (λ pre line both here. record { called = both.0; unmet = both.1; here = here }) [] block
        (at_each_two (OfCaller (λ caller. Called start.channels old.met (old.written caller))) (λ pre line. AreUnmet pre)
        (λ pre line. OfCaller (λ caller. Called start.channels old.met (old.written caller)) pre line × AreUnmet pre) (λ pre line one two. (one, two)) [] block
        (callers_together (λ caller. Called start.channels old.met (old.written caller)) [] block facts.callers)
        (at_each_prefix (λ line. met_of line.answer ≡ None) [] block tt unmet_block))
        facts.lines

    with_block : (P : List Line → Line → Type 0) → ((pre : List Line) (line : Line) → Behind start old new pre line → P (before ++ pre) line) → AtEach P before block
    with_block P f = subst (λ b. AtEach P b block) (append-nil before) (at_each_behind P (Behind start old new) before f [] block behind)

    whole_after : IsWhole start.channels new.logs (printed_log start (before ++ block))
    whole_after key =
        ap (of_key key) (printed_log-blocks start old.clock before block stand.sofar.stamped from)
        ∙ filter-append (λ entry. eq_by_cmp int_cmp key (key_of entry.write)) (printed_log start before) (ordered (λ e. e.ts.0) (flat_map entries_of block))
        ∙ ap (λ es. es ++ of_key key (ordered (λ e. e.ts.0) (flat_map entries_of block))) (stand.whole key)
        ∙ ap (λ es. of_key key (old.logs (channel_of start.channels key)) ++ es) (sym (facts.entries key))
        ∙ sym (filter-append (λ entry. eq_by_cmp int_cmp key (key_of entry.write)) (old.logs (channel_of start.channels key)) (facts.more (channel_of start.channels key)))
        ∙ sym (ap (of_key key) (facts.grown (channel_of start.channels key)))

    events_after : (channel : ℕ) → printed_events start channel (before ++ block) ≡ new.events channel
    events_after channel =
        printed_events-blocks start old.clock before block stand.sofar.stamped from channel
        ∙ ap (λ es. es ++ ordered (λ e. e.ts) (flat_map (events_of start.channels channel) block)) (stand.events channel)
        ∙ sym (facts.events channel)

    tails_below : (ts channel : ℕ) → tail_below start.seal_rows new.events ts channel ≡ tail_before start (before ++ block) ts channel
    tails_below ts channel = ap (λ es. walk start.seal_rows (filter (λ event. nat_lt event.ts ts) es)) (sym (events_after channel))

    counted_in : (earlier : List Line) (line : Line) → InPhase start old new line → CountsRightly start (before ++ block) earlier line.answer
    counted_in earlier line here = record {
      sealed = tails_more (tail_below start.seal_rows new.events) (tail_before start (before ++ block)) (λ ts. ⊤) (λ ts channel any. tails_below ts channel) 0 (seals_of line.answer)
          (each_any (map (λ seal. seal.0.0) (seals_of line.answer))) here.sealed;
      met = some_of_none (λ counted. Counts start (printed_log start (before ++ block)) (printed_tail start (before ++ block) counted.ts.0) (phase_failures 0 earlier) counted) (met_of line.answer) here.unmet;
    }

    extends : Extends start old.clock new.clock before block
    extends = record {
      later = facts.later;
      from = from;
      differ = facts.differ;
      stamped = each_implied (InPhase start old new) (λ line. Each (λ n. n < new.clock) (stamps line.answer)) (λ line here. here.stamped) block facts.lines;
      kinds = each_implied (InPhase start old new) (λ line. IsOfKind start line.asked line.answer) (λ line here. here.kind) block facts.lines;
      refusals = each_implied (InPhase start old new) (λ line. RefusedRightly line.asked line.answer) (λ line here. here.refusal) block facts.lines;
      writes = each_implied (InPhase start old new) (λ line. Replied (printed_log start (before ++ block)) line.asked line.answer)
          (λ line here. replied_whole start new.logs (printed_log start (before ++ block)) line whole_after here.replied) block facts.lines;
      content = each_implied (InPhase start old new) (λ line. HasContent start.plan (printed_log start (before ++ block)) line.asked line.answer)
          (λ line here. content_whole start new.logs (printed_log start (before ++ block)) line.asked line.answer whole_after here.content) block facts.lines;
      levels = with_block (λ earlier line. HasLevel start.channels (past_of start earlier line) line.asked line.answer) (λ pre line is. level_by pre line (caller_of line.asked) refl is);
      order = with_block (λ earlier line. InOrder (past_of start earlier line) line.answer) (λ pre line is. order_by pre line (caller_of line.asked) refl is);
      pending = with_block (λ earlier line. PendingRightly start.channels (past_of start earlier line) line.asked line.answer) (λ pre line is. pending_by pre line (caller_of line.asked) refl is);
      meets = with_block (λ earlier line. CountsRightly start (before ++ block) earlier line.answer) (λ pre line is. counted_in (before ++ pre) line is.here);
    }

    pub phase_stands : Stand start new (before ++ block)
    phase_stands = record {
      sofar = extended start old.clock new.clock before block stand.sofar extends;
      met = facts.met ∙ stand.met ∙ sym (meet_behind-block start.m0 before block unmet_block);
      below = subst (λ m. m < new.clock) (sym facts.met) (lt_later old.met old.clock new.clock facts.later stand.below);
      written = λ caller. facts.written caller ∙ ap (λ ts. write_behind ts (lines_of (Some caller) block)) (stand.written caller) ∙ sym (write_behind-block caller before block);
      whole = whole_after;
      events = events_after;
      failures = facts.failures ∙ ap (λ n. phase_failures n block) stand.failures ∙ sym (phase_failures-append 0 before block);
    }
