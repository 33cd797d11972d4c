-- What a run that has come so far knows of the lines behind it, and how one more line keeps it.
use Rattle.std.proofs.Common.{◌≡◌, ℕ, ◌<◌, ◌≤◌, true, cond, List, [], ◌∷◌, ◌++◌, refl, sym, ap, subst, ◌∙◌, append_assoc, arith}
use Rattle.std.specs.Prelude.{Option, Some, None, IfSome, max}
use Rattle.std.specs.List.{AllByRecursion as Each}
use Rattle.std.proofs.lemmas.List.{append-nil}
use Rattle.hybrid_time.specs.Levels.{guarantee_of}
use Rattle.log_model.specs.declared.logs.Entry.{Entry}
use Rattle.log_model.specs.Logs.{IsFrom}
use Rattle.log_model.proofs.LogLaws.{each-append, each_implied}
use Rattle.answer_lines.specs.declared.answers.Answer.{Answer}
use Rattle.answer_lines.specs.declared.answers.Answer.TheVariants as answers
use Rattle.request_lines.specs.declared.requests.Ask.{Ask}
use Rattle.request_lines.specs.declared.requests.Ask.TheVariants as asks
use Rattle.legal_output.specs.Lines.{Asked, Bad, Given, Finish, Line, Start, Reading, caller_in, caller_of, changes_of, reading_in, reading_of, written_of, drawn, stamps, stated_of, snapshot_of, late_of, seals_of, met_of, IsOfKind, IsAnswerTo}
use Rattle.legal_output.specs.Printed.{Past, past_for, past_of, entries_of, printed_log, printed_events, walk, all_drawn, all_stamps, all_ticks_shown, lines_of, is_caller, meet_behind, meet_or, write_behind, write_or, ticks_shown}
use Rattle.legal_output.specs.Legal.{AtEach, RefusedRightly, Replied, HasContent, HasLevel, ReadsAt, IsGuarantee, CoversKnown, IsFresh, InOrder, IsPending, PendingRightly, HasNumbers, Rising}
use Rattle.legal_output.specs.Runs.{Plain, Serves, Run, IsPlain, past_at, begun}
use Rattle.legal_output.proofs.Grown.{each-push, flat_map-push, at_each-push, differ-append, differ-rising, lines_of_each, each-flat_map, greatest-le, greatest-lt, meet_behind-push, write_behind-push, lines_of-push}
use Rattle.legal_output.proofs.Placed.{entries_hold, drawn_shown, printed_log-push}
use Rattle.legal_output.proofs.Later.{replied-more, content-more}
use Rattle.legal_output.proofs.Tails.{tail_push}

pub record Stands (start : Start) (plain : Plain) (lines : List Line) : Type 0 where
  -- the state is that of the lines
  pub m0 : start.m0 < plain.clock
  pub reached : plain.tick < plain.clock
  pub log : plain.log ≡ printed_log start lines
  pub logged : Each (λ e. e.ts.0 < plain.clock) plain.log
  pub mine : plain.mine ≡ write_behind 0 (lines_of (Some 0) lines)
  pub met : meet_behind start.m0 lines ≤ plain.tick
  pub told : (channel : ℕ) → Each (λ line. Each (λ n. n ≤ plain.tick) (ticks_shown start.channels channel line.asked line.answer)) lines
  pub stamped : Each (λ line. Each (λ n. n < plain.clock) (stamps line.answer)) lines
  pub tails : (channel : ℕ) → channel < start.channels → plain.tail ≡ walk start.seal_rows (printed_events start channel lines)
  -- the lines are right
  pub kinds : Each (λ line. IsOfKind start line.asked line.answer) lines
  pub refusals : Each (λ line. RefusedRightly line.asked line.answer) lines
  pub numbers : HasNumbers start (all_drawn lines)
  pub writes : Each (λ line. Replied plain.log line.asked line.answer) lines
  pub content : Each (λ line. HasContent start.plan plain.log line.asked line.answer) lines
  pub levels : AtEach (λ earlier line. HasLevel start.channels (past_of start earlier line) line.asked line.answer) [] lines
  pub order : AtEach (λ earlier line. InOrder (past_of start earlier line) line.answer) [] lines
  pub plain_kinds : Each (λ line. IsPlain line.answer) lines

pub at_start : (start : Start) (clock : ℕ) → Each (λ e. e.ts.0 < clock) start.base → start.m0 < clock → Stands start (begun start clock) []
at_start start clock base m0 = record {
  m0 = m0;
  reached = m0;
  log = sym (append-nil start.base);
  logged = base;
  mine = refl;
  met = omega arith;
  told = λ channel. tt;
  stamped = tt;
  tails = λ channel there. refl;
  kinds = tt;
  refusals = tt;
  numbers = record { differ = tt; above = tt };
  writes = tt;
  content = tt;
  levels = tt;
  order = tt;
  plain_kinds = tt;
}

lt_later : (n a b : ℕ) → a ≤ b → n < a → n < b
lt_later n a b more low = omega arith

le_later : (n a b : ℕ) → a ≤ b → n ≤ a → n ≤ b
le_later n a b more low = omega arith

lt_over : (a b c n : ℕ) → a ≤ b → b < c → c ≤ n → a < n
lt_over a b c n first second third = omega arith

some_clock : (a b : ℕ) → a < b → 0 < b
some_clock a b low = omega arith

-- a line that no caller asked is told of no write
unwritten_ask : (start : Start) (caller : ℕ) (ask : Ask) (answer : Answer) → caller_in caller ask ≡ None → IsAnswerTo start ask answer → written_of answer ≡ None
unwritten_ask start caller (asks.Write write) answer none kind = cc
unwritten_ask start caller (asks.Search query level wait) answer none kind = cc
unwritten_ask start caller (asks.Get key level wait) answer none kind = cc
unwritten_ask start caller asks.Tick answer none kind = cc
unwritten_ask start caller asks.Seal answer none kind = cc
unwritten_ask start caller asks.Meet answers.Created none kind = refl
unwritten_ask start caller asks.Meet (answers.Wrote reply) none kind = absurd kind
unwritten_ask start caller asks.Meet (answers.Hits now guarantee ts hits) none kind = refl
unwritten_ask start caller asks.Meet (answers.Found now guarantee ts row) none kind = refl
unwritten_ask start caller asks.Meet (answers.Pending now guarantee channel tick) none kind = refl
unwritten_ask start caller asks.Meet (answers.Ticked ticks) none kind = refl
unwritten_ask start caller asks.Meet (answers.Sealed seals) none kind = refl
unwritten_ask start caller asks.Meet (answers.Met reply) none kind = refl
unwritten_ask start caller asks.Meet (answers.End reply) none kind = refl
unwritten_ask start caller asks.Meet (answers.Refused reason) none kind = refl

unwritten : (start : Start) (asked : Asked) (answer : Answer) → caller_of asked ≡ None → IsOfKind start asked answer → RefusedRightly asked answer → written_of answer ≡ None
unwritten start (Bad reason) answer none kind refusal = ap written_of refusal
unwritten start (Given request) answer none kind refusal = unwritten_ask start request.caller request.what answer none kind
unwritten start Finish answers.Created none kind refusal = refl
unwritten start Finish (answers.Wrote reply) none kind refusal = absurd kind
unwritten start Finish (answers.Hits now guarantee ts hits) none kind refusal = refl
unwritten start Finish (answers.Found now guarantee ts row) none kind refusal = refl
unwritten start Finish (answers.Pending now guarantee channel tick) none kind refusal = refl
unwritten start Finish (answers.Ticked ticks) none kind refusal = refl
unwritten start Finish (answers.Sealed seals) none kind refusal = refl
unwritten start Finish (answers.Met reply) none kind refusal = refl
unwritten start Finish (answers.End reply) none kind refusal = refl
unwritten start Finish (answers.Refused reason) none kind refusal = refl

pub plain_meet : (answer : Answer) → IsPlain answer → met_of answer ≡ None
plain_meet answers.Created plain = refl
plain_meet (answers.Wrote reply) plain = refl
plain_meet (answers.Hits now guarantee ts hits) plain = refl
plain_meet (answers.Found now guarantee ts row) plain = absurd plain
plain_meet (answers.Pending now guarantee channel tick) plain = absurd plain
plain_meet (answers.Ticked ticks) plain = refl
plain_meet (answers.Sealed seals) plain = absurd plain
plain_meet (answers.Met reply) plain = absurd plain
plain_meet (answers.End reply) plain = absurd plain
plain_meet (answers.Refused reason) plain = refl

plain_late : (answer : Answer) → IsPlain answer → late_of answer ≡ None
plain_late answers.Created plain = refl
plain_late (answers.Wrote reply) plain = refl
plain_late (answers.Hits now guarantee ts hits) plain = refl
plain_late (answers.Found now guarantee ts row) plain = absurd plain
plain_late (answers.Pending now guarantee channel tick) plain = absurd plain
plain_late (answers.Ticked ticks) plain = refl
plain_late (answers.Sealed seals) plain = absurd plain
plain_late (answers.Met reply) plain = absurd plain
plain_late (answers.End reply) plain = absurd plain
plain_late (answers.Refused reason) plain = refl

pub plain_seals : (answer : Answer) → IsPlain answer → seals_of answer ≡ []
plain_seals answers.Created plain = refl
plain_seals (answers.Wrote reply) plain = refl
plain_seals (answers.Hits now guarantee ts hits) plain = refl
plain_seals (answers.Found now guarantee ts row) plain = absurd plain
plain_seals (answers.Pending now guarantee channel tick) plain = absurd plain
plain_seals (answers.Ticked ticks) plain = refl
plain_seals (answers.Sealed seals) plain = absurd plain
plain_seals (answers.Met reply) plain = absurd plain
plain_seals (answers.End reply) plain = absurd plain
plain_seals (answers.Refused reason) plain = refl

none_holds : {X : Type 0} (P : X → Type 0) (o : Option X) → o ≡ None → IfSome o P
none_holds P o is = subst (λ x. IfSome x P) (sym is) tt

some_each : {X : Type 0} (P : X → Type 0) → ((x : X) → P x) → (o : Option X) → IfSome o P
some_each P holds None = tt
some_each P holds (Some x) = holds x

-- none of its lines is pending
pub plain_pending : (channels : ℕ) (past : Past) (asked : Asked) (answer : Answer) → IsPlain answer → PendingRightly channels past asked answer
plain_pending channels past asked answer plain = some_each (λ reading. IfSome (late_of answer) (IsPending channels past reading))
    (λ reading. none_holds (IsPending channels past reading) (late_of answer) (plain_late answer plain)) (reading_of channels asked)

-- the last write of the one caller there is
own_write : (start : Start) (old new : Plain) (lines : List Line) (line : Line) (who : Option ℕ) → caller_of line.asked ≡ who
    → IfSome who (λ caller. caller ≡ 0) → old.mine ≡ write_behind 0 (lines_of (Some 0) lines)
    → Serves start old line.asked line.answer new → new.mine ≡ write_behind 0 (lines_of (Some 0) (lines ++ line ∷ []))
own_write start old new lines line None is alone before serves =
    serves.mine
    ∙ ap (write_or old.mine) (unwritten start line.asked line.answer is serves.kind serves.refusal)
    ∙ before
    ∙ sym (ap (write_behind 0) (lines_of-push 0 lines line ∙ ap (λ w. lines_of (Some 0) lines ++ cond (is_caller 0 w) (line ∷ []) []) is ∙ append-nil (lines_of (Some 0) lines)))
own_write start old new lines line (Some caller) is alone before serves =
    let mine : is_caller 0 (caller_of line.asked) ≡ true = ap (is_caller 0) (is ∙ ap (λ c. Some c) alone) in
    serves.mine
    ∙ ap (λ m. write_or m (written_of line.answer)) before
    ∙ sym (write_behind-push 0 (lines_of (Some 0) lines) line)
    ∙ sym (ap (write_behind 0) (lines_of-push 0 lines line ∙ ap (λ b. lines_of (Some 0) lines ++ cond b (line ∷ []) []) mine))

max_most : (a b c : ℕ) → a ≤ c → b ≤ c → max a b ≤ c
max_most a b c left right = omega arith

-- a caller knows no more than the last tick
known_most : (start : Start) (plain : Plain) (lines : List Line) (who : Option ℕ) (channel : ℕ) → Stands start plain lines → (past_for start lines who).known_tick channel ≤ plain.tick
known_most start plain lines who channel stands =
    max_most _ _ plain.tick stands.met (greatest-le plain.tick (all_ticks_shown start.channels channel (lines_of who lines))
    (each-flat_map (λ n. n ≤ plain.tick) (λ other. ticks_shown start.channels channel other.asked other.answer) (lines_of who lines)
    (lines_of_each (λ other. Each (λ n. n ≤ plain.tick) (ticks_shown start.channels channel other.asked other.answer)) who lines (stands.told channel))))

-- a caller was told of nothing at or above the clock
told_below : (start : Start) (plain : Plain) (lines : List Line) (who : Option ℕ) → Stands start plain lines → (past_for start lines who).last_stamp < plain.clock
told_below start plain lines who stands =
    greatest-lt plain.clock (all_stamps (lines_of who lines)) (some_clock plain.tick plain.clock stands.reached)
    (each-flat_map (λ n. n < plain.clock) (λ other. stamps other.answer) (lines_of who lines)
    (lines_of_each (λ other. Each (λ n. n < plain.clock) (stamps other.answer)) who lines stands.stamped))

some_implied : {X : Type 0} (P Q : X → Type 0) → ((x : X) → P x → Q x) → (o : Option X) → IfSome o P → IfSome o Q
some_implied P Q f None holds = tt
some_implied P Q f (Some x) holds = f x holds

covers_past : (channels : ℕ) (plain : Plain) (past : Past) → ((channel : ℕ) → past.known_tick channel ≤ plain.tick) → (channel : Option ℕ) (ts : ℕ)
    → CoversKnown channels (past_at plain) channel ts → CoversKnown channels past channel ts
covers_past channels plain past known None ts covers = (covers.0, covers.1, le_later (past.known_tick covers.0) plain.tick ts covers.2 (known covers.0))
covers_past channels plain past known (Some channel) ts covers = le_later (past.known_tick channel) plain.tick ts covers (known channel)

reads_past : (channels : ℕ) (plain : Plain) (past : Past) (answer : Answer) (reading : Reading) → plain.mine ≡ past.last_write → ((channel : ℕ) → past.known_tick channel ≤ plain.tick)
    → ReadsAt channels (past_at plain) answer reading → ReadsAt channels past answer reading
reads_past channels plain past answer reading mine known reads = record {
  guarantee = some_implied (IsGuarantee (past_at plain) reading.level) (IsGuarantee past reading.level) (λ stated is. is ∙ ap (guarantee_of reading.level stated.now) mine) (stated_of answer) reads.guarantee;
  fresh = some_implied (IsFresh channels (past_at plain) reading) (IsFresh channels past reading)
      (λ snapshot fresh. record { guaranteed = fresh.guaranteed; known = covers_past channels plain past known reading.channel snapshot.ts fresh.known }) (snapshot_of answer) reads.fresh;
}

-- the caller of a request that reads is the one caller there is
level_ask : (start : Start) (plain : Plain) (lines : List Line) → Stands start plain lines → (caller : ℕ) (ask : Ask) (answer : Answer) → IfSome (caller_in caller ask) (λ c. c ≡ 0)
    → IfSome (reading_in start.channels ask) (ReadsAt start.channels (past_at plain) answer)
    → IfSome (reading_in start.channels ask) (ReadsAt start.channels (past_for start lines (caller_in caller ask)) answer)
level_ask start plain lines stands caller (asks.Write write) answer alone has = tt
level_ask start plain lines stands caller (asks.Search query level wait) answer alone has =
    reads_past start.channels plain (past_for start lines (Some caller)) answer _
    (stands.mine ∙ ap (λ c. write_behind 0 (lines_of (Some c) lines)) (sym alone)) (λ channel. known_most start plain lines (Some caller) channel stands) has
level_ask start plain lines stands caller (asks.Get key level wait) answer alone has =
    reads_past start.channels plain (past_for start lines (Some caller)) answer _
    (stands.mine ∙ ap (λ c. write_behind 0 (lines_of (Some c) lines)) (sym alone)) (λ channel. known_most start plain lines (Some caller) channel stands) has
level_ask start plain lines stands caller asks.Tick answer alone has = tt
level_ask start plain lines stands caller asks.Seal answer alone has = tt
level_ask start plain lines stands caller asks.Meet answer alone has = tt

level_past : (start : Start) (plain : Plain) (lines : List Line) → Stands start plain lines → (asked : Asked) (answer : Answer) → IfSome (caller_of asked) (λ caller. caller ≡ 0)
    → HasLevel start.channels (past_at plain) asked answer → HasLevel start.channels (past_for start lines (caller_of asked)) asked answer
level_past start plain lines stands (Bad reason) answer alone has = tt
level_past start plain lines stands Finish answer alone has = tt
level_past start plain lines stands (Given request) answer alone has = level_ask start plain lines stands request.caller request.what answer alone has

in_order : (start : Start) (plain : Plain) (lines : List Line) (who : Option ℕ) (answer : Answer) → Stands start plain lines → Rising (drawn answer) → Each (λ n. plain.clock ≤ n) (drawn answer)
    → InOrder (past_for start lines who) answer
in_order start plain lines who answer stands rising above = record {
  rising = rising;
  after_meet = each_implied (λ n. plain.clock ≤ n) (λ n. meet_behind start.m0 lines < n) (λ n high. lt_over (meet_behind start.m0 lines) plain.tick plain.clock n stands.met stands.reached high) (drawn answer) above;
  after_caller = each_implied (λ n. plain.clock ≤ n) (λ n. (past_for start lines who).last_stamp < n) (λ n high. lt_later (past_for start lines who).last_stamp plain.clock n high (told_below start plain lines who stands)) (drawn answer) above;
}

each_both : {X : Type 0} (P Q R : X → Type 0) → ((x : X) → P x → Q x → R x) → (xs : List X) → Each P xs → Each Q xs → Each R xs
each_both P Q R f [] ps qs = tt
each_both P Q R f (x ∷ xs) ps qs = (f x ps.0 qs.0, each_both P Q R f xs ps.1 qs.1)

more_numbers : (start : Start) (plain : Plain) (lines : List Line) (line : Line) → Stands start plain lines → Rising (drawn line.answer) → Each (λ n. plain.clock ≤ n) (drawn line.answer)
    → HasNumbers start (all_drawn (lines ++ line ∷ []))
more_numbers start plain lines line stands rising above =
    let low : Each (λ n. n < plain.clock) (all_drawn lines) = each-flat_map (λ n. n < plain.clock) (λ other. drawn other.answer) lines
    (each_implied (λ other. Each (λ n. n < plain.clock) (stamps other.answer)) (λ other. Each (λ n. n < plain.clock) (drawn other.answer))
    (λ other all. drawn_shown (λ n. n < plain.clock) other.answer all) lines stands.stamped) in
    subst (HasNumbers start) (sym (flat_map-push (λ other. drawn other.answer) lines line)) (record {
      differ = differ-append plain.clock (all_drawn lines) (drawn line.answer) stands.numbers.differ (differ-rising (drawn line.answer) rising) low above;
      above = each-append (λ n. start.m0 < n) (all_drawn lines) (drawn line.answer) stands.numbers.above
          (each_implied (λ n. plain.clock ≤ n) (λ n. start.m0 < n) (λ n high. lt_later start.m0 plain.clock n high stands.m0) (drawn line.answer) above);
    })

pub one_more : (start : Start) (old new : Plain) (lines : List Line) (line : Line) → Stands start old lines → Serves start old line.asked line.answer new → Stands start new (lines ++ line ∷ [])
one_more start old new lines line stands serves =
    let more : List Entry = entries_of line in
    let high : IsFrom old.clock more = entries_hold (λ n. old.clock ≤ n) (changes_of line.asked) line.answer serves.drawn_above in
    record {
      m0 = lt_later start.m0 old.clock new.clock serves.later stands.m0;
      reached = serves.reached;
      log = serves.log ∙ ap (λ l. l ++ more) stands.log ∙ sym (printed_log-push start old.clock lines line stands.stamped serves.drawn_above);
      logged = subst (Each (λ e. e.ts.0 < new.clock)) (sym serves.log)
          (each-append (λ e. e.ts.0 < new.clock) old.log more
          (each_implied (λ e. e.ts.0 < old.clock) (λ e. e.ts.0 < new.clock) (λ e low. lt_later e.ts.0 old.clock new.clock serves.later low) old.log stands.logged)
          (entries_hold (λ n. n < new.clock) (changes_of line.asked) line.answer (drawn_shown (λ n. n < new.clock) line.answer serves.stamped_below)));
      mine = own_write start old new lines line (caller_of line.asked) refl serves.alone stands.mine serves;
      met = subst (λ m. m ≤ new.tick) (sym (meet_behind-push start.m0 lines line ∙ ap (meet_or (meet_behind start.m0 lines)) (plain_meet line.answer serves.plain)))
          (le_later (meet_behind start.m0 lines) old.tick new.tick serves.tick stands.met);
      told = λ channel. each-push (λ other. Each (λ n. n ≤ new.tick) (ticks_shown start.channels channel other.asked other.answer)) lines line
          (each_implied (λ other. Each (λ n. n ≤ old.tick) (ticks_shown start.channels channel other.asked other.answer)) (λ other. Each (λ n. n ≤ new.tick) (ticks_shown start.channels channel other.asked other.answer))
          (λ other all. each_implied (λ n. n ≤ old.tick) (λ n. n ≤ new.tick) (λ n low. le_later n old.tick new.tick serves.tick low) (ticks_shown start.channels channel other.asked other.answer) all) lines (stands.told channel))
          (serves.told channel);
      stamped = each-push (λ other. Each (λ n. n < new.clock) (stamps other.answer)) lines line
          (each_implied (λ other. Each (λ n. n < old.clock) (stamps other.answer)) (λ other. Each (λ n. n < new.clock) (stamps other.answer))
          (λ other all. each_implied (λ n. n < old.clock) (λ n. n < new.clock) (λ n low. lt_later n old.clock new.clock serves.later low) (stamps other.answer) all) lines stands.stamped)
          serves.stamped_below;
      tails = λ channel there. tail_push start old.clock channel lines line old.tail new.tail stands.stamped serves.drawn_above (plain_seals line.answer serves.plain)
          (stands.tails channel there) (serves.tail channel there);
      kinds = each-push (λ other. IsOfKind start other.asked other.answer) lines line stands.kinds serves.kind;
      refusals = each-push (λ other. RefusedRightly other.asked other.answer) lines line stands.refusals serves.refusal;
      numbers = more_numbers start old lines line stands serves.rising serves.drawn_above;
      writes = each-push (λ other. Replied new.log other.asked other.answer) lines line
          (each_both (λ other. Each (λ n. n < old.clock) (stamps other.answer)) (λ other. Replied old.log other.asked other.answer) (λ other. Replied new.log other.asked other.answer)
          (λ other low right. subst (λ l. Replied l other.asked other.answer) (sym serves.log) (replied-more old.log more old.clock other.asked other.answer low high right)) lines stands.stamped stands.writes)
          serves.replied;
      content = each-push (λ other. HasContent start.plan new.log other.asked other.answer) lines line
          (each_both (λ other. Each (λ n. n < old.clock) (stamps other.answer)) (λ other. HasContent start.plan old.log other.asked other.answer) (λ other. HasContent start.plan new.log other.asked other.answer)
          (λ other low right. subst (λ l. HasContent start.plan l other.asked other.answer) (sym serves.log) (content-more start.plan old.log more old.clock other.asked other.answer low high right)) lines stands.stamped stands.content)
          serves.content;
      levels = at_each-push (λ earlier other. HasLevel start.channels (past_of start earlier other) other.asked other.answer) [] lines line stands.levels
          (level_past start old lines stands line.asked line.answer serves.alone serves.level);
      order = at_each-push (λ earlier other. InOrder (past_of start earlier other) other.answer) [] lines line stands.order
          (in_order start old lines (caller_of line.asked) line.answer stands serves.rising serves.drawn_above);
      plain_kinds = each-push (λ other. IsPlain other.answer) lines line stands.plain_kinds serves.plain;
    }

-- a run from where it stands to its end
pub ran : (start : Start) (old new : Plain) (before lines : List Line) → Stands start old before → Run start old lines new → Stands start new (before ++ lines)
ran start old new before [] stands run = subst (λ l. Stands start new l) (sym (append-nil before)) (subst (λ p. Stands start p before) (sym run) stands)
ran start old new before (line ∷ lines) stands run =
    subst (Stands start new) (append_assoc before (line ∷ []) lines)
    (ran start run.0 new (before ++ line ∷ []) lines (one_more start old run.0 before line stands run.1) run.2)

-- a run may be told line by line
pub run-push : (start : Start) (old mid new : Plain) (lines : List Line) (line : Line) → Run start old lines mid → Serves start mid line.asked line.answer new → Run start old (lines ++ line ∷ []) new
run-push start old mid new [] line run serves = (new, subst (λ p. Serves start p line.asked line.answer new) run serves, refl)
run-push start old mid new (other ∷ lines) line run serves = (run.0, run.1, run-push start run.0 mid new lines line run.2 serves)
