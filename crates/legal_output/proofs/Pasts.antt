-- What is right where a caller knows much is right where it knows less.
use Rattle.std.proofs.Common.{ℕ, zero, suc, ◌<◌, ◌≤◌, Bool, true, false, cond, List, [], ◌∷◌, ◌++◌, sym, ap, subst, ◌∙◌, arith}
use Rattle.std.specs.Prelude.{Option, Some, None, IfSome, max, nat_eq}
use Rattle.std.specs.List.{AllByRecursion as Each}
use Rattle.hybrid_time.specs.Levels.{guarantee_of}
use Rattle.log_model.proofs.LogLaws.{each-append, each_implied}
use Rattle.answer_lines.specs.declared.answers.Answer.{Answer}
use Rattle.answer_lines.specs.declared.answers.Answer.TheVariants as answers
use Rattle.legal_output.specs.Lines.{Asked, Reading, Snapshot, reading_of, needs, stated_of, snapshot_of, late_of, ticks_of, drawn, stamps}
use Rattle.legal_output.specs.Printed.{Past, only_at, snapshot_shows, late_shows, ticks_shown, greatest}
use Rattle.legal_output.specs.Phases.{IsWithin}
use Rattle.legal_output.specs.Legal.{IsGuarantee, CoversKnown, IsFresh, ReadsAt, HasLevel, InOrder, IsPending, PendingRightly}

pub some_implied : {X : Type 0} (P Q : X → Type 0) → ((x : X) → P x → Q x) → (o : Option X) → IfSome o P → IfSome o Q
some_implied P Q f None holds = tt
some_implied P Q f (Some x) holds = f x holds

le_le : (a b c : ℕ) → a ≤ b → b ≤ c → a ≤ c
le_le a b c low high = omega arith

covers_within : (channels : ℕ) (past other : Past) → IsWithin past other → (channel : Option ℕ) (ts : ℕ) → CoversKnown channels other channel ts → CoversKnown channels past channel ts
covers_within channels past other within None ts covers = (covers.0, covers.1, le_le (past.known_tick covers.0) (other.known_tick covers.0) ts (within.tick covers.0) covers.2)
covers_within channels past other within (Some channel) ts covers = le_le (past.known_tick channel) (other.known_tick channel) ts (within.tick channel) covers

reads_within : (channels : ℕ) (past other : Past) (answer : Answer) (reading : Reading) → IsWithin past other → ReadsAt channels other answer reading → ReadsAt channels past answer reading
reads_within channels past other answer reading within reads = record {
  guarantee = some_implied (IsGuarantee other reading.level) (IsGuarantee past reading.level) (λ stated is. is ∙ ap (guarantee_of reading.level stated.now) within.write) (stated_of answer) reads.guarantee;
  fresh = some_implied (IsFresh channels other reading) (IsFresh channels past reading)
      (λ snapshot fresh. record { guaranteed = fresh.guaranteed; known = covers_within channels past other within reading.channel snapshot.ts fresh.known }) (snapshot_of answer) reads.fresh;
}

pub level_within : (channels : ℕ) (past other : Past) (asked : Asked) (answer : Answer) → IsWithin past other → HasLevel channels other asked answer → HasLevel channels past asked answer
level_within channels past other asked answer within level =
    some_implied (ReadsAt channels other answer) (ReadsAt channels past answer) (λ reading. reads_within channels past other answer reading within) (reading_of channels asked) level

pub pending_within : (channels : ℕ) (past other : Past) (asked : Asked) (answer : Answer) → IsWithin past other → PendingRightly channels other asked answer → PendingRightly channels past asked answer
pending_within channels past other asked answer within pending =
    some_implied (λ reading. IfSome (late_of answer) (IsPending channels other reading)) (λ reading. IfSome (late_of answer) (IsPending channels past reading))
    (λ reading. some_implied (IsPending channels other reading) (IsPending channels past reading)
    (λ late is. record { alone = is.alone; needed = is.needed; known = le_le (past.known_tick late.channel) (other.known_tick late.channel) late.tick (within.tick late.channel) is.known; below = is.below })
    (late_of answer)) (reading_of channels asked) pending

each_both : (P Q R : ℕ → Type 0) → ((n : ℕ) → P n → Q n → R n) → (ns : List ℕ) → Each P ns → Each Q ns → Each R ns
each_both P Q R f [] ps qs = tt
each_both P Q R f (n ∷ ns) ps qs = (f n ps.0 qs.0, each_both P Q R f ns ps.1 qs.1)

above_both : (a b c n : ℕ) → a ≤ max b c → b < n → c < n → a < n
above_both a b c n most left right = omega arith

pub order_within : (past other : Past) (answer : Answer) → IsWithin past other → InOrder other answer → InOrder past answer
order_within past other answer within order = record {
  rising = order.rising;
  after_meet = subst (λ m. Each (λ n. m < n) (drawn answer)) (sym within.met) order.after_meet;
  after_caller = each_both (λ n. other.last_meet < n) (λ n. other.last_stamp < n) (λ n. past.last_stamp < n)
      (λ n left right. above_both past.last_stamp other.last_meet other.last_stamp n within.stamp left right) (drawn answer) order.after_meet order.after_caller;
}

-- ---- what is told is shown

each_if : (Q : ℕ → Type 0) (b : Bool) (n : ℕ) → Q n → Each Q (cond b (n ∷ []) [])
each_if Q true n here = (here, tt)
each_if Q false n here = tt

snapshot_shown : (Q : ℕ → Type 0) (channel : ℕ) (snapshot : Snapshot) (reading : Option Reading) → Q snapshot.ts → Each Q (snapshot_shows channel (Some snapshot) reading)
snapshot_shown Q channel snapshot None here = tt
snapshot_shown Q channel snapshot (Some reading) here = each_if Q (needs reading channel) snapshot.ts here

told_snapshot : (Q : ℕ → Type 0) (channel : ℕ) (answer : Answer) (reading : Option Reading) → Each Q (stamps answer) → Each Q (snapshot_shows channel (snapshot_of answer) reading)
told_snapshot Q channel (answers.Hits now guarantee ts hits) reading all = snapshot_shown Q channel (record { guarantee = guarantee.0; ts = ts.0 }) reading all.1.1.0
told_snapshot Q channel (answers.Found now guarantee ts row) reading all = snapshot_shown Q channel (record { guarantee = guarantee.0; ts = ts.0 }) reading all.1.1.0
told_snapshot Q channel answer reading all = tt

told_late : (Q : ℕ → Type 0) (channel : ℕ) (answer : Answer) → Each Q (stamps answer) → Each Q (late_shows channel (late_of answer))
told_late Q channel (answers.Pending now guarantee late tick) all = each_if Q (nat_eq late channel) tick.0 all.1.1.0
told_late Q channel answer all = tt

only_each : (Q : ℕ → Type 0) (channel : ℕ) (ns : List ℕ) → Each Q ns → Each Q (only_at ns channel)
only_each Q channel [] all = tt
only_each Q zero (n ∷ ns) all = (all.0, tt)
only_each Q (suc channel) (n ∷ ns) all = only_each Q channel ns all.1

told_tick : (Q : ℕ → Type 0) (channel : ℕ) (answer : Answer) → Each Q (stamps answer) → Each Q (only_at (ticks_of answer) channel)
told_tick Q channel (answers.Ticked ticks) all = only_each Q channel (ticks_of (answers.Ticked ticks)) all
told_tick Q channel answer all = tt

pub told_shown : (Q : ℕ → Type 0) (channels channel : ℕ) (asked : Asked) (answer : Answer) → Each Q (stamps answer) → Each Q (ticks_shown channels channel asked answer)
told_shown Q channels channel asked answer all =
    each-append Q (snapshot_shows channel (snapshot_of answer) (reading_of channels asked) ++ late_shows channel (late_of answer)) (only_at (ticks_of answer) channel)
    (each-append Q (snapshot_shows channel (snapshot_of answer) (reading_of channels asked)) (late_shows channel (late_of answer))
    (told_snapshot Q channel answer (reading_of channels asked) all) (told_late Q channel answer all))
    (told_tick Q channel answer all)

-- ---- the greatest

max_first : (n most : ℕ) → n ≤ max n most
max_first n most = omega arith

max_rest : (m n most : ℕ) → m ≤ most → m ≤ max n most
max_rest m n most low = omega arith

pub each_greatest : (ns : List ℕ) → Each (λ n. n ≤ greatest ns) ns
each_greatest [] = tt
each_greatest (n ∷ ns) = (max_first n (greatest ns), each_implied (λ m. m ≤ greatest ns) (λ m. m ≤ max n (greatest ns)) (λ m low. max_rest m n (greatest ns) low) ns (each_greatest ns))
