-- What the engine keeps beside its account.
use Rattle.std.proofs.Common.{◌≡◌, ℕ, ◌+◌, Bool, List, [], ◌∷◌, ◌++◌, Ok, refl, sym, ap, subst}
use Rattle.std.specs.Prelude.{Option, Some, None, Result, IfOk}
use Rattle.std.specs.Option.{is_some}
use Rattle.row_types.specs.declared.allocation.Memory.{Memory}
use Rattle.coarse_lists.specs.declared.collections.Collection.{Collection}
use Rattle.request_lines.specs.Headers.{header_of}
use Rattle.phase_reading.specs.Engines.{CanTake, CanRun, CanEnd, AnswersFirst, Takes, AnswersPhase, AnswersEnd}
use Rattle.phase_engine.specs.declared.running.Running.{Running}
use Rattle.phase_engine.specs.declared.running.Settled.{Settled}
use Rattle.phase_engine.specs.Outputs.{begins, meets}
use Rattle.phase_engine.specs.Accounts.{IsAccount, IsRunning}
use Rattle.phase_engine.specs.Steps.{CanSettle, Tells, IsKept}

-- the engine has not begun
none_yet : (least : ℕ) (before : Option Running) (output : List ℕ) → IsAccount least before [] [] output → output ≡ []
none_yet least None output told = told.2
none_yet least (Some running) output told = let split : [] ≡ told.header ∷ told.lines = told.split in absurd (cc)

module _ {least : ℕ} {may : Running → Type 0} {did : Running → Result Settled Memory → Type 0} {before : Option Running} where
  of_kept : (running : Running) (done waiting : List (List ℕ)) (output : List ℕ) → before ≡ Some running → IsKept least may did before done waiting output → IsRunning least running done waiting output
  of_kept running done waiting output is kept = subst (λ (o : Option Running). IsAccount least o done waiting output) is kept.account

  to_kept : (after : Running) (was done now waiting : List (List ℕ)) (printed output : List ℕ) → IsKept least may did before was now printed → IsRunning least after done waiting output → IsKept least may did (Some after) done waiting output
  to_kept after was done now waiting printed output kept s = record { account = s; may_settle = kept.may_settle; settles = kept.settles }

  pub can_take : (running : Running) → before ≡ Some running → CanTake (IsKept least may did before) meets → CanTake (IsRunning least running) meets
  can_take running is t = record {
    header = t.header;
    done = t.done;
    waiting = t.waiting;
    output = t.output;
    told = of_kept running (t.header ∷ t.done) t.waiting t.output is t.told;
    room = t.room;
    plain = t.plain;
  }

  pub can_run : (running : Running) → before ≡ Some running → CanRun (IsKept least may did before) meets → CanRun (IsRunning least running) meets
  can_run running is r = record {
    header = r.header;
    done = r.done;
    phase = r.phase;
    meet = r.meet;
    output = r.output;
    told = of_kept running (r.header ∷ r.done) (r.phase ++ r.meet ∷ []) r.output is r.told;
    few = r.few;
    plain = r.plain;
    meets_there = r.meets_there;
  }

  pub can_end : (running : Running) → before ≡ Some running → CanEnd (IsKept least may did before) meets → CanEnd (IsRunning least running) meets
  can_end running is e = record {
    header = e.header;
    done = e.done;
    waiting = e.waiting;
    output = e.output;
    told = of_kept running (e.header ∷ e.done) e.waiting e.output is e.told;
    few = e.few;
    plain = e.plain;
  }

  pub began : (after : Running) (collection : Collection) (line text : List ℕ) → header_of line ≡ Some collection → IsRunning least after (line ∷ []) [] text
      → AnswersFirst (IsKept least may did before) (IsKept least may did (Some after)) begins line text
  began after collection line text is s = (
    ap is_some is,
    λ output kept. to_kept after [] (line ∷ []) [] [] output (output ++ text) kept
        (subst (λ (o : List ℕ). IsRunning least after (line ∷ []) [] (o ++ text)) (sym (none_yet least before output kept.account)) s),
  )

  pub took : (running after : Running) (line : List ℕ) (meet : Bool) → before ≡ Some running → Takes (IsRunning least running) (IsRunning least after) meets line meet
      → Takes (IsKept least may did before) (IsKept least may did (Some after)) meets line meet
  took running after line meet is takes header done waiting output kept =
      let t = takes header done waiting output (of_kept running (header ∷ done) waiting output is kept) in
      (t.0, to_kept after (header ∷ done) (header ∷ done) waiting (waiting ++ line ∷ []) output output kept t.1)

  pub ran_kept : (running after : Running) (text : List ℕ) → before ≡ Some running → AnswersPhase (IsRunning least running) (IsRunning least after) text
      → AnswersPhase (IsKept least may did before) (IsKept least may did (Some after)) text
  ran_kept running after text is answers done waiting output kept =
      to_kept after done (done ++ waiting) waiting [] output (output ++ text) kept (answers done waiting output (of_kept running done waiting output is kept))

  pub ended_kept : (whole : List (List ℕ) → List ℕ → Type 0) (running : Running) (text : List ℕ) → before ≡ Some running → AnswersEnd (IsRunning least running) whole text
      → AnswersEnd (IsKept least may did before) whole text
  ended_kept whole running text is answers done waiting output kept = answers done waiting output (of_kept running done waiting output is kept)
