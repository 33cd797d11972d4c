use Rattle.std.proofs.Common.{◌≡◌, ℕ, subst}
use Rattle.std.specs.Prelude.{OnOk, IfSome}
use Rattle.std.specs.Io.KnownBytes.{Appends}
use Rattle.hybrid_time.specs.Times.{of_moment}
use Rattle.phase_reading.specs.Outputs.{WritesLimited}
use Rattle.phase_reading.specs.Outcomes.{HasDone, StopsAtFault, OfRun, WritesFront}
use Rattle.phase_engine.specs.Outputs.{begins, meets, stopped_at, whole_at}
use Rattle.phase_engine.proofs.serving.serve.Goals as goal

pub returns-clause-done : goal.returns-clause-done
returns-clause-done g c =
    let e : of_moment (g.M.Moments.least c.serve.new.engine.moments.now) ≡ of_moment (g.M.Moments.least c.args.moments.now) = cc (c.serve.ensures.given_back, c.new-engine.ensures.moments) in
    subst (λ (least : ℕ). OnOk c.serve.result (HasDone (whole_at least) begins (g.S.Source.left c.args.source.now) (g.O.Sink.written c.args.sink.now) (g.O.Sink.written c.serve.new.sink))) e c.serve.ensures.done

pub returns-clause-read_so_far : goal.returns-clause-read_so_far
returns-clause-read_so_far g c stop =
    let e : of_moment (g.M.Moments.least c.serve.new.engine.moments.now) ≡ of_moment (g.M.Moments.least c.args.moments.now) = cc (c.serve.ensures.given_back, c.new-engine.ensures.moments) in
    subst (λ (least : ℕ). StopsAtFault (stopped_at least) begins meets (g.S.Source.left c.args.source.now) (g.S.Source.left c.serve.new.source) (g.O.Sink.written c.args.sink.now) (g.O.Sink.written c.serve.new.sink)) e
    (c.serve.ensures.read_so_far stop)

pub returns-clause-phases_written : goal.returns-clause-phases_written
returns-clause-phases_written g c stop =
    let e : of_moment (g.M.Moments.least c.serve.new.engine.moments.now) ≡ of_moment (g.M.Moments.least c.args.moments.now) = cc (c.serve.ensures.given_back, c.new-engine.ensures.moments) in
    subst (λ (least : ℕ). IfSome (g.S.Source.left c.args.source.now) (λ input. WritesLimited (stopped_at least) begins meets input (g.O.Sink.written c.args.sink.now) (g.O.Sink.written c.serve.new.sink))) e
    (c.serve.ensures.phases_written stop)

pub returns-clause-some_phases_written : goal.returns-clause-some_phases_written
returns-clause-some_phases_written g c stop =
    let e : of_moment (g.M.Moments.least c.serve.new.engine.moments.now) ≡ of_moment (g.M.Moments.least c.args.moments.now) = cc (c.serve.ensures.given_back, c.new-engine.ensures.moments) in
    subst (λ (least : ℕ). IfSome (g.S.Source.left c.args.source.now) (λ input. OfRun (stopped_at least) meets input (Appends (g.O.Sink.written c.args.sink.now) (g.O.Sink.written c.serve.new.sink)))) e
    (c.serve.ensures.some_phases_written stop)

pub returns-clause-prefix_written : goal.returns-clause-prefix_written
returns-clause-prefix_written g c stop =
    let e : of_moment (g.M.Moments.least c.serve.new.engine.moments.now) ≡ of_moment (g.M.Moments.least c.args.moments.now) = cc (c.serve.ensures.given_back, c.new-engine.ensures.moments) in
    subst (λ (least : ℕ). IfSome (g.S.Source.left c.args.source.now) (λ input. WritesFront (stopped_at least) (whole_at least) meets input (g.O.Sink.written c.args.sink.now) (g.O.Sink.written c.serve.new.sink))) e
    (c.serve.ensures.prefix_written stop)
