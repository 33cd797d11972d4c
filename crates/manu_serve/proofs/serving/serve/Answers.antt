use Rattle.std.proofs.Common.{ℕ, subst}
use Rattle.std.specs.Prelude.{IfSome}
use Rattle.std.specs.Io.KnownBytes.{Appends}
use Rattle.phase_reading.specs.Outputs.{WritesLimited}
use Rattle.phase_reading.specs.Outcomes.{StopsAtFault, OfRun, WritesFront}
use Rattle.phase_engine.specs.Outputs.{begins, meets, stopped_at, whole_at}
use Rattle.manu_serve.specs.Servings.{IsLegalFrom, WritesAll}
use Rattle.manu_serve.proofs.Outputs.{writes_legal, first_of_pace, first_of_running, nothing_taken}
use Rattle.manu_serve.proofs.serving.serve.Goals as goal

pub returns-clause-legal : goal.returns-clause-legal
returns-clause-legal g c is = writes_legal _ _ _ _ (c.run-status.ensures.done is)

pub returns-clause-moments : goal.returns-clause-moments
returns-clause-moments g c is words =
    subst (λ (least : ℕ). WritesAll (IsLegalFrom least) (g.S.Source.left c.args.source.now) (g.O.Sink.written c.args.sink.now) (g.O.Sink.written c.run-status.new.sink))
    (first_of_running _ _ _ c.in-Some.ensures.moving.1 words) (c.run-status.ensures.done is)

pub returns-clause-read_so_far : goal.returns-clause-read_so_far
returns-clause-read_so_far g c is =
    subst (λ (least : ℕ). StopsAtFault (stopped_at least) begins meets (g.S.Source.left c.args.source.now) (g.S.Source.left c.run-status.new.source) (g.O.Sink.written c.args.sink.now) (g.O.Sink.written c.run-status.new.sink))
    (first_of_pace _ _ _ c.in-Some.ensures.still.0 c.in-Some.ensures.moving.0) (c.run-status.ensures.read_so_far is)

pub returns-clause-phases_written : goal.returns-clause-phases_written
returns-clause-phases_written g c is =
    subst (λ (least : ℕ). IfSome (g.S.Source.left c.args.source.now) (λ input. WritesLimited (stopped_at least) begins meets input (g.O.Sink.written c.args.sink.now) (g.O.Sink.written c.run-status.new.sink)))
    (first_of_pace _ _ _ c.in-Some.ensures.still.0 c.in-Some.ensures.moving.0) (c.run-status.ensures.phases_written is)

pub returns-clause-some_phases_written : goal.returns-clause-some_phases_written
returns-clause-some_phases_written g c is =
    subst (λ (least : ℕ). IfSome (g.S.Source.left c.args.source.now) (λ input. OfRun (stopped_at least) meets input (Appends (g.O.Sink.written c.args.sink.now) (g.O.Sink.written c.run-status.new.sink))))
    (first_of_pace _ _ _ c.in-Some.ensures.still.0 c.in-Some.ensures.moving.0) (c.run-status.ensures.some_phases_written is)

pub returns-clause-prefix_written : goal.returns-clause-prefix_written
returns-clause-prefix_written g c is =
    subst (λ (least : ℕ). IfSome (g.S.Source.left c.args.source.now) (λ input. WritesFront (stopped_at least) (whole_at least) meets input (g.O.Sink.written c.args.sink.now) (g.O.Sink.written c.run-status.new.sink)))
    (first_of_pace _ _ _ c.in-Some.ensures.still.0 c.in-Some.ensures.moving.0) (c.run-status.ensures.prefix_written is)

pub returns-in_default-clause-read_no_further : goal.returns-in_default-clause-read_no_further
returns-in_default-clause-read_no_further g c = nothing_taken (g.S.Source.left c.args.source.now)
