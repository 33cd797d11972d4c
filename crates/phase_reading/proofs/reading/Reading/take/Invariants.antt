use Rattle.std.proofs.Common.{ℕ, List, ◌≡◌, ◌≤◌, ◌++◌, length, Option}
use Rattle.phase_reading.specs.Steps.{IsSoFar}
use Rattle.phase_reading.proofs.reading.Reading.take.Given as goal

abbrev pub invariant-lines : goal.invariant-lines
invariant-lines g l = record {
  known : (used : List ℕ) × (l.piece ≡ used ++ l.rest) × ((before : Option (List ℕ)) (all : List ℕ)
      → IsSoFar (g.E.Engine.account l.fn.engine) g.E.Engine.begins g.E.Engine.meets before (g.O.Sink.written l.fn.sink) all l.fn.self.last.items l.fn.self.lines
      → IsSoFar (g.E.Engine.account l.engine) g.E.Engine.begins g.E.Engine.meets before (g.O.Sink.written l.sink) (all ++ used) l.reading.last.items l.reading.lines);
  follows : g.E.Engine.follows l.fn.engine l.engine;
  later : g.O.Sink.faults l.fn.sink ≤ g.O.Sink.faults l.sink;
}

abbrev pub decreases-lines : goal.decreases-lines
decreases-lines g l = length l.rest
