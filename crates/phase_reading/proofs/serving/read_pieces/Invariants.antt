use Rattle.std.proofs.Common.{List, ℕ, ◌≡◌, length, ◌+◌, ◌-◌, ◌≤◌, ◌<◌}
use Rattle.std.specs.Io.KnownBytes.{Consumes}
use Rattle.input_lines.specs.declared.limits.TheConstants.{MAX_INPUT}
use Rattle.phase_reading.specs.Steps.{IsSoFar}
use Rattle.phase_reading.proofs.serving.read_pieces.Given as goal

abbrev pub invariant-pieces : goal.invariant-pieces
invariant-pieces g l = record {
  known : (all : List ℕ) × Consumes (g.S.Source.left l.fn.source) (g.S.Source.left l.source) all × (length all ≡ l.taken)
      × IsSoFar (g.E.Engine.account l.engine) g.E.Engine.begins g.E.Engine.meets (g.O.Sink.written l.fn.sink) (g.O.Sink.written l.sink) all l.reading.last.items l.reading.lines;
  few : l.taken ≤ MAX_INPUT;
  some : 0 < length l.buffer;
  small : length l.buffer ≤ 262_144;
  follows : g.E.Engine.follows l.fn.engine l.engine;
  later : g.S.Source.faults l.fn.source ≤ g.S.Source.faults l.source;
  later_sink : g.O.Sink.faults l.fn.sink ≤ g.O.Sink.faults l.sink;
}

abbrev pub decreases-pieces : goal.decreases-pieces
decreases-pieces g l = MAX_INPUT + 1 - l.taken
