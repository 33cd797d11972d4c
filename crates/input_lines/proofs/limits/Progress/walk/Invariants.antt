use Rattle.std.proofs.Common.{ℕ, List, ◌++◌, ◌↔◌, drop}
use Rattle.input_lines.specs.Lines.{lines_of}
use Rattle.input_lines.specs.Limits.{LimitsBehind}
use Rattle.input_lines.proofs.limits.Progress.walk.Given as goal

abbrev pub invariant-loop-byte : goal.invariant-loop-byte
invariant-loop-byte l = (rest : List ℕ) → LimitsBehind l.fn.self.lines l.fn.self.current (lines_of (l.bytes ++ rest)) ↔ LimitsBehind l.progress.lines l.progress.current (lines_of (drop l.byte-index l.bytes ++ rest))
