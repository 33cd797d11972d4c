use Rattle.std.proofs.Common.{◌≡◌, map, take}
use Rattle.serde_json.specs.View.{view}
use Rattle.answer_lines.specs.Lines.{seal_data}
use Rattle.answer_lines.proofs.values.seal_array.Given as goal

abbrev pub invariant-loop-seal : goal.invariant-loop-seal
invariant-loop-seal l = map view l.values.items ≡ map seal_data (take l.seal-index l.seals)
