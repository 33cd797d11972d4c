use Rattle.std.proofs.Common.{◌≡◌, map, take}
use Rattle.serde_json.specs.View.{view}
use Rattle.answer_lines.specs.Lines.{stamp_data}
use Rattle.answer_lines.proofs.values.stamp_array.Given as goal

abbrev pub invariant-loop-stamp : goal.invariant-loop-stamp
invariant-loop-stamp l = map view l.values.items ≡ map stamp_data (take l.stamp-index l.stamps)
