use Rattle.std.proofs.Common.{◌≡◌, map, take}
use Rattle.serde_json.specs.View.{view}
use Rattle.answer_lines.specs.Lines.{hit_data}
use Rattle.answer_lines.proofs.values.hit_array.Given as goal

abbrev pub invariant-loop-found : goal.invariant-loop-found
invariant-loop-found l = map view l.values.items ≡ map hit_data (take l.found-index l.hits)
