use Rattle.std.proofs.Common.{◌≡◌, take}
use Rattle.serde_json.specs.Data.{no_members}
use Rattle.serde_json.specs.View.{members_view}
use Rattle.answer_lines.specs.Lines.{members_with}
use Rattle.answer_lines.proofs.values.fields_value.Given as goal

abbrev pub invariant-loop-i : goal.invariant-loop-i
invariant-loop-i l = members_view l.members.entries ≡ members_with no_members (take l.i l.names) l.fields
