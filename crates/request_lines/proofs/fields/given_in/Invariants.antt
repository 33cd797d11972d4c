use Rattle.std.proofs.Common.{◌≡◌}
use Rattle.serde_json.specs.View.{members_view}
use Rattle.request_lines.specs.Members.{given_in}
use Rattle.request_lines.proofs.Lists.{after}
use Rattle.request_lines.proofs.fields.given_in.Given as goal

abbrev pub invariant-members : goal.invariant-members
invariant-members l = after l.given.items (given_in (members_view l.name-iterator)) ≡ given_in (members_view l.members.entries)
