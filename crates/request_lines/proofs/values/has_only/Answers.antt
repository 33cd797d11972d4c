use Rattle.std.proofs.Common.{false, map, ap, ◌∙◌, option_map}
use Rattle.std.specs.Prelude.{unwrap_or}
use Rattle.request_lines.specs.Json.{knows}
use Rattle.request_lines.proofs.Keys.{keys_known}
use Rattle.request_lines.proofs.values.has_only.Goals as goal

pub returns-in-Some : goal.returns-in-Some
returns-in-Some c =
    c.keys_are.ensures ∙ keys_known c.args.names.now c.in-Some.members.now.entries
    ∙ ap (λ o. unwrap_or (option_map (knows (map (λ n. n.now) c.args.names.now)) o) false) c.in-Some.ensures
