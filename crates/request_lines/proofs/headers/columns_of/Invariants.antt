use Rattle.std.proofs.Common.{◌≡◌, drop}
use Rattle.serde_json.specs.View.{items_view}
use Rattle.request_lines.specs.Headers.{columns_of}
use Rattle.request_lines.proofs.Lists.{after}
use Rattle.request_lines.proofs.headers.columns_of.Given as goal

abbrev pub invariant-columns : goal.invariant-columns
invariant-columns l = after l.columns.items (columns_of (items_view (drop l.value-index l.values))) ≡ columns_of (items_view l.values)
