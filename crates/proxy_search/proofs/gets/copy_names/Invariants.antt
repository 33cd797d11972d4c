use Rattle.std.proofs.Common.{◌≡◌, map, take}
use Rattle.proxy_search.proofs.gets.copy_names.Given as goal

abbrev pub invariant-columns : goal.invariant-columns
invariant-columns l = l.names.items ≡ map (λ column. column.0) (take l.column-index l.columns)
