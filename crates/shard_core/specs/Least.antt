-- The least node among homes, home by home. Only proofs need it.
use Rattle.std.specs.Prelude.{ℕ, min, List, Option, Some, None}
use Rattle.journal_model.specs.declared.notes.Home.{Home}
use Rattle.journal_model.specs.declared.notes.Home.TheVariants.{Leader, Node}
use Rattle.journal_model.specs.Refusals.{least_node, least_from}

-- the least node so far, after one more home
abbrev pub least_next : Option ℕ → Home → Option ℕ
least_next least Leader = least
least_next None (Node node) = Some node
least_next (Some least) (Node node) = Some (min least node)

-- the least node of all, from that so far and the homes that are left
abbrev pub least_after : Option ℕ → List Home → ℕ
least_after None homes = least_node homes
least_after (Some least) homes = least_from least homes
