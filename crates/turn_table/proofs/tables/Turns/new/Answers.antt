use Rattle.std.proofs.Common.{ap, ◌∙◌, List}
use Rattle.turn_table.specs.Rule.{first_words}
use Rattle.turn_table.proofs.Starting.{opens_at}
use Rattle.turn_table.proofs.tables.Turns.new.Goals as goal

pub new-requires-clause-rule : goal.new-requires-clause-rule
new-requires-clause-rule g c = opens_at g.V.Journalled.journal g.V.Journalled.base g.V.Journalled.number_of g.V.Journalled.time_of c.args.first c.args.values.items c.of.result.value.items c.as_slice-2.result.now
    (c.as_slice-2.ensures.value ∙ c.in-Ok.ensures ∙ ap (λ (l : List g.row.V.Denot). first_words g.V.Journalled.journal c.args.first l) c.as_slice.ensures.value) (cc) c.requires.first.1 c.requires.above
