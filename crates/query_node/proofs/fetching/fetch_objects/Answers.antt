use Rattle.std.proofs.Common.{◌∷◌}
use Rattle.part_objects.specs.Spellings.{insert_object, delete_object, list_objects}
use Rattle.part_objects.proofs.Kept.{names_apart}
use Rattle.query_node.proofs.fetching.fetch_objects.Goals as goal
use Rattle.query_node.proofs.Getting.{fetches_more}

pub returns-clause-fetched : goal.returns-clause-fetched
returns-clause-fetched g c =
    let P = c.args.part.now in
    fetches_more (insert_object P) (delete_object P ∷ list_objects P.sealed.number P.sealed.lists) _
    (g.K.Keeper.kept c.fetch_sealed.new.keeper) c.in-Ok.sealed c.fetch_others.result
    (names_apart P).0 c.in-Ok.ensures.fetched c.in-Ok.ensures.stays c.fetch_others.ensures.fetched
