use Rattle.std.proofs.Common.{Ok, Err}
use Rattle.part_objects.specs.Spellings.{delete_object, list_objects}
use Rattle.part_objects.proofs.Kept.{names_apart}
use Rattle.query_node.proofs.fetching.fetch_others.Goals as goal
use Rattle.query_node.proofs.Getting.{fetches_more, fetches_failed, fetches_made}

pub returns-in-Err-fetch_lists-clause-fetched : goal.returns-in-Err-fetch_lists-clause-fetched
returns-in-Err-fetch_lists-clause-fetched g c =
    let P = c.args.part.now in
    fetches_more (delete_object P) (list_objects P.sealed.number P.sealed.lists) _
    (g.K.Keeper.kept c.fetch_marks.new.keeper) c.in-Ok.marks (Err c.in-Err-fetch_lists.error)
    (names_apart P).1.0 c.in-Ok.ensures.fetched c.in-Ok.ensures.stays (fetches_failed _ _ _ _ _ c.in-Err-fetch_lists.ensures.fetched)

pub returns-in_ok-joined-in-Ok-fetch_lists-clause-fetched : goal.returns-in_ok-joined-in-Ok-fetch_lists-clause-fetched
returns-in_ok-joined-in-Ok-fetch_lists-clause-fetched g c =
    let P = c.args.part.now in
    fetches_more (delete_object P) (list_objects P.sealed.number P.sealed.lists) _
    (g.K.Keeper.kept c.fetch_marks.new.keeper) c.in-Ok.marks (Ok c.in_ok-joined-in-Ok-fetch_lists.field-0)
    (names_apart P).1.0 c.in-Ok.ensures.fetched c.in-Ok.ensures.stays (fetches_made _ _ c.in-Ok-fetch_lists.sealed _ c.in-Ok-fetch_lists.ensures.fetched)
