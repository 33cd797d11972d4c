use Rattle.top_list.proofs.Laws.{placed_behind, placed_at, placed_already}
use Rattle.top_list.proofs.tops.place.Goals as goal

pub returns-then-is_behind-clause-hits : goal.returns-then-is_behind-clause-hits
returns-then-is_behind-clause-hits c =
    placed_behind _ _ _ _ _ _ c.as_slice-hits.ensures c.requires.own c.last_of.ensures c.is_behind.ensures c.if-is_behind.true

pub returns-in-Err-clause-hits : goal.returns-in-Err-clause-hits
returns-in-Err-clause-hits c =
    placed_at _ _ _ _ _ _ _ c.as_slice-hits.ensures c.requires.own c.in-Err.ensures.position c.insert.ensures.hits c.truncate.ensures.hits

pub returns-in_default-clause-hits : goal.returns-in_default-clause-hits
returns-in_default-clause-hits c =
    placed_already _ _ _ _ _ c.as_slice-hits.ensures c.requires.own c.in_default.ensures.bound c.in_default.ensures.position
