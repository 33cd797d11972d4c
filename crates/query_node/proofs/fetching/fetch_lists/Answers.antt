use Rattle.std.proofs.Common.{length, sym, subst}
use Rattle.std.proofs.lemmas.Result.{err_from_is_err_and}
use Rattle.seg_sealed.specs.Segments.{SealedSegment, AreListsOf}
use Rattle.query_node.proofs.fetching.fetch_lists.Goals as goal
use Rattle.query_node.proofs.Getting.{no_memory, none_listed}
use Rattle.query_node.proofs.Reading.{listed, lists_back}

pub returns-in_err-object-clause-fetched : goal.returns-in_err-object-clause-fetched
returns-in_err-object-clause-fetched g c = let p = err_from_is_err_and c.from_residual.result c.from_residual.ensures.1 in rw (p.1, p.2) (no_memory _ _)

pub returns-in_default-clause-fetched : goal.returns-in_default-clause-fetched
returns-in_default-clause-fetched g c = none_listed _ c.args.part.now.sealed.lists c.in_ok-object.field-0 _ c.args.sealed c.in_ok-object.ensures.object c.in_default.not-Some

pub with_lists-requires : goal.with_lists-requires
with_lists-requires g c =
    let S = c.args.part.now.sealed in
    let l = listed S.number (length S.rows) S.lists c.in_ok-object.field-0 c.in-Some.object c.deref.result.now c.in-Ok.bytes.items
    c.in_ok-object.ensures.object c.in-Some.is c.in_ok-object.ensures.spells c.in_ok-object.ensures.lists c.deref.ensures.value c.in-Ok.ensures.found in
    (l.file, l.spelled, subst (λ (s : SealedSegment). AreListsOf s.number (length s.rows) l.file) (sym c.requires) l.valid)

pub returns-in-Ok-clause-sealed : goal.returns-in-Ok-clause-sealed
returns-in-Ok-clause-sealed g c =
    let S = c.args.part.now.sealed in
    let l = listed S.number (length S.rows) S.lists c.in_ok-object.field-0 c.in-Some.object c.deref.result.now c.in-Ok.bytes.items
    c.in_ok-object.ensures.object c.in-Some.is c.in_ok-object.ensures.spells c.in_ok-object.ensures.lists c.deref.ensures.value c.in-Ok.ensures.found in
    lists_back S c.args.sealed _ l.file c.requires l.there (c.in_ok-with_lists-in-Ok.ensures l.file l.spelled)
