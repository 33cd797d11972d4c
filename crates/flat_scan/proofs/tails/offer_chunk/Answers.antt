use Rattle.std.proofs.Common.{◌≡◌, ℕ, List, length, map, ap, sym, subst, arith}
use Rattle.std.specs.List.{AllByRecursion}
use Rattle.log_model.specs.Places.{Placed, IsColumn, width_of, vector_of}
use Rattle.growing_segment.specs.Tails.{HasDimension}
use Rattle.flat_scan.proofs.AllLists.{all_map}
use Rattle.flat_scan.proofs.MarkedRows.{shown-length, shown-vectors, shown-fit}
use Rattle.flat_scan.proofs.tails.offer_chunk.Goals as goal

pub offer_words-requires-clause-fits : goal.offer_words-requires-clause-fits
offer_words-requires-clause-fits g c =
    let dim = length c.args.asked.now.query.now.vector in
    let fit : AllByRecursion (HasDimension dim) c.rows.result.now = subst (AllByRecursion (HasDimension dim)) (sym c.rows.ensures) c.requires.fit in
    shown-fit c.args.asked.now.query.now c.args.marks.now.deaths c.args.from c.rows.result.now
    (all_map (HasDimension dim) (λ x. dim ≡ length x.row.vector) (λ x e. sym e) c.rows.result.now fit)

pub offer_words-requires-clause-column : goal.offer_words-requires-clause-column
offer_words-requires-clause-column g c =
    let dim = length c.args.asked.now.query.now.vector in
    let here : IsColumn (width_of dim) (map vector_of c.args.chunk.now.rows) c.words.result.now = subst (λ (n : ℕ). IsColumn (width_of n) (map vector_of c.args.chunk.now.rows) c.words.result.now) c.requires.dim c.words.ensures in
    subst (λ l. IsColumn (width_of dim) l c.words.result.now) (sym (shown-vectors c.args.marks.now.deaths c.args.from c.rows.result.now))
    (subst (λ (l : List Placed). IsColumn (width_of dim) (map vector_of l) c.words.result.now) (sym c.rows.ensures) here)

pub overflow_add-result : goal.overflow_add-result
overflow_add-result g c =
    let count : length c.rows.result.now ≡ length c.args.chunk.now.rows = ap (λ (l : List Placed). length l) c.rows.ensures in
    omega (arith, c.requires.few, c.len.ensures, shown-length c.args.marks.now.deaths c.args.from c.rows.result.now, count)

pub returns-clause-next : goal.returns-clause-next
returns-clause-next g c =
    let count : length c.rows.result.now ≡ length c.args.chunk.now.rows = ap (λ (l : List Placed). length l) c.rows.ensures in
    omega (arith, c.len.ensures, shown-length c.args.marks.now.deaths c.args.from c.rows.result.now, count)

pub returns-clause-steps : goal.returns-clause-steps
returns-clause-steps g c =
    let count : length c.rows.result.now ≡ length c.args.chunk.now.rows = ap (λ (l : List Placed). length l) c.rows.ensures in
    omega (arith, c.offer_words.ensures.steps, shown-length c.args.marks.now.deaths c.args.from c.rows.result.now, count)
