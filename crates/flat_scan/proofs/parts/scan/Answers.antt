use Rattle.std.proofs.Common.{◌≡◌, ℕ, length, map, sym, subst, ◌∙◌, arith}
use Rattle.log_model.specs.Places.{IsColumn, width_of, vector_of}
use Rattle.seg_sealed.specs.Segments.{SealedSegment, IsSealed, IsRowOf}
use Rattle.flat_scan.proofs.AllLists.{all_map}
use Rattle.flat_scan.proofs.MarkedRows.{shown-length, shown-vectors, shown-fit}
use Rattle.flat_scan.proofs.parts.scan.Goals as goal

pub offer_words-requires-clause-fits : goal.offer_words-requires-clause-fits
offer_words-requires-clause-fits g c =
    let s = c.args.part.now.sealed in
    let own : IsSealed s = subst IsSealed c.sealed-sealed.ensures.sealed c.number-number.ensures.sealed in
    shown-fit c.args.query.now c.args.part.now.deaths 0 s.rows
    (all_map (IsRowOf s.dim s.kinds) (λ x. length c.args.query.now.vector ≡ length x.row.vector) (λ x r. c.requires ∙ sym r.vector) s.rows own.rows)

pub offer_words-requires-clause-column : goal.offer_words-requires-clause-column
offer_words-requires-clause-column g c =
    let s = c.args.part.now.sealed in
    let here : IsColumn (width_of s.dim) (map vector_of s.rows) c.words.result.now = subst (λ (t : SealedSegment). IsColumn (width_of t.dim) (map vector_of t.rows) c.words.result.now) c.sealed-sealed.ensures.sealed c.words.ensures in
    subst (λ l. IsColumn (width_of (length c.args.query.now.vector)) l c.words.result.now) (sym (shown-vectors c.args.part.now.deaths 0 s.rows))
    (subst (λ (n : ℕ). IsColumn (width_of n) (map vector_of s.rows) c.words.result.now) (sym c.requires) here)

pub returns-clause-steps : goal.returns-clause-steps
returns-clause-steps g c = omega (arith, c.offer_words.ensures.steps, shown-length c.args.part.now.deaths 0 c.args.part.now.sealed.rows)
