use Rattle.std.proofs.Common.{◌≡◌, ◌<◌, ℕ, Some, None, List, length, get_or, sym, ap, subst, ◌∙◌, arith, rules}
use Rattle.std.specs.Option.{option_map}
use Rattle.channel_pieces.specs.Pieces.{MarkedLayout, MarkedSegment, HasShape, segment_in}
use Rattle.channel_pieces.specs.Fields.{Piece, IsPiece, rows_at}
use Rattle.channel_pieces.proofs.PieceLaws.{segment_missing, segment_found, fits_at}
use Rattle.channel_pieces.proofs.pieces.Pieces.part.Goals as goal

pub returns-in_default-clause-rows : goal.returns-in_default-clause-rows
returns-in_default-clause-rows c =
    let none : rows_at c.self.inside.segments.items c.args.number ≡ None = ap (λ (l : List Piece). rows_at l c.args.number) (sym c.as_slice.ensures.value) ∙ c.in_default.ensures.missing in
    sym (ap (option_map (λ (s : MarkedSegment). s.rows)) (ap (λ (l : MarkedLayout). segment_in l.segments c.args.number) (sym c.self.view_is) ∙ segment_missing c.self.inside.places.segments c.self.inside.segments.items c.args.number none))

pub index_mut-piece-requires : goal.index_mut-piece-requires
index_mut-piece-requires c = let h = c.in-Some.ensures.found.0 in let l = c.as_slice.ensures.len in omega arith

-- the piece that was found
record IsFound (pieces : List Piece) (at number : ℕ) (s : Piece) : Type 0 where
  within : at < length pieces
  is : get_or pieces at s ≡ s
  number_is : s.number ≡ number

found : (c : goal.In_ok-part) → IsFound c.self.inside.segments.items c.in-Some.at c.args.number c.index_mut-piece.result.now
found c =
    let at : get_or c.self.inside.segments.items c.in-Some.at c.index_mut-piece.result.now ≡ c.index_mut-piece.result.now = search rules in
    record {
      within = subst (λ (l : List Piece). c.in-Some.at < length l) c.as_slice.ensures.value c.in-Some.ensures.found.0;
      is = at;
      number_is = ap (λ (p : Piece). p.number) (sym at) ∙ ap (λ (l : List Piece). (get_or l c.in-Some.at c.index_mut-piece.result.now).number) (sym c.as_slice.ensures.value) ∙ c.in-Some.ensures.found.1 c.index_mut-piece.result.now;
    }

pub returns-clause-rows : goal.returns-clause-rows
returns-clause-rows c =
    let h = found c in
    ap (λ r. Some r) c.in_ok-part.ensures.part.rows_are
    ∙ sym (ap (option_map (λ (s : MarkedSegment). s.rows)) (ap (λ (l : MarkedLayout). segment_in l.segments c.args.number) (sym c.self.view_is) ∙ segment_found c.self.inside.places.segments c.self.inside.segments.items c.in-Some.at c.args.number c.index_mut-piece.result.now c.self.invariant.kept.rise h.within h.is h.number_is))

pub returns-clause-part : goal.returns-clause-part
returns-clause-part c = c.in_ok-part.ensures.part.number_is ∙ (found c).number_is

pub returns-clause-shape : goal.returns-clause-shape
returns-clause-shape c =
    let h = found c in
    let fit = fits_at (IsPiece c.self.inside.tail.dim c.self.inside.kinds) c.self.inside.segments.items c.in-Some.at c.index_mut-piece.result.now c.self.invariant.kept.pieces_fit h.within h.is in
    subst (λ (l : MarkedLayout). HasShape l.dim l.kinds c.in_ok-part.part) c.self.view_is
    (record { dim_is = c.in_ok-part.ensures.part.shape.dim_is ∙ fit.dim_is; kinds_are = c.in_ok-part.ensures.part.shape.kinds_are ∙ fit.kinds_are })
