use Rattle.std.proofs.Common.{◌≡◌, ◌<◌, ◌++◌, ◌∷◌, [], List, length, map, sym, ap, subst, ◌∙◌, arith}
use Rattle.std.specs.Arc.{arc_value}
use Rattle.std.specs.List.{AllByRecursion}
use Rattle.seg_sealed.specs.Segments.{sealed_rows}
use Rattle.channel_pieces.specs.Pieces.{MarkedLayout, MarkedSegment, placed_of, after_close}
use Rattle.channel_pieces.specs.Fields.{Piece, homed}
use Rattle.channel_pieces.proofs.PieceLaws.{sealable, none_at, absent, IsClosing, closed, closing_keeps, closing_seen}
use Rattle.channel_pieces.proofs.pieces.Pieces.close.Goals as goal

pub seal-requires : goal.seal-requires
seal-requires c =
    let e : length c.self.inside.tail.rows ≡ length c.args.self.now.tail = ap (λ (l : MarkedLayout). length l.tail) c.self.view_is in
    let some : 0 < length c.self.inside.tail.rows = let h = c.requires.some in omega arith in
    (sealable c.args.number c.self.inside.tail.dim c.self.inside.kinds c.self.inside.tail.rows c.requires.low c.self.invariant.kept.dim c.self.invariant.kept.width some c.len-rows.ensures.few c.len-rows.ensures.rise c.self.invariant.kept.tail_fits).sealed

pub add-requires : goal.add-requires
add-requires c =
    let above : AllByRecursion (λ (s : MarkedSegment). s.number < c.args.number) (map (homed c.self.inside.places.segments) c.self.inside.segments.items) = subst (λ (l : MarkedLayout). AllByRecursion (λ (s : MarkedSegment). s.number < c.args.number) l.segments) (sym c.self.view_is) c.requires.above in
    absent _ (c.self.invariant.kept.placed c.args.number ∙ none_at c.self.inside.places.segments c.args.number c.self.inside.segments.items above)

closing : (c : goal.After-push_reserved) → IsClosing c.self.inside.kinds c.self.inside.tail c.clear-marks.new.self c.self.inside.segments.items c.self.inside.places c.args.number c.len-rows.result c.of.result
closing c =
    let above : AllByRecursion (λ (s : MarkedSegment). s.number < c.args.number) (map (homed c.self.inside.places.segments) c.self.inside.segments.items) = subst (λ (l : MarkedLayout). AllByRecursion (λ (s : MarkedSegment). s.number < c.args.number) l.segments) (sym c.self.view_is) c.requires.above in
    let e : length c.self.inside.tail.rows ≡ length c.args.self.now.tail = ap (λ (l : MarkedLayout). length l.tail) c.self.view_is in
    let some : 0 < length c.self.inside.tail.rows = let h = c.requires.some in omega arith in
    let able = sealable c.args.number c.self.inside.tail.dim c.self.inside.kinds c.self.inside.tail.rows c.requires.low c.self.invariant.kept.dim c.self.invariant.kept.width some c.len-rows.ensures.few c.len-rows.ensures.rise c.self.invariant.kept.tail_fits in
    let sealed_is : arc_value c.in_ok-sealed-2.sealed ≡ sealed_rows c.args.number (map placed_of c.self.inside.tail.rows) = c.in_ok-sealed-2.ensures.ok ∙ c.in_ok-sealed.ensures in
    record {
      kept = c.self.invariant.kept;
      above = above;
      dim = c.clear-marks.ensures.dim;
      none = c.clear-marks.ensures.rows;
      rows_are = sym c.len-rows.ensures.len;
      closed_is = closed c.args.number c.self.inside.kinds c.self.inside.tail (arc_value c.in_ok-sealed-2.sealed) c.clear-marks.result c.of.result able c.of.ensures sealed_is c.clear-marks.ensures.marks;
    }

pushed : (c : goal.After-push_reserved) → c.push_reserved.new.self.items ≡ c.self.inside.segments.items ++ c.of.result ∷ []
pushed c = c.push_reserved.ensures.items ∙ ap (λ (l : List Piece). l ++ c.of.result ∷ []) c.reserve.ensures.items

pub invariant_of-self-2 : goal.invariant_of-self-2
invariant_of-self-2 c = record { kept = closing_keeps c.self.inside.kinds c.self.inside.tail c.clear-marks.new.self c.self.inside.segments.items c.push_reserved.new.self.items c.self.inside.places c.add.new.self c.args.number c.len-rows.result c.of.result (closing c) (pushed c) c.in_ok-add.ensures.ok; listed = tt }

pub returns-clause-ok : goal.returns-clause-ok
returns-clause-ok c =
    closing_seen c.self.inside.kinds c.self.inside.tail c.clear-marks.new.self c.self.inside.segments.items c.push_reserved.new.self.items c.self.inside.places c.add.new.self c.args.number c.len-rows.result c.of.result (closing c) (pushed c) c.in_ok-add.ensures.ok
    ∙ ap (after_close c.args.number) c.self.view_is
