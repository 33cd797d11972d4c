use Rattle.std.proofs.Common.{◌≡◌, ℕ, get_or, map, sym, ap, subst, ◌∙◌}
use Rattle.std.specs.List.{AllByRecursion}
use Rattle.seg_sealed.specs.Parts.{SegmentPart}
use Rattle.channel_pieces.specs.Pieces.{HasShape}
use Rattle.shard_core.specs.Kept.{LaggingPieces}
use Rattle.shard_core.specs.Found.{rows_found, found_of}
use Rattle.shard_core.proofs.MergingLaws.{lent_more, numbers_more, all_push}
use Rattle.shard_core.proofs.lagging.Lagging.lend.Goals as goal

pub numbers-preserved : goal.numbers-preserved
numbers-preserved c =
    let i = c.numbers.number-index in
    let n : ℕ = get_or c.args.numbers.now c.numbers.number-index 0 in
    let was = c.args.self.now in
    record {
      rows = ap found_of c.in_ok-push.ensures.items
          ∙ lent_more was.pieces.segments c.args.numbers.now i 0 c.numbers.parts.items c.in_ok-part.part c.numbers-test.true c.numbers.invariant.rows
          (c.in_ok-part.ensures.rows ∙ ap (λ (l : LaggingPieces). rows_found l.pieces.segments n) c.numbers.invariant.same);
      numbers = ap (map (λ (p : SegmentPart). p.sealed.number)) c.in_ok-push.ensures.items
          ∙ numbers_more c.args.numbers.now i 0 c.numbers.parts.items c.in_ok-part.part c.numbers-test.true c.numbers.invariant.numbers c.in_ok-part.ensures.number;
      applied = subst (AllByRecursion (λ (p : SegmentPart). p.applied ≡ c.args.applied)) (sym c.in_ok-push.ensures.items)
          (all_push (λ (p : SegmentPart). p.applied ≡ c.args.applied) c.numbers.parts.items c.in_ok-part.part c.numbers.invariant.applied c.in_ok-part.ensures.applied);
      shapes = subst (AllByRecursion (HasShape was.pieces.dim was.pieces.kinds)) (sym c.in_ok-push.ensures.items)
          (all_push (HasShape was.pieces.dim was.pieces.kinds) c.numbers.parts.items c.in_ok-part.part c.numbers.invariant.shapes
          (subst (λ (l : LaggingPieces). HasShape l.pieces.dim l.pieces.kinds c.in_ok-part.part) c.numbers.invariant.same c.in_ok-part.ensures.shape));
      same = c.part.ensures.same ∙ c.numbers.invariant.same;
    }
