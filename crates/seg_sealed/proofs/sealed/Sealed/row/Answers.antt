use Rattle.std.proofs.Common.{◌≡◌, map, slice_get, refl, ap, ◌∙◌}
use Rattle.seg_sealed.specs.Segments.{SealedSegment}
use Rattle.seg_sealed.specs.Fields.{value_in}
use Rattle.seg_sealed.proofs.SealLaws.{row_at}
use Rattle.seg_sealed.proofs.sealed.Sealed.row.Goals as goal

pub returns : goal.returns
returns c =
    let i = c.self.inside in
    row_at c.args.i c.key.result c.in_ok-vector.vector c.of.result i.positions.items i.stamps.items i.keys.items _ i.columns.items c.args.self.now.rows (ap (λ (s : SealedSegment). s.rows) c.self.view_is)
    (c.of.ensures ∙ c.in_ok-fields.ensures ∙ ap (map (value_in c.args.i)) c.as_slice.ensures.value)
    (slice_get c.args.self.now.rows c.args.i) refl c.key.ensures c.in_ok-vector.ensures
