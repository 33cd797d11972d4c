use Rattle.std.proofs.Common.{◌≡◌, map, slice_get, refl, sym, ap, ◌∙◌, [], List, Bool}
use Rattle.binlog_format.specs.declared.objects.Column.{Column}
use Rattle.row_types.specs.Filters.{passes}
use Rattle.seg_sealed.specs.Segments.{SealedSegment}
use Rattle.seg_sealed.specs.Fields.{value_in, row_of, vectors_in}
use Rattle.seg_sealed.proofs.SealLaws.{passes_at}
use Rattle.seg_sealed.proofs.sealed.Sealed.holds.Goals as goal

pub returns : goal.returns
returns c =
    let i = c.self.inside in
    passes_at c.row_holds.result c.args.filter.now c.args.i c.key.result i.positions.items i.stamps.items i.keys.items _ i.columns.items c.args.self.now.rows (ap (λ (s : SealedSegment). s.rows) c.self.view_is)
    (c.row_holds.ensures ∙ ap (λ (cs : List Column). passes (row_of c.key.result [] (map (value_in c.args.i) cs)) c.args.filter.now) c.as_slice.ensures.value)
    (slice_get c.args.self.now.rows c.args.i) refl c.key.ensures
