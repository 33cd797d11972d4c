use Rattle.std.proofs.Common.{List, ap, sym, subst, ◌∙◌}
use Rattle.std.specs.Arc.{arc_value}
use Rattle.std.specs.Global.{Vec}
use Rattle.std.specs.List.{AllByRecursion}
use Rattle.seg_sealed.specs.Parts.{SegmentPart}
use Rattle.channel_view.specs.Views.{AreRowsOf}
use Rattle.view_scan.proofs.PlainRows.{rows_fit}
use Rattle.view_scan.proofs.tests.view.Goals as goal

pub new-requires-3-clause-part_rows : goal.new-requires-3-clause-part_rows
new-requires-3-clause-part_rows g c =
    let collection = arc_value c.in_ok-collection.field-0 in
    let here = rows_fit collection c.in_ok-here.here.sealed.rows c.in_ok-collection.ensures.dim c.in_ok-collection.ensures.columns c.in_ok-here.ensures in
    let there = subst (λ (p : SegmentPart). AreRowsOf collection p.sealed.rows) (sym c.in_ok-there.ensures) here in
    let items = ap (λ (parts : Vec SegmentPart). parts.items) c.in_ok-parts.ensures.ok ∙ c.in_ok-vec.ensures.items in
    subst (λ (l : List SegmentPart). AllByRecursion (λ p. AreRowsOf collection p.sealed.rows) l) (sym items) (here, (there, tt))
