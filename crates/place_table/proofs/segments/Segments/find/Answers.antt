use Rattle.std.proofs.Common.{sym, ap, ◌∙◌}
use Rattle.std.specs.FinMap as fin
use Rattle.place_table.proofs.SegmentLaws.{found}
use Rattle.place_table.proofs.segments.Segments.find.Goals as goal

pub returns : goal.returns
returns c = c.get.ensures.value ∙ sym (found c.self.inside.by_number.entries c.args.segment) ∙ ap (λ m. fin.get m c.args.segment) c.self.view_is
