use Rattle.std.proofs.Common.{sym, ap, ◌∙◌}
use Rattle.std.specs.FinMap as fin
use Rattle.place_table.proofs.SegmentLaws.{found, was_removed}
use Rattle.place_table.proofs.segments.Segments.remove.Goals as goal

pub returns-clause-value : goal.returns-clause-value
returns-clause-value c = c.remove.ensures.value ∙ sym (found c.self.inside.by_number.entries c.args.segment) ∙ ap (λ m. fin.get m c.args.segment) c.self.view_is

pub returns-clause-after : goal.returns-clause-after
returns-clause-after c =
    was_removed c.self.inside.by_number.entries c.remove.new.self.entries c.args.segment (c.remove.ensures.updates.0)
    ∙ ap (λ m. fin.remove m c.args.segment) c.self.view_is
