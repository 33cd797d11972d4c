use Rattle.std.proofs.Common.{ap, ◌∙◌}
use Rattle.std.specs.FinMap as fin
use Rattle.place_table.specs.Tables.{at_leader}
use Rattle.place_table.proofs.SegmentLaws.{was_set}
use Rattle.place_table.proofs.segments.Segments.add.Goals as goal

pub returns-clause-ok : goal.returns-clause-ok
returns-clause-ok c =
    was_set c.self.inside.by_number.entries c.insert.new.self.entries c.args.segment c.in_ok-entry.entry (c.in_ok-insert.ensures.updates.0)
    ∙ ap (λ p. fin.insert (fin.from_entries c.self.inside.by_number.entries) c.args.segment p) c.in_ok-entry.ensures
    ∙ ap (λ m. fin.insert m c.args.segment (at_leader c.args.rows)) c.self.view_is
