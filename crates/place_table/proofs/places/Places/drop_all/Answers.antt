use Rattle.std.proofs.Common.{sym, ◌∙◌}
use Rattle.place_table.proofs.SegmentLaws.{absent}
use Rattle.place_table.proofs.KeptLaws.{drop_fits, drop_counts, drop_keeps}
use Rattle.place_table.proofs.places.Places.drop_all.Goals as goal

pub overflow_sub-self : goal.overflow_sub-self
overflow_sub-self c =
    rw (c.from.ensures, c.rows.ensures) (drop_fits c.self.inside.loads.items c.self.inside.total c.self.inside.segments c.args.segment c.in-Some.entry c.self.invariant (sym c.in-Some.ensures.value))

pub unload-requires-clause-enough : goal.unload-requires-clause-enough
unload-requires-clause-enough c = drop_counts c.self.inside.loads.items c.self.inside.total c.self.inside.segments c.args.segment c.in-Some.entry c.self.invariant (sym c.in-Some.ensures.value)

pub invariant_of-self : goal.invariant_of-self
invariant_of-self c =
    rw (c.from.ensures, c.rows.ensures, c.remove.ensures.after)
    (drop_keeps c.self.inside.loads.items c.unload.new.loads.items c.self.inside.total c.self.inside.segments c.args.segment c.in-Some.entry c.self.invariant (sym c.in-Some.ensures.value) c.unload.ensures.len c.unload.ensures.left)

pub invariant_of-self-in_default : goal.invariant_of-self-in_default
invariant_of-self-in_default c =
    rw (c.remove.ensures.after, absent c.self.inside.segments c.args.segment (sym c.remove.ensures.value ∙ c.in_default.is)) c.self.invariant
