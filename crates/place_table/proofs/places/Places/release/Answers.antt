use Rattle.std.proofs.Common.{◌<◌, ℕ, length, subst, sym, ap}
use Rattle.place_table.specs.Tables.{Table}
use Rattle.place_table.proofs.KeptLaws.{release_keeps, release_fits}
use Rattle.place_table.proofs.places.Places.release.Goals as goal

pub lower-requires-clause-enough : goal.lower-requires-clause-enough
lower-requires-clause-enough c =
    let below : c.args.node < length c.self.inside.loads.items = subst (λ (n : ℕ). c.args.node < n) (sym (ap (λ (t : Table). t.nodes) c.self.view_is)) c.requires in
    release_fits c.self.inside.loads.items c.self.inside.total c.self.inside.segments c.args.segment c.args.node c.in_ok-rows.rows c.self.invariant below c.in_ok-rows.ensures.free c.in_ok-rows.ensures.rows

pub invariant_of-self-2 : goal.invariant_of-self-2
invariant_of-self-2 c =
    let below : c.args.node < length c.self.inside.loads.items = subst (λ (n : ℕ). c.args.node < n) (sym (ap (λ (t : Table). t.nodes) c.self.view_is)) c.requires in
    rw (c.lower.ensures, c.in_ok-rows.ensures.ok) (release_keeps c.self.inside.loads.items c.self.inside.total c.self.inside.segments c.args.segment c.args.node c.in_ok-rows.rows c.self.invariant below c.in_ok-rows.ensures.free c.in_ok-rows.ensures.rows)
