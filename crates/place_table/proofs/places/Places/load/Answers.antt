use Rattle.std.proofs.Common.{◌<◌, ℕ, length, subst, sym, ap}
use Rattle.place_table.specs.Tables.{Table}
use Rattle.place_table.proofs.KeptLaws.{load_keeps, load_fits}
use Rattle.place_table.proofs.places.Places.load.Goals as goal

pub raise-requires-clause-fits : goal.raise-requires-clause-fits
raise-requires-clause-fits c =
    let below : c.args.node < length c.self.inside.loads.items = subst (λ (n : ℕ). c.args.node < n) (sym (ap (λ (t : Table). t.nodes) c.self.view_is)) c.requires in
    load_fits c.self.inside.loads.items c.self.inside.total c.self.inside.segments c.args.segment c.args.node c.in_ok-rows.rows c.self.invariant below c.in_ok-rows.ensures.free c.in_ok-rows.ensures.rows

pub invariant_of-self-2 : goal.invariant_of-self-2
invariant_of-self-2 c =
    let below : c.args.node < length c.self.inside.loads.items = subst (λ (n : ℕ). c.args.node < n) (sym (ap (λ (t : Table). t.nodes) c.self.view_is)) c.requires in
    rw (c.raise.ensures, c.in_ok-rows.ensures.ok) (load_keeps c.self.inside.loads.items c.self.inside.total c.self.inside.segments c.args.segment c.args.node c.in_ok-rows.rows c.self.invariant below c.in_ok-rows.ensures.free c.in_ok-rows.ensures.rows)
