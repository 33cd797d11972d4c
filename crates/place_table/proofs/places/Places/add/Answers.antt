use Rattle.std.proofs.Common.{◌≡◌, ◌+◌, ◌<◌, ◌^◌, ap, ◌∙◌, None, arith}
use Rattle.std.specs.FinMap as fin
use Rattle.place_table.specs.Tables.{Table}
use Rattle.place_table.proofs.KeptLaws.{add_keeps}
use Rattle.place_table.proofs.places.Places.add.Goals as goal

pub invariant_of-self-2 : goal.invariant_of-self-2
invariant_of-self-2 c =
    let fresh : fin.get c.self.inside.segments c.args.segment ≡ None = ap (λ (t : Table). fin.get t.segments c.args.segment) c.self.view_is ∙ c.requires in
    let sum : c.in-Some.total ≡ c.self.inside.total + c.args.rows = c.in-Some.ensures.1 ∙ ap (λ n. c.self.inside.total + n) c.from.ensures in
    let fits : c.self.inside.total + c.args.rows < 2 ^ 64 = let e = c.in-Some.ensures.0 in let f = c.from.ensures in omega arith in
    let done = add_keeps c.self.inside.loads.items c.self.inside.total c.self.inside.segments c.args.segment c.args.rows c.self.invariant fresh fits in
    rw (sum, c.in_ok-add.ensures.ok) done
