use Rattle.std.proofs.Common.{List, ◌<◌, length, sym, ap, subst, ◌∙◌}
use Rattle.std.specs.List.{AllByRecursion}
use Rattle.log_model.specs.Places.{Placed, placed, PlacedBefore}
use Rattle.growing_segment.specs.Tails.{Tail}
use Rattle.growing_segment.proofs.TailLaws.{keeps_push}
use Rattle.growing_segment.proofs.growing.Growing.push.Goals as goal

pub invariant_of-self : goal.invariant_of-self
invariant_of-self c =
    let rows = ap (λ (t : Tail). t.rows) c.self.view_is in
    let dims = ap (λ (t : Tail). t.dim) c.self.view_is in
    let x : Placed = placed c.args.position c.args.ts.0 c.args.row in
    rw c.push_back_reserved.ensures.items
    (keeps_push c.self.inside.dim _ c.self.inside.latest.items (placed c.args.position c.args.ts.0 c.args.row)
    (subst (λ (xs : List Placed). length xs < 65536) (sym rows) c.requires.few)
    (c.requires.fits ∙ sym dims)
    (subst (AllByRecursion (λ (y : Placed). PlacedBefore y (placed c.args.position c.args.ts.0 c.args.row))) (sym rows) c.requires.last)
    c.self.invariant)
