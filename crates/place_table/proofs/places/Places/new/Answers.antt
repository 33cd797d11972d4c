use Rattle.std.proofs.Common.{◌≡◌, replicate}
use Rattle.place_table.proofs.KeptLaws.{new_keeps}
use Rattle.place_table.proofs.places.Places.new.Goals as goal

pub invariant_of-result : goal.invariant_of-result
invariant_of-result c =
    let zeros : c.in_ok-loads.loads.items ≡ replicate c.args.nodes 0 = c.in_ok-loads.ensures.items_if_clones_equal (λ y e. e) in
    rw (zeros, c.new.ensures) (new_keeps c.args.nodes c.requires.some c.requires.few)
