use Rattle.std.proofs.Common.{◌≡◌, ◌*◌, length, refl, arith}
use Rattle.row_types.proofs.BitLists.{length_from_bytes}
use Rattle.bit_distance.proofs.tests.between.Goals as goal

pub distance-requires : goal.distance-requires
distance-requires g c =
    let left : length c.in_ok-a.a ≡ 8 * length c.args.a.now = length_from_bytes c.in_ok-a.a c.args.a.now (8 * length c.args.a.now) c.in_ok-a.ensures refl in
    let right : length c.in_ok-b.b ≡ 8 * length c.args.b.now = length_from_bytes c.in_ok-b.b c.args.b.now (8 * length c.args.b.now) c.in_ok-b.ensures refl in
    omega (arith, left, right, c.requires.right)
