use Rattle.std.proofs.Common.{◌≡◌, ◌+◌, [], length, refl, arith}
use Rattle.phase_channels.proofs.Testing.{held_next}
use Rattle.phase_channels.proofs.tests.four_lines.Goals as goal

pub add-requires-2-clause-room : goal.add-requires-2-clause-room
add-requires-2-clause-room c =
    let one = c.in_ok-add.ensures.added 2 [] c.in_ok-lines.ensures in
    let next : c.add.new.self.first + length c.add.new.self.slots.items ≡ 3 = held_next 2 _ c.add.new.self one in omega arith

pub add-requires-3-clause-room : goal.add-requires-3-clause-room
add-requires-3-clause-room c =
    let one = c.in_ok-add.ensures.added 2 [] c.in_ok-lines.ensures in
    let two = c.in_ok-add-2.ensures.added 2 _ one in
    let next : c.add-2.new.self.first + length c.add-2.new.self.slots.items ≡ 4 = held_next 2 _ c.add-2.new.self two in omega arith

pub add-requires-4-clause-room : goal.add-requires-4-clause-room
add-requires-4-clause-room c =
    let one = c.in_ok-add.ensures.added 2 [] c.in_ok-lines.ensures in
    let two = c.in_ok-add-2.ensures.added 2 _ one in
    let three = c.in_ok-add-3.ensures.added 2 _ two in
    let next : c.add-3.new.self.first + length c.add-3.new.self.slots.items ≡ 5 = held_next 2 _ c.add-3.new.self three in omega arith

pub returns : goal.returns
returns c =
    let one = c.in_ok-add.ensures.added 2 [] c.in_ok-lines.ensures in
    let two = c.in_ok-add-2.ensures.added 2 _ one in
    let three = c.in_ok-add-3.ensures.added 2 _ two in
    let four = c.in_ok-add-4.ensures.added 2 _ three in
    (_, four, (c.in_ok-first.ensures.fits, (tt, (c.in_ok-second.ensures.fits, (c.in_ok-again.ensures.fits, tt)))), refl)
