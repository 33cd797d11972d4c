use Rattle.phase_channels.proofs.Testing.{new_known}
use Rattle.phase_channels.proofs.tests.a_new_collection_meets_at_the_first_number.Goals as goal

pub meet-requires-clause-known : goal.meet-requires-clause-known
meet-requires-clause-known g c = new_known c.two_channels.result c.in_ok-channels.channels c.in_ok-channels.ensures.rest c.in_ok-channels.ensures.same
