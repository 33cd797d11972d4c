use Rattle.std.proofs.Common.{subst}
use Rattle.std.specs.List.{AllByRecursion as Each}
use Rattle.coarse_lists.specs.declared.collections.Collection.{Collection}
use Rattle.phase_model.specs.Rests.{new_rest}
use Rattle.phase_channels.specs.Rests.{collection_in}
use Rattle.phase_channels.specs.Steps.{FitsRead, CanRunLines}
use Rattle.phase_channels.proofs.Testing.{can_run, ran_known}
use Rattle.phase_channels.proofs.tests.two_callers_are_answered_in_the_order_of_the_lines.Goals as goal

pub run-requires-clause-known : goal.run-requires-clause-known
run-requires-clause-known g c = λ κs.
    let lines = c.in_ok-lines.ensures in
    let fit : Each (FitsRead (collection_in c.in_ok-channels.channels)) lines.0 = subst (λ (d : Collection). Each (FitsRead d) lines.0) c.collection.ensures lines.2 in
    let can : CanRunLines (new_rest c.two_channels.result 1) 2 lines.0 c.in_ok-channels.channels c.in_ok-lines.lines = can_run c.two_channels.result c.in_ok-channels.channels c.in_ok-channels.ensures.rest c.in_ok-channels.ensures.same c.in_ok-lines.lines lines.0 lines.1 fit lines.3 in
    (new_rest c.two_channels.result 1, 2, lines.0, can)

pub meet-requires-clause-known : goal.meet-requires-clause-known
meet-requires-clause-known g c =
    let lines = c.in_ok-lines.ensures in
    let fit : Each (FitsRead (collection_in c.in_ok-channels.channels)) lines.0 = subst (λ (d : Collection). Each (FitsRead d) lines.0) c.collection.ensures lines.2 in
    let can : CanRunLines (new_rest c.two_channels.result 1) 2 lines.0 c.in_ok-channels.channels c.in_ok-lines.lines = can_run c.two_channels.result c.in_ok-channels.channels c.in_ok-channels.ensures.rest c.in_ok-channels.ensures.same c.in_ok-lines.lines lines.0 lines.1 fit lines.3 in
    ran_known c.two_channels.result c.in_ok-channels.channels c.in_ok-channels.ensures.rest c.in_ok-channels.ensures.same _ c.in_ok-lines.lines lines.0 can c.in_ok-channels-2.channels _ _ c.in_ok-channels-2.ensures.ran
