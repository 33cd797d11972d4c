use Rattle.std.proofs.Common.{false, ap, ◌∙◌}
use Rattle.std.specs.List.{list_any}
use Rattle.std.specs.Option.{option_map}
use Rattle.journal_model.specs.declared.notes.Home.TheVariants.{Node}
use Rattle.journal_model.specs.Layouts.{is_home, homes_after_load}
use Rattle.channel_pieces.specs.Pieces.{MarkedLayout, segment_in, is_at, with_homes}
use Rattle.channel_pieces.proofs.HomeLaws.{placed_so, change_keeps, change_seen}
use Rattle.channel_pieces.proofs.pieces.Pieces.load.Goals as goal

pub invariant_of-self-2 : goal.invariant_of-self-2
invariant_of-self-2 c =
    let h = placed_so c.self.inside.places.segments c.self.inside.segments.items c.args.number (list_any (is_home (Node c.args.node))) false (c.self.invariant.kept.placed c.args.number)
    (ap (λ (l : MarkedLayout). option_map (is_at (Node c.args.node)) (segment_in l.segments c.args.number)) c.self.view_is ∙ c.requires.elsewhere) in
    record { kept = change_keeps c.self.inside.kinds c.self.inside.tail c.self.inside.segments.items c.self.inside.places c.load.new.self c.args.number (homes_after_load c.args.node) (list_any (is_home (Node c.args.node))) false c.self.invariant.kept h c.in-Ok.ensures.loaded; listed = tt }

pub returns-clause-ok : goal.returns-clause-ok
returns-clause-ok c =
    let h = placed_so c.self.inside.places.segments c.self.inside.segments.items c.args.number (list_any (is_home (Node c.args.node))) false (c.self.invariant.kept.placed c.args.number)
    (ap (λ (l : MarkedLayout). option_map (is_at (Node c.args.node)) (segment_in l.segments c.args.number)) c.self.view_is ∙ c.requires.elsewhere) in
    change_seen c.self.inside.kinds c.self.inside.tail c.self.inside.segments.items c.self.inside.places c.load.new.self c.args.number (homes_after_load c.args.node) (list_any (is_home (Node c.args.node))) false c.self.invariant.kept h c.in-Ok.ensures.loaded
    ∙ ap (with_homes c.args.number (homes_after_load c.args.node)) c.self.view_is
