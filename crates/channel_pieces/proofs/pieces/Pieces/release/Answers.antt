use Rattle.std.proofs.Common.{true, not, ap, ◌∙◌}
use Rattle.std.specs.List.{list_any}
use Rattle.std.specs.Option.{option_map}
use Rattle.journal_model.specs.declared.notes.Home.{Home}
use Rattle.journal_model.specs.declared.notes.Home.TheVariants.{Node}
use Rattle.journal_model.specs.Layouts.{is_home, homes_after_release}
use Rattle.place_table.specs.Tables.{answer_of}
use Rattle.channel_pieces.specs.Pieces.{MarkedLayout, segment_in, is_at, is_elsewhere, with_homes}
use Rattle.channel_pieces.proofs.HomeLaws.{placed_so, release_free, change_keeps, change_seen}
use Rattle.channel_pieces.proofs.pieces.Pieces.release.Goals as goal

pub unreachable-requires : goal.unreachable-requires
unreachable-requires c =
    let on = placed_so c.self.inside.places.segments c.self.inside.segments.items c.args.number (list_any (is_home (Node c.args.node))) true (c.self.invariant.kept.placed c.args.number)
    (ap (λ (l : MarkedLayout). option_map (is_at (Node c.args.node)) (segment_in l.segments c.args.number)) c.self.view_is ∙ c.requires.there) in
    let more = placed_so c.self.inside.places.segments c.self.inside.segments.items c.args.number (list_any (λ (other : Home). not (is_home (Node c.args.node) other))) true (c.self.invariant.kept.placed c.args.number)
    (ap (λ (l : MarkedLayout). option_map (is_elsewhere (Node c.args.node)) (segment_in l.segments c.args.number)) c.self.view_is ∙ c.requires.more) in
    let free = release_free c.self.inside.places.segments c.args.number c.args.node on more in
    let e = c.release.ensures.answer ∙ ap answer_of free in
    let f = c.in-Err.is in
    cc (e, f)

pub invariant_of-self : goal.invariant_of-self
invariant_of-self c =
    let h = placed_so c.self.inside.places.segments c.self.inside.segments.items c.args.number (list_any (is_home (Node c.args.node))) true (c.self.invariant.kept.placed c.args.number)
    (ap (λ (l : MarkedLayout). option_map (is_at (Node c.args.node)) (segment_in l.segments c.args.number)) c.self.view_is ∙ c.requires.there) in
    record { kept = change_keeps c.self.inside.kinds c.self.inside.tail c.self.inside.segments.items c.self.inside.places c.release.new.self c.args.number (homes_after_release c.args.node) (list_any (is_home (Node c.args.node))) true c.self.invariant.kept h c.in-Ok.ensures.released; listed = tt }

pub returns : goal.returns
returns c =
    let h = placed_so c.self.inside.places.segments c.self.inside.segments.items c.args.number (list_any (is_home (Node c.args.node))) true (c.self.invariant.kept.placed c.args.number)
    (ap (λ (l : MarkedLayout). option_map (is_at (Node c.args.node)) (segment_in l.segments c.args.number)) c.self.view_is ∙ c.requires.there) in
    change_seen c.self.inside.kinds c.self.inside.tail c.self.inside.segments.items c.self.inside.places c.release.new.self c.args.number (homes_after_release c.args.node) (list_any (is_home (Node c.args.node))) true c.self.invariant.kept h c.in-Ok.ensures.released
    ∙ ap (with_homes c.args.number (homes_after_release c.args.node)) c.self.view_is
