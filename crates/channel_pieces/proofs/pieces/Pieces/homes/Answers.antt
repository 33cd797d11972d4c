use Rattle.std.proofs.Common.{sym, ap, ◌∙◌}
use Rattle.std.specs.Option.{option_map}
use Rattle.channel_pieces.specs.Pieces.{MarkedLayout, MarkedSegment, segment_in}
use Rattle.channel_pieces.proofs.HomeLaws.{placement_homes}
use Rattle.channel_pieces.proofs.pieces.Pieces.homes.Goals as goal

pub returns-clause-homes : goal.returns-clause-homes
returns-clause-homes c =
    c.homes.ensures.homes ∙ sym (placement_homes c.self.inside.places.segments c.self.inside.segments.items c.args.number (c.self.invariant.kept.placed c.args.number))
    ∙ ap (λ (l : MarkedLayout). option_map (λ (s : MarkedSegment). s.homes) (segment_in l.segments c.args.number)) c.self.view_is
