use Rattle.std.proofs.Common.{sym, ap, ◌∙◌}
use Rattle.std.specs.Option.{option_map}
use Rattle.std.specs.List.{list_any}
use Rattle.shard_core.specs.Found.{found_with}
use Rattle.shard_core.specs.Steps.{is_closing}
use Rattle.shard_core.specs.Kept.{LaggingPieces}
use Rattle.shard_core.proofs.PlaceLaws.{found_some, found_closing, found_none}
use Rattle.shard_core.proofs.lagging.Lagging.homes.Goals as goal

pub returns-in-Some : goal.returns-in-Some
returns-in-Some c =
    found_some c.self.inside.pieces.segments c.self.inside.pending.items c.args.number c.in-Some.homes.now (sym c.homes.ensures.homes ∙ ap (option_map (λ found. found.now)) c.in-Some.is)
    ∙ ap (λ (l : LaggingPieces). found_with l.pieces.segments l.pending c.args.number) c.self.view_is

pub returns-then-closes : goal.returns-then-closes
returns-then-closes c =
    found_closing c.self.inside.pieces.segments c.self.inside.pending.items c.args.number (sym c.homes.ensures.homes ∙ ap (option_map (λ found. found.now)) c.in_default.is)
    (ap (list_any (is_closing c.args.number)) (sym c.as_slice.ensures.value) ∙ sym c.closes.ensures ∙ c.if-closes.true)
    ∙ ap (λ (l : LaggingPieces). found_with l.pieces.segments l.pending c.args.number) c.self.view_is

pub returns : goal.returns
returns c =
    found_none c.self.inside.pieces.segments c.self.inside.pending.items c.args.number (sym c.homes.ensures.homes ∙ ap (option_map (λ found. found.now)) c.in_default.is)
    (ap (list_any (is_closing c.args.number)) (sym c.as_slice.ensures.value) ∙ sym c.closes.ensures ∙ c.if-closes.false)
    ∙ ap (λ (l : LaggingPieces). found_with l.pieces.segments l.pending c.args.number) c.self.view_is
