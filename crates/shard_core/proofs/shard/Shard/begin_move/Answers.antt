use Rattle.std.proofs.Common.{◌≡◌, None, sym, ap, subst, ◌∙◌}
use Rattle.std.specs.Arc.{arc_value}
use Rattle.journal_model.specs.Layouts.{layout_of}
use Rattle.journal_model.specs.Refusals.{move_refusal}
use Rattle.shard_core.specs.Shards.{ChannelShard}
use Rattle.shard_core.specs.Moves.{IsMoveOf}
use Rattle.shard_core.proofs.ViewLaws.{source_of}
use Rattle.shard_core.proofs.LentLaws.{moved_there, move_begun}
use Rattle.shard_core.proofs.MovedLaws.{up_shows}
use Rattle.shard_core.proofs.shard.Shard.begin_move.Goals as goal

pub catch_up-requires-clause-source : goal.catch_up-requires-clause-source
catch_up-requires-clause-source c = source_of (arc_value c.self.inside.collection) c.self.inside.journal c.self.inside.lagging c.self.inside.spare c.self.inside.lagging.room c.self.invariant.0 c.self.invariant.1 c.len-begun.ensures.sound

pub part-requires : goal.part-requires
part-requires c =
    let j = c.self.inside.journal in
    let free : move_refusal (layout_of j.channel j.state.notes) c.args.segment c.args.from ≡ None =
    ap (λ (s : ChannelShard). move_refusal (layout_of s.channel s.state.notes) c.args.segment c.args.from) c.self.view_is ∙ sym c.refuse_move.ensures ∙ c.in_default.is in
    record { there = moved_there j.channel j.state.notes c.catch_up.new.self.pieces (up_shows j c.catch_up.new.self c.catch_up.ensures.behind c.in_ok-catch_up.ensures.ok) c.args.segment c.args.from free }

pub returns-clause-lent : goal.returns-clause-lent
returns-clause-lent c =
    let j = c.self.inside.journal in
    let free : move_refusal (layout_of j.channel j.state.notes) c.args.segment c.args.from ≡ None =
    ap (λ (s : ChannelShard). move_refusal (layout_of s.channel s.state.notes) c.args.segment c.args.from) c.self.view_is ∙ sym c.refuse_move.ensures ∙ c.in_default.is in
    subst (λ (s : ChannelShard). IsMoveOf s.channel s.state.notes (record { part = c.in_ok-part.part; home = c.args.from; begun = c.len-begun.result })) c.self.view_is
    (move_begun j.channel j.state.notes c.catch_up.new.self.pieces (up_shows j c.catch_up.new.self c.catch_up.ensures.behind c.in_ok-catch_up.ensures.ok) c.args.segment c.args.from c.len-begun.result c.in_ok-part.part free c.len-begun.ensures.len
    c.in_ok-part.ensures.rows c.in_ok-part.ensures.number c.in_ok-part.ensures.applied)
