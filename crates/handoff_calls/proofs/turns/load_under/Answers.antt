use Rattle.std.proofs.Common.{◌≡◌, [], inr, refl, ap, sym, ◌∙◌, append-nil}
use Rattle.journal_model.specs.declared.refusals.MoveError.TheVariants as error
use Rattle.shard_core.specs.Shards.{ChannelShard}
use Rattle.handoff_calls.proofs.Homes.{refused_not}
use Rattle.handoff_calls.proofs.turns.load_under.Goals as goal

pub returns-in-Gone-clause-noted : goal.returns-in-Gone-clause-noted
returns-in-Gone-clause-noted c =
    let same : c.commit_load.new.self.state.notes ≡ c.args.shard.now.state.notes = ap (λ (s : ChannelShard). s.state.notes) c.in-Err.ensures.err in
    let other : c.in-Err.back.why ≡ error.Memory → ⊥ = λ e. let a : error.Gone c.in-Gone.segment ≡ error.Memory = sym c.in-Gone.is ∙ e in let no : ⊥ = cc in no in (
      [],
      same ∙ sym (append-nil c.args.shard.now.state.notes),
      inr record { gone = refused_not c.args.shard.now.channel c.args.shard.now.state c.args.moving.part.sealed.number c.choose_node-node.result c.args.moving.home c.in-Err.back.why c.floor.ensures.sound c.requires.home other c.in-Err.ensures.cause; none = refl },
    )

pub returns-in-Already-clause-noted : goal.returns-in-Already-clause-noted
returns-in-Already-clause-noted c =
    let same : c.commit_load.new.self.state.notes ≡ c.args.shard.now.state.notes = ap (λ (s : ChannelShard). s.state.notes) c.in-Err.ensures.err in
    let other : c.in-Err.back.why ≡ error.Memory → ⊥ = λ e. let a : error.Already c.in-Already.segment c.in-Already.node ≡ error.Memory = sym c.in-Already.is ∙ e in let no : ⊥ = cc in no in (
      [],
      same ∙ sym (append-nil c.args.shard.now.state.notes),
      inr record { gone = refused_not c.args.shard.now.channel c.args.shard.now.state c.args.moving.part.sealed.number c.choose_node-node.result c.args.moving.home c.in-Err.back.why c.floor.ensures.sound c.requires.home other c.in-Err.ensures.cause; none = refl },
    )
