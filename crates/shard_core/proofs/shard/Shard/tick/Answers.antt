use Rattle.std.proofs.Common.{◌≤◌, sym, subst, refl, arith}
use Rattle.std.specs.Arc.{arc_value}
use Rattle.journal_model.specs.declared.notes.Kind.TheVariants.{Tick}
use Rattle.journal_model.specs.Notes.{note_of}
use Rattle.journal_model.proofs.CallLaws.{tick_step}
use Rattle.shard_core.specs.Shards.{ChannelShard}
use Rattle.shard_core.proofs.KeepLaws.{kept_plain, room_less, stepped}
use Rattle.shard_core.proofs.shard.Shard.tick.Goals as goal

pub invariant_of-self : goal.invariant_of-self
invariant_of-self c =
    let note = note_of c.args.by c.args.line (Tick c.args.ts) in
    let one : 1 ≤ c.self.inside.spare = subst (λ (s : ChannelShard). 1 ≤ s.spare) (sym c.self.view_is) c.requires.room in (
      room_less c.self.inside.spare c.self.inside.lagging.room c.self.inside.lagging.room c.self.inside.journal c.tick.new.self note c.self.invariant.0 one c.tick.ensures.note (omega arith),
      kept_plain (arc_value c.self.inside.collection) c.self.inside.journal c.tick.new.self c.self.inside.lagging note c.self.invariant.1 c.len.ensures.sound (tt, tt) refl c.tick.ensures.note refl refl,
    )

pub returns : goal.returns
returns c = record {
  step = stepped c.args.self.now (arc_value c.self.inside.collection) c.self.inside.spare c.self.inside.journal c.tick.new.self (note_of c.args.by c.args.line (Tick c.args.ts)) c.self.view_is c.tick.ensures.note c.requires.room
      (tick_step c.args.self.now.channel c.args.self.now.state c.args.by c.args.line c.args.ts c.requires.below);
}
