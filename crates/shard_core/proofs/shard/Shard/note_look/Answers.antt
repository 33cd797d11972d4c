use Rattle.std.proofs.Common.{◌≤◌, sym, subst, refl, arith}
use Rattle.std.specs.Arc.{arc_value}
use Rattle.journal_model.specs.declared.notes.Kind.TheVariants.{Look}
use Rattle.journal_model.specs.Notes.{note_of}
use Rattle.journal_model.proofs.CallLaws.{look_step}
use Rattle.shard_core.specs.Shards.{ChannelShard}
use Rattle.shard_core.proofs.KeepLaws.{kept_plain, room_less, stepped}
use Rattle.shard_core.proofs.shard.Shard.note_look.Goals as goal

pub invariant_of-self : goal.invariant_of-self
invariant_of-self c =
    let note = note_of c.args.by c.args.line (Look c.args.guarantee) in
    let one : 1 ≤ c.self.inside.spare = subst (λ (s : ChannelShard). 1 ≤ s.spare) (sym c.self.view_is) c.requires.room in (
      room_less c.self.inside.spare c.self.inside.lagging.room c.self.inside.lagging.room c.self.inside.journal c.note_look.new.self note c.self.invariant.0 one c.note_look.ensures.note (omega arith),
      kept_plain (arc_value c.self.inside.collection) c.self.inside.journal c.note_look.new.self c.self.inside.lagging note c.self.invariant.1 c.len.ensures.sound (tt, tt) refl c.note_look.ensures.note refl refl,
    )

pub returns : goal.returns
returns c = record {
  step = stepped c.args.self.now (arc_value c.self.inside.collection) c.self.inside.spare c.self.inside.journal c.note_look.new.self (note_of c.args.by c.args.line (Look c.args.guarantee)) c.self.view_is c.note_look.ensures.note c.requires.room
      (look_step c.args.self.now.channel c.args.self.now.state c.args.by c.args.line c.args.guarantee);
}
