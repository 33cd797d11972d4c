use Rattle.std.proofs.Common.{◌≡◌, ◌≤◌, ◌++◌, sym, ap, subst, refl, ◌∙◌, append-nil}
use Rattle.std.specs.Arc.{arc_value}
use Rattle.journal_model.specs.declared.notes.Kind.TheVariants.{Remove}
use Rattle.journal_model.specs.Notes.{note_of}
use Rattle.shard_core.specs.Keys.{channel_of}
use Rattle.shard_core.specs.Shards.{ChannelShard}
use Rattle.shard_core.proofs.KeepLaws.{kept_note, room_less, end_told}
use Rattle.shard_core.proofs.shard.Shard.remove_key.Goals as goal

pub invariant_of-self : goal.invariant_of-self
invariant_of-self c =
    let kind = Remove c.args.ts c.args.key in
    let note = note_of c.args.by c.args.line kind in
    let j = c.self.inside.journal in
    let k = c.remove_key-outcome.new.self in
    let l = c.self.inside.lagging in
    let one : 1 ≤ c.self.inside.spare = subst (λ (s : ChannelShard). 1 ≤ s.spare) (sym c.self.view_is) c.requires.room in
    let own : channel_of (arc_value c.self.inside.collection).channels c.args.key.0 ≡ j.channel.number = subst (λ (s : ChannelShard). channel_of s.collection.channels c.args.key.0 ≡ s.channel.number) (sym c.self.view_is) c.requires.channel in (
      room_less c.self.inside.spare l.room c.remove.new.self.room j k note c.self.invariant.0 one c.remove_key-outcome.ensures.note c.remove.ensures.room,
      kept_note (arc_value c.self.inside.collection) j k l c.remove.new.self note c.self.invariant.1 c.len.ensures.sound (tt, own) refl c.remove_key-outcome.ensures.note
          (c.remove.ensures.pending ∙ sym (append-nil l.pending))
          (c.remove.ensures.deaths ∙ ap (λ ds. l.deaths ++ ds) (end_told j.state.notes kind c.args.ts c.remove_key-outcome.result.ended c.remove_key-outcome.ensures.ended))
          c.remove.ensures.pieces,
    )
