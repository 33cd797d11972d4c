use Rattle.std.proofs.Common.{◌≡◌, ◌≤◌, ◌++◌, sym, ap, subst, refl, ◌∙◌}
use Rattle.std.specs.Arc.{arc_value}
use Rattle.journal_model.specs.declared.notes.Kind.TheVariants.{Put}
use Rattle.journal_model.specs.Notes.{note_of}
use Rattle.coarse_lists.specs.Collections.{IsRowOf}
use Rattle.shard_core.specs.Keys.{channel_of}
use Rattle.shard_core.specs.Shards.{ChannelShard}
use Rattle.channel_journal.specs.Outcomes.{ended_row}
use Rattle.shard_core.proofs.KeepLaws.{kept_note, room_less, put_told, end_told}
use Rattle.shard_core.proofs.shard.Shard.put.Goals as goal

pub invariant_of-self : goal.invariant_of-self
invariant_of-self c =
    let kind = Put c.args.ts c.args.how c.args.row in
    let note = note_of c.args.by c.args.line kind in
    let j = c.self.inside.journal in
    let k = c.put-outcome.new.self in
    let l = c.self.inside.lagging in
    let one : 1 ≤ c.self.inside.spare = subst (λ (s : ChannelShard). 1 ≤ s.spare) (sym c.self.view_is) c.requires.room in
    let fits : IsRowOf (arc_value c.self.inside.collection) c.args.row = subst (λ (s : ChannelShard). IsRowOf s.collection c.args.row) (sym c.self.view_is) c.requires.fits in
    let key : channel_of (arc_value c.self.inside.collection).channels c.args.row.key.0 ≡ j.channel.number = subst (λ (s : ChannelShard). channel_of s.collection.channels c.args.row.key.0 ≡ s.channel.number) (sym c.self.view_is) c.requires.channel in (
      room_less c.self.inside.spare l.room c.put.new.self.room j k note c.self.invariant.0 one c.put-outcome.ensures.note c.put.ensures.room,
      kept_note (arc_value c.self.inside.collection) j k l c.put.new.self note c.self.invariant.1 c.len-position.ensures.sound (fits, key) refl c.put-outcome.ensures.note
          (c.put.ensures.pending ∙ ap (λ ps. l.pending ++ ps) (put_told j k note c.put-outcome.ensures.note c.args.ts c.args.how c.args.row c.put-outcome.result c.len-position.result refl c.len-position.ensures.len c.put-outcome.ensures.added c.put-outcome.ensures.sealed))
          (c.put.ensures.deaths ∙ ap (λ ds. l.deaths ++ ds) (end_told j.state.notes kind c.args.ts (ended_row c.put-outcome.result) c.put-outcome.ensures.ended))
          c.put.ensures.pieces,
    )
