use Rattle.std.proofs.Common.{refl, arith}
use Rattle.journal_model.specs.declared.notes.Kind.TheVariants.{Look}
use Rattle.journal_model.specs.Notes.{note_of}
use Rattle.journal_model.proofs.CallLaws.{look_step}
use Rattle.channel_journal.specs.Fields.{channel_of, journal}
use Rattle.channel_journal.proofs.KeptLaws.{less_room, kept_look}
use Rattle.channel_journal.proofs.journal.Journal.note_look.Goals as goal

pub invariant_of-self : goal.invariant_of-self
invariant_of-self c = (
  less_room c.self.inside.spare c.self.inside.notes.spare c.self.inside.index.spare c.push.new.self.spare c.self.inside.index.spare c.self.invariant.0 c.push.ensures.spare (omega arith),
  rw c.push.ensures.notes (kept_look (channel_of c.self.inside) c.self.inside.floor.0 c.self.inside.tick.0 c.self.inside.taken c.self.inside.tail_rows c.self.inside.live c.self.inside.notes.notes c.self.inside.index.map
      (note_of c.args.by c.args.line (Look c.args.guarantee)) c.push.ensures.few c.args.guarantee refl c.self.invariant.1
      (look_step (channel_of c.self.inside) (journal c.self.inside).state c.args.by c.args.line c.args.guarantee)),
)

pub invariant_of-self-2 : goal.invariant_of-self-2
invariant_of-self-2 c = (
  less_room c.self.inside.spare c.self.inside.notes.spare c.self.inside.index.spare c.push.new.self.spare c.self.inside.index.spare c.self.invariant.0 c.push.ensures.spare (omega arith),
  rw c.push.ensures.notes (kept_look (channel_of c.self.inside) c.self.inside.floor.0 c.self.inside.tick.0 c.self.inside.taken c.self.inside.tail_rows c.self.inside.live c.self.inside.notes.notes c.self.inside.index.map
      (note_of c.args.by c.args.line (Look c.args.guarantee)) c.push.ensures.few c.args.guarantee refl c.self.invariant.1
      (look_step (channel_of c.self.inside) (journal c.self.inside).state c.args.by c.args.line c.args.guarantee)),
)
