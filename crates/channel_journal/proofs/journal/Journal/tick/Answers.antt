use Rattle.std.proofs.Common.{subst, sym, refl, arith}
use Rattle.journal_model.specs.declared.notes.Kind.TheVariants.{Tick}
use Rattle.journal_model.specs.Notes.{note_of}
use Rattle.journal_model.specs.Journals.{AreBelow}
use Rattle.journal_model.proofs.CallLaws.{tick_step}
use Rattle.channel_journal.specs.Notes.{ChannelJournal}
use Rattle.channel_journal.specs.Fields.{channel_of, journal}
use Rattle.channel_journal.proofs.KeptLaws.{less_room, kept_tick}
use Rattle.channel_journal.proofs.journal.Journal.tick.Goals as goal

pub invariant_of-self : goal.invariant_of-self
invariant_of-self c =
    let below : AreBelow c.args.ts.0 c.self.inside.notes.notes = subst (λ (j : ChannelJournal). AreBelow c.args.ts.0 j.state.notes) (sym c.self.view_is) c.requires.below in (
      less_room c.self.inside.spare c.self.inside.notes.spare c.self.inside.index.spare c.push.new.self.spare c.self.inside.index.spare c.self.invariant.0 c.push.ensures.spare (omega arith),
      rw c.push.ensures.notes (kept_tick (channel_of c.self.inside) c.self.inside.floor.0 c.self.inside.tick.0 c.self.inside.taken c.self.inside.tail_rows c.self.inside.live c.self.inside.notes.notes c.self.inside.index.map
          (note_of c.args.by c.args.line (Tick c.args.ts)) c.push.ensures.few c.args.ts refl c.self.invariant.1
          (tick_step (channel_of c.self.inside) (journal c.self.inside).state c.args.by c.args.line c.args.ts below)),
    )
