use Rattle.std.proofs.Common.{◌∙◌, subst, sym, refl, ap, ap₂, arith}
use Rattle.journal_model.specs.declared.notes.Kind.TheVariants.{Seal}
use Rattle.journal_model.specs.Notes.{note_of}
use Rattle.journal_model.specs.Journals.{AreBelow}
use Rattle.journal_model.specs.Layouts.{layout_of}
use Rattle.journal_model.proofs.LayoutLaws.{layout-snoc}
use Rattle.journal_model.proofs.CallLaws.{seal_step}
use Rattle.channel_journal.specs.Notes.{ChannelJournal, number_taken}
use Rattle.channel_journal.specs.Fields.{channel_of, journal}
use Rattle.channel_journal.specs.Kept.{number_after_seal}
use Rattle.channel_journal.proofs.LayoutNotes.{number-seal}
use Rattle.channel_journal.proofs.KeptLaws.{less_room, kept_as, kept_seal}
use Rattle.channel_journal.proofs.journal.Journal.seal.Goals as goal

pub invariant_of-self : goal.invariant_of-self
invariant_of-self c =
    let below : AreBelow c.args.ts.0 c.self.inside.notes.notes = subst (λ (j : ChannelJournal). AreBelow c.args.ts.0 j.state.notes) (sym c.self.view_is) c.requires.below in (
      less_room c.self.inside.spare c.self.inside.notes.spare c.self.inside.index.spare c.push.new.self.spare c.self.inside.index.spare c.self.invariant.0 c.push.ensures.spare (omega arith),
      kept_as _ _ _ _ _ _ _ _ _ _ _ _ _ c.count_seal.ensures.taken c.count_seal.ensures.tail refl c.push.ensures.notes refl
          (kept_seal (channel_of c.self.inside) c.self.inside.floor.0 c.self.inside.tick.0 c.self.inside.taken c.self.inside.tail_rows c.self.inside.live c.self.inside.notes.notes c.self.inside.index.map
          (note_of c.args.by c.args.line (Seal c.args.ts)) c.push.ensures.few c.args.ts refl c.self.invariant.1
          (seal_step (channel_of c.self.inside) (journal c.self.inside).state c.args.by c.args.line c.args.ts below)),
    )

pub returns-clause-sealed : goal.returns-clause-sealed
returns-clause-sealed c =
    ap (λ (j : ChannelJournal). number_taken j.channel (layout_of j.channel j.state.notes) (layout_of j.channel c.push.new.self.notes)) (sym c.self.view_is)
    ∙ ap (number_taken (channel_of c.self.inside) (layout_of (channel_of c.self.inside) c.self.inside.notes.notes))
    (ap (layout_of (channel_of c.self.inside)) c.push.ensures.notes ∙ layout-snoc (channel_of c.self.inside) c.self.inside.notes.notes (note_of c.args.by c.args.line (Seal c.args.ts)))
    ∙ number-seal (channel_of c.self.inside) (layout_of (channel_of c.self.inside) c.self.inside.notes.notes)
    ∙ ap₂ (number_after_seal (channel_of c.self.inside)) (sym c.self.invariant.1.tail_is) (sym c.self.invariant.1.taken_is)
    ∙ sym c.count_seal.ensures.number
