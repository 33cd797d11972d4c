use Rattle.std.proofs.Common.{◌≡◌, ◌∙◌, true, subst, sym, refl, ap, arith}
use Rattle.std.specs.Prelude.{is_some}
use Rattle.journal_model.specs.declared.notes.Kind.TheVariants.{Remove}
use Rattle.journal_model.specs.Notes.{note_of}
use Rattle.journal_model.specs.Journals.{may_follow}
use Rattle.journal_model.specs.Answers.{Written, answer_at}
use Rattle.journal_model.proofs.CallLaws.{remove_step}
use Rattle.channel_journal.specs.Notes.{ChannelJournal}
use Rattle.channel_journal.specs.Fields.{channel_of, journal}
use Rattle.channel_journal.specs.Kept.{live_after_remove}
use Rattle.channel_journal.proofs.IndexNotes.{live_found}
use Rattle.channel_journal.proofs.KeptLaws.{less_room, kept_as, kept_remove}
use Rattle.channel_journal.proofs.journal.Journal.remove_key.Goals as goal

pub invariant_of-self : goal.invariant_of-self
invariant_of-self c =
    let follows : may_follow c.self.inside.notes.notes (note_of c.args.by c.args.line (Remove c.args.ts c.args.key)) ≡ true =
    subst (λ (j : ChannelJournal). may_follow j.state.notes (note_of c.args.by c.args.line (Remove c.args.ts c.args.key)) ≡ true) (sym c.self.view_is) c.requires.follows in (
      less_room c.self.inside.spare c.self.inside.notes.spare c.self.inside.index.spare c.push.new.self.spare c.clear.new.self.spare c.self.invariant.0 c.push.ensures.spare (let kept = c.clear.ensures.spare in omega arith),
      kept_as _ _ _ _ _ _ _ _ _ _ _ _ _ refl refl (c.count_remove-self-inside.ensures ∙ ap (λ found. live_after_remove found c.self.inside.live) c.find-found.ensures) c.push.ensures.notes c.clear.ensures.map
          (kept_remove (channel_of c.self.inside) c.self.inside.floor.0 c.self.inside.tick.0 c.self.inside.taken c.self.inside.tail_rows c.self.inside.live c.self.inside.notes.notes c.self.inside.index.map
          (note_of c.args.by c.args.line (Remove c.args.ts c.args.key)) c.push.ensures.few c.args.ts c.args.key refl c.self.invariant.1
          (remove_step (channel_of c.self.inside) (journal c.self.inside).state c.args.by c.args.line c.args.ts c.args.key c.requires.dated follows)),
    )

pub returns-clause-answer : goal.returns-clause-answer
returns-clause-answer c =
    ap (λ (j : ChannelJournal). answer_at j.channel j.state.notes (Remove c.args.ts c.args.key)) (sym c.self.view_is)
    ∙ ap Written (live_found c.self.inside.index.map c.self.inside.notes.notes c.args.key.0 c.self.invariant.1.indexed ∙ ap is_some (sym c.find-found.ensures))
