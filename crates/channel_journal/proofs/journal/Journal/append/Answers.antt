use Rattle.std.proofs.Common.{◌≡◌, ◌+◌, true, subst, sym, refl, ap, arith}
use Rattle.journal_model.specs.Notes.{note_of}
use Rattle.journal_model.specs.Runs.{is_step}
use Rattle.channel_journal.specs.Notes.{ChannelJournal}
use Rattle.channel_journal.specs.Fields.{channel_of, journal}
use Rattle.channel_journal.proofs.KeptLaws.{less_room, kept_as, kept_upkeep}
use Rattle.channel_journal.proofs.journal.Journal.append.Goals as goal

pub invariant_of-self : goal.invariant_of-self
invariant_of-self c =
    let step : is_step (channel_of c.self.inside) (journal c.self.inside).state (note_of c.args.by c.args.line c.args.kind) ≡ true =
    subst (λ (j : ChannelJournal). is_step j.channel j.state (note_of c.args.by c.args.line c.args.kind) ≡ true) (sym c.self.view_is) c.requires.step in (
      less_room c.self.inside.spare c.self.inside.notes.spare c.self.inside.index.spare c.push.new.self.spare c.self.inside.index.spare c.self.invariant.0 c.push.ensures.spare (omega arith),
      kept_as _ _ _ _ _ _ _ _ _ _ _ _ _ (ap (λ n. c.self.inside.taken + n) c.count_upkeep-numbers.ensures.numbers) refl refl c.push.ensures.notes refl
          (kept_upkeep (channel_of c.self.inside) c.self.inside.floor.0 c.self.inside.tick.0 c.self.inside.taken c.self.inside.tail_rows c.self.inside.live c.self.inside.notes.notes c.self.inside.index.map
          (note_of c.args.by c.args.line c.args.kind) c.push.ensures.few c.requires.upkeep c.self.invariant.1 step),
    )
