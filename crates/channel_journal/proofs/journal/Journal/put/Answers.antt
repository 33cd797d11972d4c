use Rattle.std.proofs.Common.{◌≡◌, ◌∙◌, ℕ, true, false, None, Some, length, subst, sym, refl, ap, ap₂, arith}
use Rattle.std.specs.Prelude.{is_some}
use Rattle.std.specs.FinMap as fin
use Rattle.row_types.specs.declared.rows.Row.{Row}
use Rattle.log_model.specs.Places.{Placed, placed}
use Rattle.journal_model.specs.declared.notes.Kind.TheVariants.{Put}
use Rattle.journal_model.specs.Notes.{note_of, live_in}
use Rattle.journal_model.specs.Journals.{may_follow}
use Rattle.journal_model.specs.Puts.{effective_put}
use Rattle.journal_model.specs.Answers.{Written}
use Rattle.journal_model.specs.Layouts.{Layout, layout_of}
use Rattle.journal_model.proofs.CallLaws.{put_step}
use Rattle.channel_journal.specs.Notes.{ChannelJournal, number_taken}
use Rattle.channel_journal.specs.Fields.{channel_of, journal}
use Rattle.channel_journal.specs.Kept.{admits, live_after_put, number_after_put}
use Rattle.channel_journal.proofs.IndexNotes.{live_found, refused_insert, effective_admitted, effective_refused}
use Rattle.channel_journal.proofs.LayoutNotes.{none_taken, number-row, after_put}
use Rattle.channel_journal.proofs.KeptLaws.{less_room, kept_as, kept_put, kept_refused}
use Rattle.channel_journal.proofs.journal.Journal.put.Goals as goal

pub invariant_of-self : goal.invariant_of-self
invariant_of-self c =
    let follows : may_follow c.self.inside.notes.notes (note_of c.args.by c.args.line (Put c.args.ts c.args.how c.args.row)) ≡ true =
    subst (λ (j : ChannelJournal). may_follow j.state.notes (note_of c.args.by c.args.line (Put c.args.ts c.args.how c.args.row)) ≡ true) (sym c.self.view_is) c.requires.follows in
    let at : fin.get c.self.inside.index.map c.args.row.key.0 ≡ c.find-found.result = sym (c.find-found.ensures ∙ ap (λ (r : Row). fin.get c.self.inside.index.map r.key.0) c.get.ensures) in
    let off : admits c.args.how (fin.get c.self.inside.index.map c.args.row.key.0) ≡ false = ap (admits c.args.how) at ∙ sym c.is_admitted.ensures ∙ c.if-not-is_admitted.true in (
      less_room c.self.inside.spare c.self.inside.notes.spare c.self.inside.index.spare c.push.new.self.spare c.self.inside.index.spare c.self.invariant.0 c.push.ensures.spare (omega arith),
      rw c.push.ensures.notes (kept_refused (channel_of c.self.inside) c.self.inside.floor.0 c.self.inside.tick.0 c.self.inside.taken c.self.inside.tail_rows c.self.inside.live c.self.inside.notes.notes c.self.inside.index.map
          (note_of c.args.by c.args.line (Put c.args.ts c.args.how c.args.row)) c.push.ensures.few c.args.ts c.args.how c.args.row refl off c.self.invariant.1
          (put_step (channel_of c.self.inside) (journal c.self.inside).state c.args.by c.args.line c.args.ts c.args.how c.args.row c.requires.dated follows)),
    )

pub returns-then-not-is_admitted-clause-answer : goal.returns-then-not-is_admitted-clause-answer
returns-then-not-is_admitted-clause-answer c =
    let at : fin.get c.self.inside.index.map c.args.row.key.0 ≡ c.find-found.result = sym (c.find-found.ensures ∙ ap (λ (r : Row). fin.get c.self.inside.index.map r.key.0) c.get.ensures) in
    let off : admits c.args.how (fin.get c.self.inside.index.map c.args.row.key.0) ≡ false = ap (admits c.args.how) at ∙ sym c.is_admitted.ensures ∙ c.if-not-is_admitted.true in
    ap (λ (j : ChannelJournal). Written (fin.contains_key (live_in j.state.notes) c.args.row.key.0)) (sym c.self.view_is)
    ∙ ap Written (live_found c.self.inside.index.map c.self.inside.notes.notes c.args.row.key.0 c.self.invariant.1.indexed ∙ (refused_insert c.args.how (fin.get c.self.inside.index.map c.args.row.key.0) off).1)

pub returns-then-not-is_admitted-clause-added : goal.returns-then-not-is_admitted-clause-added
returns-then-not-is_admitted-clause-added c =
    let at : fin.get c.self.inside.index.map c.args.row.key.0 ≡ c.find-found.result = sym (c.find-found.ensures ∙ ap (λ (r : Row). fin.get c.self.inside.index.map r.key.0) c.get.ensures) in
    let off : admits c.args.how (fin.get c.self.inside.index.map c.args.row.key.0) ≡ false = ap (admits c.args.how) at ∙ sym c.is_admitted.ensures ∙ c.if-not-is_admitted.true in
    ap (λ (j : ChannelJournal). effective_put j.state.notes c.args.ts.0 c.args.how c.args.row) (sym c.self.view_is)
    ∙ effective_refused c.self.inside.index.map c.self.inside.notes.notes c.args.ts.0 c.args.how c.args.row c.self.invariant.1.indexed off

pub returns-then-not-is_admitted-clause-sealed : goal.returns-then-not-is_admitted-clause-sealed
returns-then-not-is_admitted-clause-sealed c =
    let at : fin.get c.self.inside.index.map c.args.row.key.0 ≡ c.find-found.result = sym (c.find-found.ensures ∙ ap (λ (r : Row). fin.get c.self.inside.index.map r.key.0) c.get.ensures) in
    let off : admits c.args.how (fin.get c.self.inside.index.map c.args.row.key.0) ≡ false = ap (admits c.args.how) at ∙ sym c.is_admitted.ensures ∙ c.if-not-is_admitted.true in
    ap (λ (j : ChannelJournal). number_taken j.channel (layout_of j.channel j.state.notes) (layout_of j.channel c.push.new.self.notes)) (sym c.self.view_is)
    ∙ none_taken (channel_of c.self.inside) (layout_of (channel_of c.self.inside) c.self.inside.notes.notes) (layout_of (channel_of c.self.inside) c.push.new.self.notes)
    (ap (λ notes. (layout_of (channel_of c.self.inside) notes).taken) c.push.ensures.notes
    ∙ ap (λ (l : Layout). l.taken) (after_put (channel_of c.self.inside) c.self.inside.notes.notes c.args.by c.args.line c.args.ts c.args.how c.args.row None
    (effective_refused c.self.inside.index.map c.self.inside.notes.notes c.args.ts.0 c.args.how c.args.row c.self.invariant.1.indexed off)))

pub invariant_of-self-2 : goal.invariant_of-self-2
invariant_of-self-2 c =
    let follows : may_follow c.self.inside.notes.notes (note_of c.args.by c.args.line (Put c.args.ts c.args.how c.args.row)) ≡ true =
    subst (λ (j : ChannelJournal). may_follow j.state.notes (note_of c.args.by c.args.line (Put c.args.ts c.args.how c.args.row)) ≡ true) (sym c.self.view_is) c.requires.follows in
    let at : fin.get c.self.inside.index.map c.args.row.key.0 ≡ c.find-found.result = sym (c.find-found.ensures ∙ ap (λ (r : Row). fin.get c.self.inside.index.map r.key.0) c.get.ensures) in
    let on : admits c.args.how (fin.get c.self.inside.index.map c.args.row.key.0) ≡ true = ap (admits c.args.how) at ∙ sym c.is_admitted.ensures ∙ c.if-not-is_admitted.false in (
      less_room c.self.inside.spare c.self.inside.notes.spare c.self.inside.index.spare c.push.new.self.spare c.set.new.self.spare c.self.invariant.0 c.push.ensures.spare c.set.ensures.spare,
      kept_as _ _ _ _ _ _ _ _ _ _ _ _ _ c.count_row-sealed.ensures.taken c.count_row-sealed.ensures.tail
          (c.count_put-self-inside.ensures ∙ ap (λ found. live_after_put found c.self.inside.live) (sym at))
          c.push.ensures.notes
          (c.set.ensures.map ∙ ap₂ (λ (r : Row) (n : ℕ). fin.insert c.self.inside.index.map r.key.0 n) c.get.ensures c.len-position.ensures.len)
          (kept_put (channel_of c.self.inside) c.self.inside.floor.0 c.self.inside.tick.0 c.self.inside.taken c.self.inside.tail_rows c.self.inside.live c.self.inside.notes.notes c.self.inside.index.map
          (note_of c.args.by c.args.line (Put c.args.ts c.args.how c.args.row)) c.push.ensures.few c.args.ts c.args.how c.args.row refl on c.self.invariant.1
          (put_step (channel_of c.self.inside) (journal c.self.inside).state c.args.by c.args.line c.args.ts c.args.how c.args.row c.requires.dated follows)),
    )

pub returns-clause-answer : goal.returns-clause-answer
returns-clause-answer c =
    let at : fin.get c.self.inside.index.map c.args.row.key.0 ≡ c.find-found.result = sym (c.find-found.ensures ∙ ap (λ (r : Row). fin.get c.self.inside.index.map r.key.0) c.get.ensures) in
    ap (λ (j : ChannelJournal). Written (fin.contains_key (live_in j.state.notes) c.args.row.key.0)) (sym c.self.view_is)
    ∙ ap Written (live_found c.self.inside.index.map c.self.inside.notes.notes c.args.row.key.0 c.self.invariant.1.indexed ∙ ap is_some at)

pub returns-clause-added : goal.returns-clause-added
returns-clause-added c =
    let at : fin.get c.self.inside.index.map c.args.row.key.0 ≡ c.find-found.result = sym (c.find-found.ensures ∙ ap (λ (r : Row). fin.get c.self.inside.index.map r.key.0) c.get.ensures) in
    let on : admits c.args.how (fin.get c.self.inside.index.map c.args.row.key.0) ≡ true = ap (admits c.args.how) at ∙ sym c.is_admitted.ensures ∙ c.if-not-is_admitted.false in
    ap (λ (j : ChannelJournal). effective_put j.state.notes c.args.ts.0 c.args.how c.args.row) (sym c.self.view_is)
    ∙ effective_admitted c.self.inside.index.map c.self.inside.notes.notes c.args.ts.0 c.args.how c.args.row c.self.invariant.1.indexed on
    ∙ ap (λ (j : ChannelJournal). Some (placed (length j.state.notes) c.args.ts.0 c.args.row)) c.self.view_is

pub returns-clause-sealed : goal.returns-clause-sealed
returns-clause-sealed c =
    let at : fin.get c.self.inside.index.map c.args.row.key.0 ≡ c.find-found.result = sym (c.find-found.ensures ∙ ap (λ (r : Row). fin.get c.self.inside.index.map r.key.0) c.get.ensures) in
    let on : admits c.args.how (fin.get c.self.inside.index.map c.args.row.key.0) ≡ true = ap (admits c.args.how) at ∙ sym c.is_admitted.ensures ∙ c.if-not-is_admitted.false in
    let x : Placed = placed (length c.self.inside.notes.notes) c.args.ts.0 c.args.row in
    ap (λ (j : ChannelJournal). number_taken j.channel (layout_of j.channel j.state.notes) (layout_of j.channel c.push.new.self.notes)) (sym c.self.view_is)
    ∙ ap (number_taken (channel_of c.self.inside) (layout_of (channel_of c.self.inside) c.self.inside.notes.notes))
    (ap (layout_of (channel_of c.self.inside)) c.push.ensures.notes
    ∙ after_put (channel_of c.self.inside) c.self.inside.notes.notes c.args.by c.args.line c.args.ts c.args.how c.args.row (Some x)
    (effective_admitted c.self.inside.index.map c.self.inside.notes.notes c.args.ts.0 c.args.how c.args.row c.self.invariant.1.indexed on))
    ∙ number-row (channel_of c.self.inside) (layout_of (channel_of c.self.inside) c.self.inside.notes.notes) x
    ∙ ap₂ (number_after_put (channel_of c.self.inside)) (sym c.self.invariant.1.tail_is) (sym c.self.invariant.1.taken_is)
    ∙ sym c.count_row-sealed.ensures.number
