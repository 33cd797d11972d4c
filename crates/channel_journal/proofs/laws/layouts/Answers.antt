use Rattle.std.proofs.Common.{None}
use Rattle.journal_model.specs.declared.notes.Kind.TheVariants.{Remove, Tick, Look}
use Rattle.journal_model.specs.Notes.{note_of}
use Rattle.journal_model.specs.Layouts.{layout_of}
use Rattle.journal_model.proofs.LayoutLaws.{layout-snoc}
use Rattle.channel_journal.proofs.LayoutNotes.{is_number, after_put, put_stays, put_fills, sealed_stays, sealed_fills}
use Rattle.channel_journal.proofs.laws.layouts.Goals as goal

pub returns-clause-refused : goal.returns-clause-refused
returns-clause-refused c = λ channel notes by line ts how row e. after_put channel notes by line ts how row None e

pub returns-clause-added : goal.returns-clause-added
returns-clause-added c = put_stays

pub returns-clause-filled : goal.returns-clause-filled
returns-clause-filled c = put_fills

pub returns-clause-kept : goal.returns-clause-kept
returns-clause-kept c = sealed_stays

pub returns-clause-sealed : goal.returns-clause-sealed
returns-clause-sealed c = sealed_fills

pub returns-clause-removed : goal.returns-clause-removed
returns-clause-removed c = λ channel notes by line ts key. layout-snoc channel notes (note_of by line (Remove ts key))

pub returns-clause-ticked : goal.returns-clause-ticked
returns-clause-ticked c = λ channel notes by line ts. layout-snoc channel notes (note_of by line (Tick ts))

pub returns-clause-looked : goal.returns-clause-looked
returns-clause-looked c = λ channel notes by line guarantee. layout-snoc channel notes (note_of by line (Look guarantee))

pub returns-clause-number : goal.returns-clause-number
returns-clause-number c = λ channel notes more number e. is_number channel (layout_of channel notes) (layout_of channel more) number e
