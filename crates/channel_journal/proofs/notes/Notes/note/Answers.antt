use Rattle.std.proofs.Common.{◌≡◌, ℕ, List, ◌+◌, ◌*◌, ◌/◌, ◌%◌, ◌<◌, length, Some, arith, rules, sym, ap, subst, ◌∙◌, vec_len}
use Rattle.std.specs.Prelude.{slice_get}
use Rattle.journal_model.specs.declared.notes.Note.{Note}
use Rattle.journal_model.specs.Lists.{joined}
use Rattle.channel_journal.specs.Notes.{NoteList}
use Rattle.channel_journal.specs.Kept.{notes_in}
use Rattle.channel_journal.proofs.ListLaws.{length-joined, length-notes, slice_get_left, slice_get_right, slice_get-joined}
use Rattle.channel_journal.proofs.notes.Notes.note.Goals as goal

pub returns-then-at-len : goal.returns-then-at-len
returns-then-at-len c =
    let seen = ap (λ (n : NoteList). slice_get n.notes c.args.position) c.self.view_is in
    let chunks : length c.self.inside.full.items ≡ vec_len c.self.inside.full = search rules in
    let many = length-joined c.self.inside.full.items c.self.invariant.whole in
    let there : c.args.position / 256 < length c.self.inside.full.items = omega arith in
    let within : c.args.position % 256 < 256 = omega arith in
    let parts : 256 * (c.args.position / 256) + c.args.position % 256 ≡ c.args.position = omega arith in
    sym seen
    ∙ subst (λ (n : ℕ). slice_get (notes_in c.self.inside.full.items c.self.inside.latest) n ≡ Some c.note.result.now) parts
    (slice_get_left (joined c.self.inside.full.items) c.self.inside.latest (256 * (c.args.position / 256) + c.args.position % 256) (omega arith)
    ∙ slice_get-joined c.self.inside.full.items (c.args.position / 256) (c.args.position % 256) c.index.result.now c.self.invariant.whole there within
    ∙ ap (λ (xs : List Note). slice_get xs (c.args.position % 256)) (sym c.index.ensures)
    ∙ c.note.ensures)

pub note-requires-2 : goal.note-requires-2
note-requires-2 c =
    let chunks : length c.self.inside.full.items ≡ vec_len c.self.inside.full = search rules in
    let total = length-notes c.self.inside.full.items c.self.inside.latest c.self.invariant.whole in
    let fits = c.self.invariant.fits in
    let seen = ap (λ (n : NoteList). length n.notes) c.self.view_is in
    omega arith

pub returns : goal.returns
returns c =
    let seen = ap (λ (n : NoteList). slice_get n.notes c.args.position) c.self.view_is in
    let many_seen = ap (λ (n : NoteList). length n.notes) c.self.view_is in
    let chunks : length c.self.inside.full.items ≡ vec_len c.self.inside.full = search rules in
    let total = length-notes c.self.inside.full.items c.self.inside.latest c.self.invariant.whole in
    let many = length-joined c.self.inside.full.items c.self.invariant.whole in
    let fits = c.self.invariant.fits in
    let start : 256 * vec_len c.self.inside.full ≡ length (joined c.self.inside.full.items) = omega arith in
    let parts : 256 * vec_len c.self.inside.full + c.args.position % 256 ≡ c.args.position = omega arith in
    sym seen
    ∙ subst (λ (n : ℕ). slice_get (notes_in c.self.inside.full.items c.self.inside.latest) n ≡ Some c.note-2.result.now) parts
    (slice_get_right (joined c.self.inside.full.items) c.self.inside.latest (256 * vec_len c.self.inside.full) (c.args.position % 256) start ∙ c.note-2.ensures)
