use Rattle.std.proofs.Common.{◌≡◌, length, rules, arith, ap, vec_len}
use Rattle.channel_journal.specs.Notes.{NoteList}
use Rattle.channel_journal.proofs.ListLaws.{length-notes}
use Rattle.channel_journal.proofs.notes.Notes.len.Goals as goal

pub overflow_mul-result : goal.overflow_mul-result
overflow_mul-result c =
    let chunks : length c.self.inside.full.items ≡ vec_len c.self.inside.full = search rules in
    let total = length-notes c.self.inside.full.items c.self.inside.latest c.self.invariant.whole in
    let few = c.self.invariant.few in
    omega arith

pub overflow_add-result : goal.overflow_add-result
overflow_add-result c =
    let chunks : length c.self.inside.full.items ≡ vec_len c.self.inside.full = search rules in
    let total = length-notes c.self.inside.full.items c.self.inside.latest c.self.invariant.whole in
    let few = c.self.invariant.few in
    omega arith

pub returns-clause-len : goal.returns-clause-len
returns-clause-len c =
    let chunks : length c.self.inside.full.items ≡ vec_len c.self.inside.full = search rules in
    let total = length-notes c.self.inside.full.items c.self.inside.latest c.self.invariant.whole in
    let seen = ap (λ (n : NoteList). length n.notes) c.self.view_is in
    omega arith

pub returns-clause-few : goal.returns-clause-few
returns-clause-few c =
    let chunks : length c.self.inside.full.items ≡ vec_len c.self.inside.full = search rules in
    let total = length-notes c.self.inside.full.items c.self.inside.latest c.self.invariant.whole in
    let few = c.self.invariant.few in
    omega arith
