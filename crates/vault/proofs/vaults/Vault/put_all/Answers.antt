use Rattle.std.proofs.Common.{◌≡◌, ◌≤◌, ◌<◌, ◌^◌, length, sym, subst, arith}
use Rattle.std.specs.Vec.{vec_len, vec_capacity}
use Rattle.vault.specs.Under.{NamesPut}
use Rattle.vault.specs.Vaults.{VaultView, room_of}
use Rattle.vault.proofs.Answering.{names_put}
use Rattle.vault.proofs.Keeping.{put_keeps, few_notes}
use Rattle.vault.proofs.vaults.Vault.put_all.Goals as goal

pub invariant_of-self : goal.invariant_of-self
invariant_of-self g c =
    let room : length c.args.names.now ≤ room_of (vec_len c.self.inside.journal) (vec_capacity c.self.inside.journal) = subst (λ (v : VaultView). length c.args.names.now ≤ v.room) (sym c.self.view_is) c.requires.room in
    let old : vec_len c.self.inside.journal < 2 ^ 56 = omega (arith, c.self.invariant.few, c.self.inside.journal.ok.0) in
    let same : length c.note_puts.new.journal.items ≡ vec_len c.note_puts.new.journal = omega (arith, c.note_puts.new.journal.ok.0) in
    let few = few_notes (vec_len c.self.inside.journal) (vec_len c.note_puts.new.journal) (vec_capacity c.self.inside.journal) (length c.args.names.now) (length c.note_puts.new.journal.items) old room c.note_puts.ensures.most same in
    put_keeps c.args.by c.args.line c.args.names.now c.flush-done.result c.self.inside.journal.items c.note_puts.new.journal.items _ _ _ _ _ _ _ c.note_puts.ensures.notes few c.self.invariant c.flush-done.ensures.telling c.flush-done.ensures.cause

pub returns-clause-named : goal.returns-clause-named
returns-clause-named g c = subst (λ names. NamesPut names c.flush-done.result) (sym c.requires.names) (names_put c.args.part.now _ _ c.flush-done.result c.flush-done.ensures.stored)
