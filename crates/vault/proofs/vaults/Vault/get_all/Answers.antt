use Rattle.std.proofs.Common.{◌≡◌, ◌≤◌, ◌<◌, ◌^◌, length, sym, subst, arith, Ok, Err}
use Rattle.std.specs.Vec.{vec_len, vec_capacity}
use Rattle.vault.specs.Under.{NamesGot}
use Rattle.vault.specs.Vaults.{VaultView, room_of}
use Rattle.vault.proofs.Answering.{names_got}
use Rattle.vault.proofs.Keeping.{get_keeps, few_notes, unharmed_kept, HasAll}
use Rattle.vault.proofs.vaults.Vault.get_all.Goals as goal

pub invariant_of-self : goal.invariant_of-self
invariant_of-self g c =
    let room : length c.args.names.now ≤ room_of (vec_len c.self.inside.journal) (vec_capacity c.self.inside.journal) = subst (λ (v : VaultView). length c.args.names.now ≤ v.room) (sym c.self.view_is) c.requires.room in
    let old : vec_len c.self.inside.journal < 2 ^ 56 = omega (arith, c.self.invariant.few, c.self.inside.journal.ok.0) in
    let same : length c.note_gets.new.journal.items ≡ vec_len c.note_gets.new.journal = omega (arith, c.note_gets.new.journal.ok.0) in
    let few = few_notes (vec_len c.self.inside.journal) (vec_len c.note_gets.new.journal) (vec_capacity c.self.inside.journal) (length c.args.names.now) (length c.note_gets.new.journal.items) old room c.note_gets.ensures.most same in
    get_keeps c.args.by c.args.line c.args.names.now (Ok c.in-Ok.got) c.self.inside.journal.items c.note_gets.new.journal.items _ _ _ _ _ _ _ c.note_gets.ensures.notes few c.self.invariant c.in-Ok.ensures.telling c.in-Ok.ensures.cause (λ told. tt)

pub invariant_of-self-in-Err : goal.invariant_of-self-in-Err
invariant_of-self-in-Err g c =
    let room : length c.args.names.now ≤ room_of (vec_len c.self.inside.journal) (vec_capacity c.self.inside.journal) = subst (λ (v : VaultView). length c.args.names.now ≤ v.room) (sym c.self.view_is) c.requires.room in
    let old : vec_len c.self.inside.journal < 2 ^ 56 = omega (arith, c.self.invariant.few, c.self.inside.journal.ok.0) in
    let same : length c.note_gets-in-Err.new.journal.items ≡ vec_len c.note_gets-in-Err.new.journal = omega (arith, c.note_gets-in-Err.new.journal.ok.0) in
    let few = few_notes (vec_len c.self.inside.journal) (vec_len c.note_gets-in-Err.new.journal) (vec_capacity c.self.inside.journal) (length c.args.names.now) (length c.note_gets-in-Err.new.journal.items) old room c.note_gets-in-Err.ensures.most same in
    let held = subst (λ (v : VaultView). HasAll c.args.part.now v.kept) (sym c.self.view_is) c.requires.held in
    get_keeps c.args.by c.args.line c.args.names.now (Err c.in-Err.error) c.self.inside.journal.items c.note_gets-in-Err.new.journal.items _ _ _ _ _ _ _ c.note_gets-in-Err.ensures.notes few c.self.invariant c.in-Err.ensures.telling c.in-Err.ensures.cause
    (unharmed_kept c.args.part.now _ (g.K.Keeper.kept c.self.inside.keeper) (Err c.in-Err.error) c.self.invariant.tells held c.in-Err.ensures.unharmed)

pub returns-in-Err-clause-named : goal.returns-in-Err-clause-named
returns-in-Err-clause-named g c = subst (λ names. NamesGot names (Err c.in-Err.error)) (sym c.requires.names) (names_got c.args.part.now _ (Err c.in-Err.error) c.in-Err.ensures.fetched)
