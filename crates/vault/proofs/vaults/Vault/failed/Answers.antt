use Rattle.std.proofs.Common.{◌-◌, List, length, take, drop, sym, arith}
use Rattle.vault.specs.declared.notes.KeeperCall.TheVariants.{Put}
use Rattle.vault.specs.declared.notes.Outcome.TheVariants.{Done}
use Rattle.vault.specs.declared.notes.VaultNote.{VaultNote}
use Rattle.vault.specs.Notes.{note_of, faults_in}
use Rattle.vault.proofs.Sums.{total-nil, faults_step, faults_few}
use Rattle.vault.proofs.vaults.Vault.failed.Goals as goal

pub loop-note-init : goal.loop-note-init
loop-note-init g c = record { same = sym (total-nil faults_in); few = omega arith }

pub loop-note-preserved : goal.loop-note-preserved
loop-note-preserved g c =
    let since : List VaultNote = take (length c.as_slice.result.now - c.self.inside.met) (drop c.self.inside.met c.as_slice.result.now) in
    let blank : VaultNote = note_of 0 0 Put 0 Done in
    record {
      same = faults_step since c.loop-note.note-index blank c.loop-note.failed c.with_fault-failed.result c.loop-note-test.true c.loop-note.invariant.same c.with_fault-failed.ensures;
      few = faults_few since c.loop-note.note-index blank c.loop-note.failed c.with_fault-failed.result c.loop-note.invariant.few c.with_fault-failed.ensures;
    }
