use Rattle.std.proofs.Common.{◌≡◌, ◌≤◌, take}
use Rattle.turn_facts.specs.Counts.{total}
use Rattle.vault.specs.Notes.{faults_in}
use Rattle.vault.proofs.vaults.Vault.failed.Given as goal

abbrev pub invariant-loop-note : goal.invariant-loop-note
invariant-loop-note g l = record {
  same : l.failed ≡ total faults_in (take l.note-index l.since);
  few : l.failed ≤ l.note-index;
}
