use Rattle.std.proofs.Common.{◌≡◌, ◌++◌, List, ap, sym, ◌∙◌, append_assoc, Ok, Err}
use Rattle.vault.specs.declared.notes.VaultNote.{VaultNote}
use Rattle.vault.specs.Under.{put_notes, get_notes, ended}
use Rattle.vault.proofs.Answering.{stores_got}
use Rattle.vault.proofs.Sums.{faults_more, put_failed, put_wanted}
use Rattle.vault.proofs.vaults.Vault.store.Goals as goal

pub returns-in-Ok-clause-faults : goal.returns-in-Ok-clause-faults
returns-in-Ok-clause-faults g c =
    let puts : List VaultNote = put_notes c.args.by c.args.line c.as_slice.result.now (Ok c.in-Ok.field-0) in
    let gets : List VaultNote = get_notes c.args.by c.args.line c.as_slice-in-Ok.result.now (ended c.get_all.result) in
    let first : c.put_all.new.self.notes ≡ c.args.self.now.notes ++ puts = c.in-Ok.ensures.notes ∙ ap (λ (l : List VaultNote). l ++ puts) c.in_ok-reserve.ensures.notes in
    let all : c.get_all.new.self.notes ≡ c.args.self.now.notes ++ (puts ++ gets) = c.get_all.ensures.notes ∙ ap (λ (l : List VaultNote). l ++ gets) first ∙ append_assoc c.args.self.now.notes puts gets in
    faults_more c.args.by c.args.line c.as_slice-in-Ok.result.now c.kept_or_failed.result c.args.self.now.notes c.get_all.new.self.notes (puts ++ gets) all
    (stores_got c.args.by c.args.line c.as_slice-in-Ok.result.now c.get_all.result c.kept_or_failed.result (puts ++ gets) c.kept_or_failed.ensures c.get_all.ensures.named
    (ap (λ (l : List _). put_notes c.args.by c.args.line l (Ok c.in-Ok.field-0) ++ gets) (c.as_slice.ensures.value ∙ sym c.as_slice-in-Ok.ensures.value)))

pub returns-in-Err-KeepFault-clause-faults : goal.returns-in-Err-KeepFault-clause-faults
returns-in-Err-KeepFault-clause-faults g c =
    let puts : List VaultNote = put_notes c.args.by c.args.line c.as_slice.result.now (Err c.in-Err-KeepFault.field-0) in
    let first : c.put_all.new.self.notes ≡ c.args.self.now.notes ++ puts = c.in-Err-KeepFault.ensures.notes ∙ ap (λ (l : List VaultNote). l ++ puts) c.in_ok-reserve.ensures.notes in
    put_failed c.args.by c.args.line c.as_slice.result.now c.in-Err-KeepFault.field-0 c.in-Err-KeepFault.field-0-0 c.args.self.now.notes c.put_all.new.self.notes c.in-Err-KeepFault.field-0-is c.in-Err-KeepFault.ensures.named first

pub returns-clause-faults : goal.returns-clause-faults
returns-clause-faults g c =
    let puts : List VaultNote = put_notes c.args.by c.args.line c.as_slice.result.now (Err c.in-Err-Memory.field-0) in
    let first : c.put_all.new.self.notes ≡ c.args.self.now.notes ++ puts = c.in-Err-Memory.ensures.notes ∙ ap (λ (l : List VaultNote). l ++ puts) c.in_ok-reserve.ensures.notes in
    put_wanted c.args.by c.args.line c.as_slice.result.now c.in-Err-Memory.field-0 c.args.self.now.notes c.put_all.new.self.notes c.in-Err-Memory.field-0-is first
