-- What the account of an engine tells of its output. This is the proof of a law of engines, and nothing here need be believed.
use Rattle.std.proofs.Common.{◌≡◌, ℕ, List, [], ◌∷◌, sym, subst}
use Rattle.std.specs.Prelude.{Option, Some, None}
use Rattle.phase_laws.proofs.Going.{is_stopped}
use Rattle.legal_output.specs.Phases.{lines_in}
use Rattle.phase_channels.specs.Rests.{collection_in}
use Rattle.phase_engine.specs.declared.running.Running.{Running}
use Rattle.phase_engine.specs.Outputs.{asked_in, stopped_at}
use Rattle.phase_engine.specs.Accounts.{IsAccount}

pub account_stands : (least : ℕ) (running : Option Running) (done waiting : List (List ℕ)) (output : List ℕ) → IsAccount least running done waiting output → stopped_at least done output
account_stands least None done waiting output told = subst (λ (l : List (List ℕ)). stopped_at least l output) (sym told.0) told.2
account_stands least (Some running) done waiting output told =
    let collection = collection_in running.channels in
    subst (λ (l : List (List ℕ)). stopped_at least l output) (sym told.split) (record {
      collection = collection;
      header_is = told.header_is;
      lines = lines_in told.phases;
      text = told.text;
      legal = is_stopped collection least told.phases told.rest (asked_in collection told.lines) told.ran told.numbered told.asked;
      drawn_from = told.ran.timely;
    })

-- where the moments are the same, what was stopped stays so
pub stays_stopped : {X : Type 0} (least : X → ℕ) (first second : X) (done : List (List ℕ)) (output : List ℕ) → second ≡ first → stopped_at (least first) done output → stopped_at (least second) done output
stays_stopped {X} least first second done output same told = subst (λ (x : X). stopped_at (least x) done output) (sym same) told
