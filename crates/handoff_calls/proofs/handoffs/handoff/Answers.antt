use Rattle.std.proofs.Common.{◌≡◌, ℕ, List, [], ◌∷◌, ap, subst, ◌∙◌}
use Rattle.turn_facts.specs.Counts.{total}
use Rattle.journal_model.specs.declared.notes.Note.{Note}
use Rattle.journal_model.specs.Layouts.{Channel}
use Rattle.seat_walks.specs.Walks.{Turned}
use Rattle.call_model.specs.Calls.{channel_at}
use Rattle.vault.specs.Notes.{faults_in}
use Rattle.handoff_calls.specs.Handoffs.{AreHands, IsHandoff, notes_of}
use Rattle.handoff_calls.proofs.Counting.{left_is_faults}
use Rattle.handoff_calls.proofs.Own.{of_line_none}
use Rattle.handoff_calls.proofs.Handing.{if_err, did_on, vault_none}
use Rattle.handoff_calls.proofs.handoffs.handoff.Goals as goal

pub returns-in_err-segments-clause-did : goal.returns-in_err-segments-clause-did
returns-in_err-segments-clause-did g c =
    let w = c.waiting.ensures.did in (
      w.0 ∷ [],
      [],
      w.1,
      vault_none c.args.seats.now.vault,
      of_line_none c.args.call.now.line,
      if_err c.from_residual.result _ c.from_residual.ensures.0,
    )

pub returns-in_err-left-clause-did : goal.returns-in_err-left-clause-did
returns-in_err-left-clause-did g c =
    let w = c.waiting.ensures.did in
    let h = c.hand_all.ensures.did in (
      w.0 ∷ h.0,
      h.1,
      did_on c.args.seats.now.front c.waiting.new.seat c.hand_all.new.seats.front (w.0 ∷ []) h.0 w.1 h.2,
      h.3,
      h.4,
      if_err c.from_residual-in_err-left.result _ c.from_residual-in_err-left.ensures.0,
    )

pub returns-clause-did : goal.returns-clause-did
returns-clause-did g c =
    let channel : Channel = channel_at c.args.front.now.collection c.args.channel in
    let nodes : ℕ = c.args.front.now.collection.nodes in
    let by : ℕ = c.args.seats.now.front.number in
    let keeps : ℕ = c.args.seats.now.vault.number in
    let line : ℕ = c.args.call.now.line in
    let w = c.in_ok-segments.ensures.did in
    let h = c.in_ok-left.ensures.did in
    let named : AreHands channel nodes by keeps line c.as_slice.result.now h.5.0 = subst (λ (n : ℕ). AreHands channel nodes n keeps line c.as_slice.result.now h.5.0) c.waiting.ensures.spends.number h.5.4 in
    let is : IsHandoff channel nodes by keeps line c.in_ok-left.left (w.0 ∷ h.0) h.1 = record {
      look = w.0;
      hands = h.5.0;
      front = ap (λ (l : List (Turned Note)). w.0 ∷ l) h.5.1;
      vault = h.5.2;
      looked = w.2;
      each = subst (λ (l : List ℕ). AreHands channel nodes by keeps line l h.5.0) (c.as_slice.ensures.value ∙ w.3) named;
      left_is = h.5.3;
    } in
    let faults : c.in_ok-left.left ≡ total faults_in (notes_of h.1) = left_is_faults channel nodes by keeps line c.in_ok-left.left (w.0 ∷ h.0) h.1 is in (
      w.0 ∷ h.0,
      h.1,
      did_on c.args.seats.now.front c.waiting.new.seat c.hand_all.new.seats.front (w.0 ∷ []) h.0 w.1 h.2,
      h.3,
      h.4,
      (faults, faults, is),
    )
