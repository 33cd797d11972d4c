use Rattle.std.proofs.Common.{◌≡◌, ℕ, ◌+◌, [], ◌∷◌, ◌++◌, length, Ok, refl, ap, sym, ◌∙◌, subst}
use Rattle.std.proofs.lemmas.Result.{on_ok_weaker, on_err_weaker}
use Rattle.phase_lines.specs.Waiting.{Read, own, MayWait, slot_of, AreHeld}
use Rattle.phase_lines.specs.Steps.{Gains}
use Rattle.phase_lines.proofs.Holding.{held_more, held_same, none_gains}
use Rattle.phase_lines.proofs.lines.PhaseLines.add.Goals as goal

pub returns-in_ok-push-in-Err-clause-added : goal.returns-in_ok-push-in-Err-clause-added
returns-in_ok-push-in-Err-clause-added c first reads held =
    let old = c.args.self.now in
    let slots : c.push.new.self.items ≡ old.slots.items ++ slot_of c.args.read ∷ [] = c.in_ok-push-in-Err.ensures.items ∙ ap (λ (read : Read). old.slots.items ++ slot_of read ∷ []) (sym c.in-Err.is) in
    let places : Gains (λ (caller : ℕ). own caller (old.first + length old.slots.items) c.args.read) old.places.items old.places.items =
    subst (λ (read : Read). Gains (λ (caller : ℕ). own caller (old.first + length old.slots.items) read) old.places.items old.places.items) (sym c.in-Err.is) (none_gains old.places.items) in
    held_more first reads c.args.read old _ c.requires.may (record { first = refl; slots = slots; places = places }) held

pub returns-in-Ok-clause-added : goal.returns-in-Ok-clause-added
returns-in-Ok-clause-added c =
    on_ok_weaker c.ask.result
    (λ taken first reads held.
    subst (λ (read : Read). AreHeld first (reads ++ read ∷ []) c.ask.new.self) (sym c.in-Ok.is)
    (held_more first reads (Ok c.in-Ok.request) c.args.self.now c.ask.new.self (subst MayWait c.in-Ok.is c.requires.may) taken held))
    c.ask.ensures.taken

pub returns-in-Ok-clause-kept : goal.returns-in-Ok-clause-kept
returns-in-Ok-clause-kept c = on_err_weaker c.ask.result (λ stays first reads held. held_same first reads c.args.self.now c.ask.new.self stays held) c.ask.ensures.kept
