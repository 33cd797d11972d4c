use Rattle.std.proofs.Common.{◌≡◌, List, [], ◌∷◌, ◌++◌, ℕ, ap, sym, ◌∙◌, subst}
use Rattle.answer_lines.specs.Lines.{text_of}
use Rattle.answer_lines.specs.declared.answers.Answer.TheVariants.{Created}
use Rattle.hybrid_time.specs.Times.{of_moment}
use Rattle.phase_engine.specs.Accounts.{IsRunning}
use Rattle.phase_engine.proofs.Keeping.{began}
use Rattle.phase_engine.proofs.engine.PhaseEngineEngine.begin.Goals as goal

pub returns-clause-begun : goal.returns-clause-begun
returns-clause-begun g c =
    let least = of_moment (g.M.Moments.least c.args.self.now.moments.now) in
    let line = c.args.line.now in
    let made = c.in_ok-collection.ensures.made in
    let text : c.append.new.text.items ≡ text_of 1 Created = c.in-Ok-append.ensures ∙ ap (λ (t : List ℕ). t ++ text_of 1 Created) c.new-text.ensures.items in
    began c.in-Ok.running c.in_ok-collection.collection line c.append.new.text.items made
    (subst (λ (t : List ℕ). IsRunning least c.in-Ok.running (line ∷ []) [] t) (sym text) (c.in-Ok.ensures.begun least line made))
