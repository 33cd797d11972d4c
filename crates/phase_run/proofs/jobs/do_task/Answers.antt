use Rattle.std.proofs.Common.{◌≡◌, ℕ, List, [], map, ap, sym, ◌∙◌}
use Rattle.answer_lines.specs.declared.answers.Answer.{Answer}
use Rattle.legal_output.specs.Lines.{Line}
use Rattle.legal_output.specs.Printed.{write_behind}
use Rattle.phase_run.specs.Callers.{answered}
use Rattle.phase_run.proofs.Serving.{none_answered}
use Rattle.phase_run.proofs.jobs.do_task.Goals as goal

pub returns-in-Ticker-clause-mine : goal.returns-in-Ticker-clause-mine
returns-in-Ticker-clause-mine g c =
    sym (ap (write_behind c.args.mine.now.0) (ap (answered c.args.requests.items) c.requires.none ∙ none_answered c.args.requests.items))

pub returns-in-Ticker-clause-numbers : goal.returns-in-Ticker-clause-numbers
returns-in-Ticker-clause-numbers g c =
    ap (map (λ (answer : ℕ × Answer). answer.0)) c.requires.none ∙ sym (ap (map (λ (line : Line). line.number)) (ap (answered c.args.requests.items) c.requires.none ∙ none_answered c.args.requests.items))
