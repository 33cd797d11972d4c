-- For the tests: answers that write nothing.
use Rattle.std.proofs.Common.{◌≡◌, ℕ, ◌<◌, List, [], ◌∷◌, ◌++◌, length, map, get_or, Option, None, refl, ap, sym, ◌∙◌, subst, ⊎_elim}
use Rattle.std.specs.List.{AllByRecursion as Each}
use Rattle.answer_lines.specs.declared.answers.Answer.{Answer}
use Rattle.request_lines.specs.declared.requests.Request.{Request}
use Rattle.legal_output.specs.Lines.{Line, Written, written_of}
use Rattle.legal_output.specs.Printed.{write_or, write_behind}
use Rattle.turn_facts.specs.Prefixes.{IsAt}
use Rattle.turn_facts.proofs.Places.{at_more, at_one}
use Rattle.phase_run.specs.declared.works.Work.{Work}
use Rattle.phase_run.specs.declared.works.Done.{Done}
use Rattle.phase_run.specs.Callers.{answered}
use Rattle.phase_run.specs.Phases.{IsDoneOf}
use Rattle.phase_lines.proofs.Holding.{at_read}

-- an answer that writes nothing
abbrev pub IsQuiet : ℕ × Answer → Type 0
IsQuiet answer = written_of answer.1 ≡ None

pub quiet_more : (answers : List (ℕ × Answer)) (answer : ℕ × Answer) → Each IsQuiet answers → IsQuiet answer → Each IsQuiet (answers ++ answer ∷ [])
quiet_more [] answer each quiet = (quiet, tt)
quiet_more (x ∷ answers) answer each quiet = (each.0, quiet_more answers answer each.1 quiet)

pub quiet_behind : (mine : ℕ) (requests : List (ℕ × Request)) (answers : List (ℕ × Answer)) → Each IsQuiet answers → write_behind mine (answered requests answers) ≡ mine
quiet_behind mine [] answers quiet = refl
quiet_behind mine (request ∷ requests) [] quiet = refl
quiet_behind mine (request ∷ requests) (answer ∷ answers) quiet =
    ap (λ (w : Option Written). write_behind (write_or mine w) (answered requests answers)) quiet.0 ∙ quiet_behind mine requests answers quiet.1

-- answers at the numbers of requests are at the numbers of their lines
pub numbers_are : (requests : List (ℕ × Request)) (answers : List (ℕ × Answer)) → map (λ (answer : ℕ × Answer). answer.0) answers ≡ map (λ (request : ℕ × Request). request.0) requests
    → map (λ (answer : ℕ × Answer). answer.0) answers ≡ map (λ (line : Line). line.number) (answered requests answers)
numbers_are [] [] e = refl
numbers_are [] (answer ∷ answers) e = cc
numbers_are (request ∷ requests) [] e = refl
numbers_are (request ∷ requests) (answer ∷ answers) e =
    let here : answer.0 ≡ request.0 = cc in
    let others : map (λ (a : ℕ × Answer). a.0) answers ≡ map (λ (r : ℕ × Request). r.0) requests = cc in
    let rest : map (λ (a : ℕ × Answer). a.0) answers ≡ map (λ (line : Line). line.number) (answered requests answers) = numbers_are requests answers others in
    ap (λ (n : ℕ). n ∷ map (λ (a : ℕ × Answer). a.0) answers) here ∙ ap (λ (l : List ℕ). request.0 ∷ l) rest

-- what was done of a work: all that it asks
abbrev pub IsDoneWhole : Work → Done → Type 0
IsDoneWhole work done = IsDoneOf work done × (length done.answers.items ≡ length work.requests.items)

-- one work more
pub done_more : (works : List Work) (dones later : List Done) (k : ℕ) (work : Work) (done : Done) → later ≡ dones ++ done ∷ [] → length dones ≡ k → k < length works → work ≡ get_or works k work → IsDoneWhole work done
    → ((i : ℕ) (w : Work) (d : Done) → IsAt works i w → IsAt dones i d → IsDoneWhole w d) → (i : ℕ) (w : Work) (d : Done) → IsAt works i w → IsAt later i d → IsDoneWhole w d
done_more works dones later k work done items long low is whole each i w d at_w at_d =
    ⊎_elim
    (λ (t : IsAt dones i d). each i w d at_w t)
    (λ (t : (done ≡ d) × (i ≡ length dones)).
    let there : IsAt works i work = subst (λ (n : ℕ). IsAt works n work) (sym (t.1 ∙ long)) (at_read works k work low is) in
    subst (λ (x : Work). IsDoneWhole x d) (at_one works i work w there at_w) (subst (IsDoneWhole work) t.0 whole))
    (at_more dones done d i (subst (λ (l : List Done). IsAt l i d) items at_d))
