-- The lines that answer a phase's lines.
use Rattle.std.proofs.Common.{◌≡◌, ◌≢◌, ℕ, zero, suc, ◌<◌, ◌≤◌, List, [], ◌∷◌, ◌++◌, length, map, All, Some, ap, sym, ◌∙◌, subst, inl, inr, ⊎_elim, arith}
use Rattle.std.specs.List.{flat_map}
use Rattle.std.specs.Global.{Vec}
use Rattle.std.proofs.lemmas.List.{length-map}
use mathlib.Core.Option.{some-injective, some-ne-none}
use Rattle.answer_lines.specs.declared.answers.Answer.{Answer}
use Rattle.hybrid_time.specs.declared.times.Timestamp.{Timestamp}
use Rattle.request_lines.specs.declared.requests.Request.{Request}
use Rattle.legal_output.specs.Lines.{Line}
use Rattle.legal_output.specs.Outputs.{text_of_line}
use Rattle.legal_output.specs.Printed.{lines_of}
use Rattle.journal_model.specs.Lists.{IsIn}
use Rattle.turn_facts.specs.Counts.{NoneTwice}
use Rattle.turn_facts.specs.Prefixes.{IsAt}
use Rattle.turn_facts.proofs.Places.{at_get, at_below, at_some, at_map_back, same_lists}
use Rattle.phase_run.specs.declared.works.Work.{Work}
use Rattle.phase_run.specs.declared.works.Done.{Done}
use Rattle.phase_run.specs.Callers.{answered}
use Rattle.phase_run.specs.Phases.{whose_work, AreDone}
use Rattle.phase_lines.specs.declared.lines.Slot.{Slot}
use Rattle.phase_lines.specs.Waiting.{Read, requests_of}
use Rattle.phase_lines.specs.Blocks.{CanAppend, IsBlock}
use Rattle.phase_lines.specs.Steps.{items_at, StandAt, text_of_slots, HaveAnswers}
use Rattle.phase_lines.proofs.Counting.{among_at}
use Rattle.phase_lines.proofs.Working.{none_or, caller_of_work}
use Rattle.phase_lines.proofs.Telling.{caller_of_done}
use Rattle.phase_lines.proofs.Weaving.{weave, weave_numbered, weave_asked, weave_text, weave_lines, weave_of, weave_have}

in_map : {A : Type 0} {B : Type 0} (f : A → B) (xs : List A) (i : ℕ) (x : A) (b : B) → IsAt xs i x → f x ≡ b → IsIn b (map f xs)
in_map f [] i x b at e = absurd (some-ne-none x (sym at))
in_map f (y ∷ xs) zero x b at e = inl (sym (ap f (some-injective y x at) ∙ e))
in_map f (y ∷ xs) (suc i) x b at e = inr (in_map f xs i x b at e)

-- the callers of what was done are those of the works
done_callers : (works : List Work) (dones : List Done) → AreDone works dones → map caller_of_done dones ≡ map caller_of_work works
done_callers works dones d =
    let many : length dones ≡ length works = d.many in
    let long : length (map caller_of_done dones) ≡ length dones = length-map dones caller_of_done in
    let wide : length (map caller_of_work works) ≡ length works = length-map works caller_of_work in
    same_lists (map caller_of_done dones) (map caller_of_work works) (omega arith)
    (λ k a b at_a at_b.
    let done = at_map_back caller_of_done dones k a at_a in
    let work = at_map_back caller_of_work works k b at_b in
    sym done.2 ∙ (d.each k work.0 done.0 work.1 done.1).caller_is ∙ work.2)

module _ (first : ℕ) (slots : List Slot) (dones : List Done) (reads : List Read) (mine : List Timestamp) (works : List Work) (can : CanAppend first slots dones reads mine works) where
  -- what was done is of callers below 16
  pub dones_low : All (λ (done : Done). done.caller < 16) dones
  dones_low k d below =
      let many : length dones ≡ length works = can.done.many in
      let done = at_some dones k below in
      let work = at_some works k (omega arith) in
      let same : done.0.caller ≡ work.0.caller = (can.done.each k work.0 done.0 work.1 done.1).caller_is in
      let low : work.0.caller < 16 = (can.works_are.each k work.0 work.1).caller in
      subst (λ (x : Done). x.caller < 16) (sym (at_get dones k done.0 d done.1)) (let e : done.0.caller < 16 = omega arith in e)

  module _ (places : List (Vec (ℕ × Answer))) (stand : StandAt dones places) where
    stands : (i : ℕ) (done : Done) → IsAt dones i done → items_at places done.caller ≡ done.answers.items
    stands = stand (subst NoneTwice (sym (done_callers works dones can.done)) can.works_are.apart)

    -- the answers of a work
    at_work : (i : ℕ) (work : Work) (done : Done) → IsAt works i work → IsAt dones i done → items_at places work.caller ≡ done.answers.items
    at_work i work done at_w at_d = ap (items_at places) (sym (can.done.each i work done at_w at_d).caller_is) ∙ stands i done at_d

    enough : (caller : ℕ) → length (requests_of caller first reads) ≤ length (items_at places caller)
    enough caller =
        ⊎_elim
        (λ (none : requests_of caller first reads ≡ []). let e : length (requests_of caller first reads) ≡ 0 = ap length none in omega arith)
        (λ (some : requests_of caller first reads ≢ []).
        let w = among_at caller_of_work works caller (can.works_are.all caller some) in
        let many : length dones ≡ length works = can.done.many in
        let below : w.0 < length works = at_below works w.0 w.1 w.2 in
        let d = at_some dones w.0 (omega arith) in
        let all : length d.0.answers.items ≡ length w.1.requests.items = can.answered w.0 w.1 d.0 w.2 d.1 in
        let asked : length w.1.requests.items ≡ length (requests_of w.1.caller first reads) = ap length (can.works_are.each w.0 w.1 w.2).requests in
        let told : length (items_at places w.1.caller) ≡ length d.0.answers.items = ap length (at_work w.0 w.1 d.0 w.2 d.1) in
        let fits : length (requests_of w.1.caller first reads) ≤ length (items_at places w.1.caller) = omega arith in
        subst (λ (c : ℕ). length (requests_of c first reads) ≤ length (items_at places c)) w.3 fits)
        (none_or (requests_of caller first reads))

    pub have_answers : HaveAnswers slots (items_at places)
    have_answers = subst (λ (l : List Slot). HaveAnswers l (items_at places)) (sym can.slots_are) (weave_have first reads (items_at places) can.may enough)

    own_lines : (caller : ℕ) → lines_of (Some caller) (weave first reads (items_at places)) ≡ answered (requests_of caller first reads) (items_at places caller)
    own_lines caller = weave_lines caller first reads (items_at places) can.may (enough caller)

    is_block : IsBlock first reads works dones (weave first reads (items_at places))
    is_block = record {
      numbered = weave_numbered first reads (items_at places);
      asked = weave_asked first reads (items_at places);
      lines = record {
        each = λ i work done at_w at_d.
            own_lines work.caller
            ∙ ap (λ (l : List (ℕ × Request)). answered l (items_at places work.caller)) (sym (can.works_are.each i work at_w).requests)
            ∙ ap (answered work.requests.items) (at_work i work done at_w at_d);
        lines = weave_of (map whose_work works) first reads (items_at places) can.may
            (λ caller some.
            let w = among_at caller_of_work works caller (can.works_are.all caller some) in
            in_map whose_work works w.0 w.1 (Some caller) w.2 (ap (λ (c : ℕ). Some c) w.3));
      };
      silent = λ caller apart.
          own_lines caller
          ∙ ⊎_elim
          (λ (none : requests_of caller first reads ≡ []). ap (λ (l : List (ℕ × Request)). answered l (items_at places caller)) none)
          (λ (some : requests_of caller first reads ≢ []). absurd (apart (can.works_are.all caller some)))
          (none_or (requests_of caller first reads));
    }

    pub block_is : (old new : List ℕ) → new ≡ old ++ text_of_slots first slots (items_at places) → (block : List Line) × (new ≡ old ++ flat_map text_of_line block) × IsBlock first reads works dones block
    block_is old new written = (
      weave first reads (items_at places),
      written
          ∙ ap (λ (l : List Slot). old ++ text_of_slots first l (items_at places)) can.slots_are
          ∙ ap (λ (l : List ℕ). old ++ l) (sym (weave_text first reads (items_at places))),
      is_block,
    )
