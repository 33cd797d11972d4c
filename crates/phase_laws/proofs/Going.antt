-- A run goes on by a phase and its meet, and ends by a phase and the end.
use Rattle.std.proofs.Common.{◌≡◌, ℕ, ◌<◌, ◌≤◌, List, [], ◌∷◌, ◌++◌, map, refl, sym, ap, subst, ◌∙◌, append-nil, arith}
use Rattle.std.specs.List.{AllByRecursion as Each}
use Rattle.std.proofs.lemmas.Grind.{flat_map-append}
use Rattle.log_model.proofs.LogLaws.{each-append}
use Rattle.coarse_lists.specs.declared.collections.Collection.{Collection}
use Rattle.coarse_lists.specs.Collections.{IsInRange}
use Rattle.answer_lines.specs.declared.answers.Answer.{Answer}
use Rattle.answer_lines.specs.declared.answers.MeetReply.{MeetReply}
use Rattle.answer_lines.specs.declared.answers.Answer.TheVariants as answers
use Rattle.legal_output.specs.Lines.{Asked, Line, Start, drawn}
use Rattle.legal_output.specs.Printed.{all_drawn}
use Rattle.legal_output.specs.Legal.{Numbered, IsLegal}
use Rattle.legal_output.specs.Phases.{Running, Phase, PhaseFacts, MeetFacts, RunOver, lines_in}
use Rattle.legal_output.specs.Outputs.{start_of}
use Rattle.legal_output.proofs.PhaseRuns.{stopped_legal, whole_legal}
use Rattle.phase_model.specs.Rests.{Rest}
use Rattle.phase_model.specs.Phases.{IsPhase}
use Rattle.phase_model.specs.Meets.{IsMeet, IsEnd}
use Rattle.phase_order.proofs.Kept.{phase_journals}
use Rattle.phase_meets.proofs.Kept.{meet_journals}
use Rattle.phase_laws.specs.Runs.{running_of, HasRun}
use Rattle.phase_laws.proofs.Facts.{phase_facts, phase_timely}
use Rattle.phase_laws.proofs.Meeting.{meet_facts, end_facts}

run_more : (start : Start) (old mid ran new : Running) (phases : List Phase) (phase : Phase) → RunOver start old phases mid → PhaseFacts start mid ran phase.lines → MeetFacts start ran new phase.meet → RunOver start old (phases ++ phase ∷ []) new
run_more start old mid ran new [] phase r p m = subst (λ (first : Running). RunOver start first (phase ∷ []) new) r (ran, new, p, m, refl)
run_more start old mid ran new (first ∷ phases) phase r p m = (r.0, r.1, r.2, r.3, run_more start r.1 mid ran new phases phase r.4 p m)

told-append : (xs ys : List Line) → all_drawn (xs ++ ys) ≡ all_drawn xs ++ all_drawn ys
told-append xs ys = flat_map-append (λ (line : Line). drawn line.answer) xs ys

timely_more : (least : ℕ) (xs ys : List Line) → Each (λ n. least ≤ n) (all_drawn xs) → Each (λ n. least ≤ n) (all_drawn ys) → Each (λ n. least ≤ n) (all_drawn (xs ++ ys))
timely_more least xs ys a b = subst (Each (λ n. least ≤ n)) (sym (told-append xs ys)) (each-append (λ n. least ≤ n) (all_drawn xs) (all_drawn ys) a b)

one_timely : (least : ℕ) (line : Line) → Each (λ n. least ≤ n) (drawn line.answer) → Each (λ n. least ≤ n) (all_drawn (line ∷ []))
one_timely least line h = subst (Each (λ n. least ≤ n)) (sym (append-nil (drawn line.answer))) h

meet_timely : (least : ℕ) (line : Line) (counted : MeetReply) → line.answer ≡ answers.Met counted → least ≤ counted.ts.0 → Each (λ n. least ≤ n) (drawn line.answer)
meet_timely least line counted is h = subst (λ (a : Answer). Each (λ n. least ≤ n) (drawn a)) (sym is) (h, tt)

end_timely : (least : ℕ) (line : Line) (counted : MeetReply) → line.answer ≡ answers.End counted → least ≤ counted.ts.0 → Each (λ n. least ≤ n) (drawn line.answer)
end_timely least line counted is h = subst (λ (a : Answer). Each (λ n. least ≤ n) (drawn a)) (sym is) (h, tt)

lines-more : (phases : List Phase) (phase : Phase) → lines_in (phases ++ phase ∷ []) ≡ lines_in phases ++ (phase.lines ++ phase.meet ∷ [])
lines-more phases phase =
    flat_map-append (λ (p : Phase). p.lines ++ p.meet ∷ []) phases (phase ∷ [])
    ∙ ap (λ (l : List Line). lines_in phases ++ l) (append-nil (phase.lines ++ phase.meet ∷ []))

pub goes_on : (B : Type 0) (collection : Collection) (least : ℕ) (phases : List Phase) (old ran new : Rest) (block : List Line) (meet : Line) → IsInRange collection
    → HasRun collection least phases old → IsPhase B collection least old ran block → IsMeet collection least ran new meet → HasRun collection least (phases ++ record { lines = block; meet = meet } ∷ []) new
goes_on B collection least phases old ran new block meet range h p m =
    let rows : 0 < collection.seal_rows = (let r : 2 ≤ collection.seal_rows = range.seal_rows.0 in omega arith) in
    let phase : Phase = record { lines = block; meet = meet } in
    record {
      first = h.first;
      begins = h.begins;
      run = run_more (start_of collection) h.first (running_of old) (running_of ran) (running_of new) phases phase h.run
          (phase_facts B collection least old ran block h.journals p range) (meet_facts collection least ran new rows (phase_journals B collection least old ran block h.journals p) meet m);
      journals = meet_journals collection least ran new m.counted (phase_journals B collection least old ran block h.journals p) m.meets;
      timely = subst (λ (l : List Line). Each (λ n. least ≤ n) (all_drawn l)) (sym (lines-more phases phase))
          (timely_more least (lines_in phases) (block ++ meet ∷ []) h.timely
          (timely_more least block (meet ∷ []) (phase_timely B collection least old ran block h.journals p) (one_timely least meet (meet_timely least meet m.counted m.answer m.meets.not_early))));
    }

pub is_stopped : (collection : Collection) (least : ℕ) (phases : List Phase) (rest : Rest) (asks : List Asked) → HasRun collection least phases rest
    → Numbered 2 (lines_in phases) → map (λ line. line.asked) (lines_in phases) ≡ asks → IsLegal (start_of collection) asks (lines_in phases)
is_stopped collection least phases rest asks h = stopped_legal (start_of collection) h.first (running_of rest) phases asks h.begins h.run

pub is_whole : (B : Type 0) (collection : Collection) (least : ℕ) (phases : List Phase) (old ran new : Rest) (block : List Line) (end : Line) (asks : List Asked) → IsInRange collection
    → HasRun collection least phases old → IsPhase B collection least old ran block → IsEnd collection least ran new end
    → Numbered 2 ((lines_in phases ++ block) ++ end ∷ []) → map (λ line. line.asked) ((lines_in phases ++ block) ++ end ∷ []) ≡ asks → IsLegal (start_of collection) asks ((lines_in phases ++ block) ++ end ∷ [])
is_whole B collection least phases old ran new block end asks range h p e =
    let rows : 0 < collection.seal_rows = (let r : 2 ≤ collection.seal_rows = range.seal_rows.0 in omega arith) in
    whole_legal (start_of collection) h.first (running_of old) (running_of ran) phases block end asks h.begins h.run
    (phase_facts B collection least old ran block h.journals p range) (end_facts collection least ran new rows (phase_journals B collection least old ran block h.journals p) end e)

pub whole_timely : (B : Type 0) (collection : Collection) (least : ℕ) (phases : List Phase) (old ran new : Rest) (block : List Line) (end : Line) → HasRun collection least phases old → IsPhase B collection least old ran block
    → IsEnd collection least ran new end → Each (λ n. least ≤ n) (all_drawn ((lines_in phases ++ block) ++ end ∷ []))
whole_timely B collection least phases old ran new block end h p e =
    timely_more least (lines_in phases ++ block) (end ∷ [])
    (timely_more least (lines_in phases) block h.timely (phase_timely B collection least old ran block h.journals p)) (one_timely least end (end_timely least end e.counted e.answer e.meets.not_early))
