-- A phase keeps what the law asks of it.
use Rattle.std.proofs.Common.{ℕ, ◌<◌, ◌≤◌, List, [], ◌++◌, ⊎_elim, sym, ap, subst, ◌∙◌, arith}
use Rattle.std.specs.List.{AllByRecursion as Each, flat_map}
use Rattle.turn_table.specs.Knowledge.{at_slot}
use Rattle.coarse_lists.specs.declared.collections.Collection.{Collection}
use Rattle.coarse_lists.specs.Collections.{IsInRange}
use Rattle.answer_lines.specs.declared.answers.Answer.{Answer}
use Rattle.legal_output.specs.Lines.{Asked, Bad, Given, Finish, Line, drawn}
use Rattle.legal_output.specs.Printed.{Event, entries_of, events_of, all_drawn as all_told}
use Rattle.legal_output.specs.Phases.{InPhase, PhaseFacts}
use Rattle.legal_output.specs.Outputs.{start_of}
use Rattle.legal_output.proofs.Members.{entries_by_members, events_by_members}
use Rattle.legal_output.proofs.Grown.{each-flat_map}
use Rattle.legal_output.proofs.Tails.{no_failures}
use Rattle.journal_model.proofs.ListLaws.{all_from}
use Rattle.phase_model.specs.Rests.{Rest, AreJournals}
use Rattle.phase_model.specs.Phases.{IsRefused, IsPhase}
use Rattle.phase_order.proofs.Lines.{LineDone, PhaseDone, phase_done, differ_once}
use Rattle.phase_order.proofs.Callers.{callers_called}
use Rattle.phase_order.proofs.Kept.{phase_journals}
use Rattle.phase_logs.specs.Events.{events_in}
use Rattle.phase_logs.proofs.Growing.{events_from-append}
use Rattle.phase_logs.proofs.Entries.{more_of, log_grown, grew_by_entries}
use Rattle.phase_logs.proofs.Events.{events_more, grew_by_events}
use Rattle.phase_logs.proofs.Forms.{each_told}
use Rattle.phase_laws.specs.Runs.{running_of}
use Rattle.phase_laws.proofs.InPhase.{line_refused, line_done}

refused_numbers : (P : ℕ → Type 0) (asked : Asked) (answer : Answer) → IsRefused asked answer → Each P (drawn answer)
refused_numbers P (Bad reason) answer is = subst (λ (a : Answer). Each P (drawn a)) (sym is) tt
refused_numbers P (Given request) answer is = absurd is
refused_numbers P Finish answer is = absurd is

module _ (B : Type 0) (collection : Collection) (least : ℕ) (old new : Rest) (block : List Line) (rest : AreJournals collection old) (ph : IsPhase B collection least old new block) where
  done : PhaseDone collection least old new block
  done = phase_done B collection least old new block rest ph

  next : AreJournals collection new
  next = phase_journals B collection least old new block rest ph

  -- each number of a phase lies from the clock before to below the clock after
  pub phase_within : Each (λ n. (old.clock ≤ n) × (n < new.clock)) (all_told block)
  phase_within = each-flat_map (λ n. (old.clock ≤ n) × (n < new.clock)) (λ (line : Line). drawn line.answer) block
      (all_from (λ (line : Line). Each (λ n. (old.clock ≤ n) × (n < new.clock)) (drawn line.answer)) block
      (λ line h. ⊎_elim (λ (refused : IsRefused line.asked line.answer). refused_numbers (λ n. (old.clock ≤ n) × (n < new.clock)) line.asked line.answer refused)
      (λ (d : LineDone collection least old new line).
      each_told (λ n. (old.clock ≤ n) × (n < new.clock)) collection d.by line.number d.mine d.request.what line.answer d.steps d.call d.within)
      (done.lines line h)))

  -- no number of a phase is below the first of the least moment
  pub phase_timely : Each (λ n. least ≤ n) (all_told block)
  phase_timely = each-flat_map (λ n. least ≤ n) (λ (line : Line). drawn line.answer) block
      (all_from (λ (line : Line). Each (λ n. least ≤ n) (drawn line.answer)) block
      (λ line h. ⊎_elim (λ (refused : IsRefused line.asked line.answer). refused_numbers (λ n. least ≤ n) line.asked line.answer refused)
      (λ (d : LineDone collection least old new line). each_told (λ n. least ≤ n) collection d.by line.number d.mine d.request.what line.answer d.steps d.call d.late)
      (done.lines line h)))

  pub phase_facts : IsInRange collection → PhaseFacts (start_of collection) (running_of old) (running_of new) block
  phase_facts range =
      let rows : 0 < collection.seal_rows = (let r : 2 ≤ collection.seal_rows = range.seal_rows.0 in omega arith) in
      let one : 0 < collection.channels = (let r : 1 ≤ collection.channels = range.channels.0 in omega arith) in
      record {
        later = done.later;
        met = ph.met;
        written = ph.mine;
        failures = sym (no_failures block);
        more = more_of collection least old new block done next;
        grown = log_grown collection least old new block done next;
        entries = entries_by_members collection.channels (more_of collection least old new block done next) (flat_map entries_of block) (grew_by_entries collection least old new block done next);
        events = λ k.
            ap events_in (done.grown k).is ∙ events_from-append [] (at_slot old.journals k) (done.grown k).rest
            ∙ ap (λ (l : List Event). events_in (at_slot old.journals k) ++ l)
            (events_by_members (events_more collection least old new block done next k) (flat_map (events_of collection.channels k) block) (grew_by_events collection least old new block done next k));
        lines = all_from (InPhase (start_of collection) (running_of old) (running_of new)) block
            (λ line h. ⊎_elim (λ (refused : IsRefused line.asked line.answer). line_refused (start_of collection) (running_of old) (running_of new) line refused)
            (λ (d : LineDone collection least old new line). line_done collection least old new rows one next ph.closed.times line d)
            (done.lines line h));
        differ = differ_once (all_told block) done.once;
        callers = callers_called B collection least old new block rest next ph one;
      }
