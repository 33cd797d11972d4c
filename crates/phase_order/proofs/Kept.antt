-- The journals at the end of a phase are as they should be.
use Rattle.std.proofs.Common.{◌≡◌, ℕ, ◌<◌, ◌≤◌, true, Option, Some, None, List, [], ◌∷◌, ⊎_elim, refl, sym, subst, ◌∙◌, arith, lt-ltb}
use Rattle.std.specs.List.{AllByRecursion as Each}
use Rattle.turn_facts.specs.Counts.{count, Among}
use Rattle.turn_facts.specs.Notes.{times, with_time}
use Rattle.turn_table.specs.Knowledge.{at_slot}
use Rattle.seat_walks.specs.Walks.{all_drawn}
use Rattle.coarse_lists.specs.declared.collections.Collection.{Collection}
use Rattle.answer_lines.specs.declared.answers.Answer.{Answer}
use Rattle.answer_lines.specs.declared.answers.Answer.TheVariants as answers
use Rattle.legal_output.specs.Lines.{Asked, Bad, Given, Finish, Line, written_of, drawn}
use Rattle.legal_output.specs.Printed.{lines_of, write_or, write_behind}
use Rattle.legal_output.proofs.Grown.{lines_of_each}
use Rattle.journal_model.specs.declared.notes.Note.{Note}
use Rattle.journal_model.specs.Notes.{ts_of, tick_of}
use Rattle.journal_model.specs.Journals.{is_below, AreBelow}
use Rattle.journal_model.specs.Lists.{IsIn}
use Rattle.journal_model.proofs.ListLaws.{all_from}
use Rattle.call_model.specs.Turns.{time_of}
use Rattle.phase_model.specs.Rests.{Rest, AreJournals}
use Rattle.phase_model.specs.Phases.{IsRefused, IsPhase}
use Rattle.phase_order.proofs.Steps.{among_here, among_right}
use Rattle.phase_order.proofs.Stamps.{in_among}
use Rattle.phase_order.proofs.Drawn.{drawn_few}
use Rattle.phase_order.proofs.Ticks.{tick_mono}
use Rattle.phase_order.proofs.Lines.{LineDone, PhaseDone, phase_done}

-- ---- timestamps of notes

dated_each : (clock : ℕ) (o : Option ℕ) (l : List ℕ) → ((y : ℕ) → Among y (with_time o l) → y < clock) → (is_below o (Some clock) ≡ true) × ((y : ℕ) → Among y l → y < clock)
dated_each clock None l f = (refl, f)
dated_each clock (Some s) l f = (lt-ltb s clock (f s (among_here s l)), (λ y a. f y (among_right y (s ∷ []) l a)))

pub times_below : (clock : ℕ) (notes : List Note) → ((y : ℕ) → Among y (times time_of notes) → y < clock) → AreBelow clock notes
unfolding times
times_below clock [] f = tt
times_below clock (note ∷ notes) f = let r = dated_each clock (ts_of note.kind) (times time_of notes) f in (r.0, times_below clock notes r.1)

-- ---- last writes

write_low : (clock ts : ℕ) (answer : Answer) → ts < clock → Each (λ n. n < clock) (drawn answer) → write_or ts (written_of answer) < clock
write_low clock ts (answers.Wrote reply) low all = all.0
write_low clock ts answer low all = low

writes_low : (clock ts : ℕ) (lines : List Line) → ts < clock → Each (λ (line : Line). Each (λ n. n < clock) (drawn line.answer)) lines → write_behind ts lines < clock
writes_low clock ts [] low all = low
writes_low clock ts (line ∷ lines) low all = writes_low clock (write_or ts (written_of line.answer)) lines (write_low clock ts line.answer low all.0) all.1

refused_low : (clock : ℕ) (asked : Asked) (answer : Answer) → IsRefused asked answer → Each (λ n. n < clock) (drawn answer)
refused_low clock (Bad reason) answer is = subst (λ (a : Answer). Each (λ n. n < clock) (drawn a)) (sym is) tt
refused_low clock (Given request) answer is = absurd is
refused_low clock Finish answer is = absurd is

module _ (B : Type 0) (collection : Collection) (least : ℕ) (old new : Rest) (block : List Line) (rest : AreJournals collection old) (ph : IsPhase B collection least old new block) where
  done : PhaseDone collection least old new block
  done = phase_done B collection least old new block rest ph

  drawn_low : (line : Line) → IsIn line block → Each (λ n. n < new.clock) (drawn line.answer)
  drawn_low line h = ⊎_elim
      (λ (refused : IsRefused line.asked line.answer). refused_low new.clock line.asked line.answer refused)
      (λ (d : LineDone collection least old new line). all_from (λ n. n < new.clock) (drawn line.answer) (λ x there.
      (d.within x (let a : Among x (drawn line.answer) = in_among x (drawn line.answer) there in
      let f : count x (drawn line.answer) ≤ count x (all_drawn d.steps) = drawn_few collection d.by line.number d.mine d.request.what line.answer d.steps d.call x in omega arith)).1))
      (done.lines line h)

  pub phase_journals : AreJournals collection new
  phase_journals = record {
    many = ph.closed.long ∙ rest.many;
    each = λ k below. record {
      kept = ph.kept k below;
      below = times_below new.clock (at_slot new.journals k) (ph.closed.times k);
      ticked = let a : old.met ≤ tick_of (at_slot old.journals k) = (rest.each k below).ticked in
          let b : tick_of (at_slot old.journals k) ≤ tick_of (at_slot new.journals k) = tick_mono (ph.closed.grown k) (ph.kept k below).sound.journal in
          let m : new.met ≡ old.met = ph.met in omega arith;
    };
    met = let a : old.met < old.clock = rest.met in let b : old.clock ≤ new.clock = ph.closed.later in let m : new.met ≡ old.met = ph.met in omega arith;
    mine = λ caller. let w : write_behind (old.mine caller) (lines_of (Some caller) block) < new.clock =
        writes_low new.clock (old.mine caller) (lines_of (Some caller) block) (let a : old.mine caller < old.clock = rest.mine caller in let b : old.clock ≤ new.clock = ph.closed.later in omega arith)
        (lines_of_each (λ (line : Line). Each (λ n. n < new.clock) (drawn line.answer)) (Some caller) block (all_from (λ (line : Line). Each (λ n. n < new.clock) (drawn line.answer)) block drawn_low)) in
        let e : new.mine caller ≡ write_behind (old.mine caller) (lines_of (Some caller) block) = ph.mine caller in omega arith;
  }
