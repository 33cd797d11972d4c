-- Each caller of a phase, from its seat.
use Rattle.std.proofs.Common.{◌≡◌, ℕ, ◌<◌, ◌≤◌, true, true≢false, Option, Some, None, List, [], ◌∷◌, length, inl, ⊎_elim, refl, sym, ap, subst, ◌∙◌, arith, eqb-true}
use Rattle.turn_facts.specs.Prefixes.{IsAt}
use Rattle.turn_facts.proofs.Prefixes.{starts_trans}
use Rattle.turn_table.specs.Knowledge.{at_slot}
use Rattle.turn_table.specs.Seats.{SeatView}
use Rattle.seat_walks.specs.Walks.{IsAbove, Walked}
use Rattle.seat_walks.specs.Closes.{Stands}
use Rattle.seat_walks.proofs.Walking.{walked}
use Rattle.coarse_lists.specs.declared.collections.Collection.{Collection}
use Rattle.answer_lines.specs.declared.answers.Answer.{Answer}
use Rattle.legal_output.specs.Lines.{Asked, Bad, Given, Finish, Line, caller_of}
use Rattle.legal_output.specs.Printed.{lines_of, is_caller}
use Rattle.legal_output.specs.Legal.{AtEach}
use Rattle.legal_output.specs.Phases.{Called}
use Rattle.journal_model.specs.declared.notes.Note.{Note}
use Rattle.journal_model.specs.Notes.{tick_of}
use Rattle.journal_model.specs.Lists.{IsIn}
use Rattle.journal_model.proofs.ListLaws.{all_in, out_filter}
use Rattle.call_model.specs.Turns.{by_of, time_of}
use Rattle.call_model.specs.Walks.{Ran}
use Rattle.phase_model.specs.Rests.{Rest, AreJournals}
use Rattle.phase_model.specs.Phases.{IsRefused, HasSeat, IsLineOf, IsPhase}
use Rattle.phase_order.proofs.Places.{in_at}
use Rattle.phase_order.proofs.Slots.{all_journals}
use Rattle.phase_order.proofs.Ticks.{journal_starts}
use Rattle.phase_order.proofs.Lines.{seat_stands, seat_steps, start_at, end_at}
use Rattle.phase_order.proofs.Called.{called_from}

whose_line : (caller : ℕ) (who : Option ℕ) → is_caller caller who ≡ true → who ≡ Some caller
whose_line caller None h = absurd (true≢false (sym h))
whose_line caller (Some other) h = ap (λ (n : ℕ). Some n) (sym (eqb-true caller other h))

not_refused : (asked : Asked) (answer : Answer) (caller : ℕ) → caller_of asked ≡ Some caller → IsRefused asked answer → ⊥
not_refused (Bad reason) answer caller is refused = absurd (let z : ⊥ = cc in z)
not_refused (Given request) answer caller is refused = refused
not_refused Finish answer caller is refused = refused

module _ (B : Type 0) (collection : Collection) (least : ℕ) (old new : Rest) (block : List Line) (rest : AreJournals collection old) (next : AreJournals collection new) (ph : IsPhase B collection least old new block) (one : 0 < collection.channels) where
  called_at : (i caller : ℕ) (a p : SeatView Note B) → IsAt ph.whose i (Some caller) → IsAt ph.starts i a → IsAt ph.ends i p
      → AtEach (Called collection.channels old.met (old.mine caller)) [] (lines_of (Some caller) block)
  called_at i caller a p at_w at_a at_p =
      let r : Ran collection least (old.mine caller) a (lines_of (Some caller) block) [] p = ph.worked i (Some caller) a p at_w at_a at_p in
      let s : Stands by_of time_of old.clock new.clock old.journals new.journals a (seat_steps B collection least old new block rest ph i caller a p at_w at_a at_p) p = seat_stands B collection least old new block rest ph i caller a p at_w at_a at_p in
      let w : Walked by_of time_of r.middle [] p = walked by_of time_of r.middle [] p r.left in
      let clock : (x : ℕ) → IsAbove time_of a x → old.clock ≤ x = λ x above. (let f : a.table.first ≤ x = above.first in let e : a.table.first ≡ old.clock = s.begins.2 in omega arith) in
      called_from collection least old.met (old.mine caller) [] (lines_of (Some caller) block) a r.middle (old.mine caller) r.served
      (λ k. journal_starts (starts_trans (s.seen k) (w.more k)) (all_journals collection new next k))
      (ap length s.begins.0 ∙ rest.many) one
      record {
        write = refl;
        above = λ x above. let c : old.clock ≤ x = clock x above in let m : old.met < old.clock = rest.met in omega arith;
        stamps = λ x above. tt;
        reached = λ k below. subst (λ (js : List (List Note)). old.met ≤ tick_of (at_slot js k)) (sym s.begins.0) (rest.each k below).ticked;
        ticks = λ k below. tt;
        low = λ x above. let c : old.clock ≤ x = clock x above in let m : old.mine caller < old.clock = rest.mine caller in omega arith;
      }

  called_by : (caller : ℕ) (line : Line) (who : Option ℕ) → IsIn line block → caller_of line.asked ≡ who → who ≡ Some caller → HasSeat ph.whose who
      → AtEach (Called collection.channels old.met (old.mine caller)) [] (lines_of (Some caller) block)
  called_by caller line None h is same has = absurd has
  called_by caller line (Some other) h is same has =
      let r = in_at (Some caller) ph.whose (subst (λ (o : Option ℕ). HasSeat ph.whose o) same has) in
      let e = end_at B collection least old new block rest ph r.0 (Some caller) r.1 in
      let s = start_at B collection least old new block rest ph r.0 e.0 e.1 in
      called_at r.0 caller s.0 e.0 r.1 s.1 e.1

  -- a caller with a line has a seat
  with_lines : (caller : ℕ) (lines : List Line) → lines_of (Some caller) block ≡ lines → AtEach (Called collection.channels old.met (old.mine caller)) [] (lines_of (Some caller) block)
  with_lines caller [] is = subst (AtEach (Called collection.channels old.met (old.mine caller)) []) (sym is) tt
  with_lines caller (line ∷ lines) is =
      let h = out_filter (λ (other : Line). is_caller caller (caller_of other.asked)) line block (subst (IsIn line) (sym is) (inl refl)) in
      let whose : caller_of line.asked ≡ Some caller = whose_line caller (caller_of line.asked) h.1 in
      ⊎_elim
      (λ (refused : IsRefused line.asked line.answer). absurd (not_refused line.asked line.answer caller whose refused))
      (λ (has : HasSeat ph.whose (caller_of line.asked)). called_by caller line (caller_of line.asked) h.0 refl whose has)
      (all_in (IsLineOf ph.whose) block line ph.lines h.0)

  pub callers_called : (caller : ℕ) → AtEach (Called collection.channels old.met (old.mine caller)) [] (lines_of (Some caller) block)
  callers_called caller = with_lines caller (lines_of (Some caller) block) refl
