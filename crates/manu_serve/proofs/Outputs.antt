-- From what the engine answers to what the program writes.
use Rattle.std.proofs.Common.{◌≡◌, ℕ, List, [], Option, Some, None, Result, Ok, refl, sym, ap, subst, arith}
use Rattle.std.specs.Prelude.{OnOk}
use Rattle.hybrid_time.specs.Times.{of_moment}
use Rattle.legal_output.specs.Outputs.{IsLegalOutput}
use Rattle.phase_reading.specs.Phases.{all_lines}
use Rattle.phase_reading.specs.Outcomes.{HasDone, StopsInPiece}
use Rattle.phase_reading.proofs.Pieces.{none_consumed}
use Rattle.phase_reading.proofs.Ending.{in_whole}
use Rattle.phase_reading.specs.declared.stops.Stop.{Stop}
use Rattle.phase_engine.specs.Outputs.{begins, whole_at}
use Rattle.manu_serve.specs.declared.paces.Pace.{Pace}
use Rattle.manu_serve.specs.declared.paces.Pace.TheVariants.{Still, Moving}
use Rattle.manu_serve.specs.Paces.{least_of}
use Rattle.manu_serve.specs.Servings.{running, still, first_in, IsLegalFrom, WritesAll}

whole_legal : (least : ℕ) (input output : List ℕ) → whole_at least (all_lines input) output → IsLegalFrom least input output
whole_legal least input output w = record {
  collection = w.collection;
  header = w.header_is;
  lines = w.lines;
  text = w.text;
  legal = w.legal;
  drawn_from = w.drawn_from;
}

pub done_writes : (least : ℕ) (left before now : Option (List ℕ)) → HasDone (whole_at least) begins left before now → WritesAll (IsLegalFrom least) left before now
done_writes least None before now d = tt
done_writes least (Some input) before now d = (d.1.output, whole_legal least input d.1.output d.1.stands, d.1.holds)

pub writes_legal : (least : ℕ) (left before now : Option (List ℕ)) → WritesAll (IsLegalFrom least) left before now → WritesAll IsLegalOutput left before now
writes_legal least None before now w = tt
writes_legal least (Some input) before now w =
    let l = w.1 in
    (w.0, record { collection = l.collection; header = l.header; lines = l.lines; text = l.text; legal = l.legal }, w.2)

-- the pace that the words ask for has their least number
pub first_of_pace : (words : List (List ℕ)) (pace : Pace) (least : ℕ) → (Some pace ≡ Some Still → words ≡ still) → (Some pace ≡ Some Moving → words ≡ running)
    → of_moment (least_of pace least) ≡ first_in words least
first_of_pace words Still least is_still is_running = sym (ap (λ ws. first_in ws least) (is_still refl))
first_of_pace words Moving least is_still is_running = sym (ap (λ ws. first_in ws least) (is_running refl))

-- with the words of a run whose moments count
pub first_of_running : (words : List (List ℕ)) (pace : Pace) (least : ℕ) → (words ≡ running → Some pace ≡ Some Moving) → words ≡ running → of_moment (least_of pace least) ≡ of_moment least
first_of_running words Still least is_running e = grind (arith, is_running e)
first_of_running words Moving least is_running e = refl

-- what a call that ended well tells
pub on_ok_at : (P : Type 0) (result : Result (Unit {0}) Stop) → result ≡ Ok tt → OnOk result P → P
on_ok_at P result e p = subst (λ (r : Result (Unit {0}) Stop). OnOk r P) e p

-- where nothing was taken
pub nothing_taken : (left : Option (List ℕ)) → StopsInPiece begins left left
nothing_taken left = in_whole begins left left [] (none_consumed left) (record { bytes = omega arith; lines = (tt, omega arith) }) tt
