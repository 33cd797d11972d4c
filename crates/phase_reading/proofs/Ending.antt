-- How a run ends, in what the source had left.
use Rattle.std.proofs.Common.{◌≡◌, inl, inr, ℕ, ◌<◌, ◌≤◌, List, [], ◌∷◌, ◌++◌, length, take, drop, sym, ap, ◌∙◌, subst, arith, Option, Some, None, Err, append-nil, length-drop}
use Rattle.std.specs.Prelude.{IfErr}
use Rattle.std.specs.declared.result.Result.{Result}
use Rattle.std.specs.Io.KnownBytes.{Appends, Consumes, IsAtEnd}
use Rattle.std.proofs.lemmas.List.{take-append-drop}
use Rattle.input_lines.specs.Lines.{first_line}
use Rattle.input_lines.specs.Limits.{IsWithin}
use Rattle.phase_reading.specs.Phases.{Begins, Meets, ended_lines, all_lines, IsBegun}
use Rattle.phase_reading.specs.Engines.{Answers}
use Rattle.phase_reading.specs.Outputs.{OfWhole}
use Rattle.phase_reading.specs.Outcomes.{HasBadHeader, IsReadWhole, StopsInPiece, HasStopped, HasDone}
use Rattle.phase_reading.specs.Steps.{Halts, Stops, Ends}
use Rattle.phase_reading.specs.declared.stops.Stop.{Stop}
use Rattle.phase_reading.specs.declared.stops.Stop.TheVariants.{BadHeader, ReadFault, WriteFault, Limit, Memory}
use Rattle.phase_reading.proofs.Splits.{some_bytes}
use Rattle.phase_reading.proofs.Cutting.{stops-longer}
use Rattle.phase_reading.proofs.Passing.{first_of}

pub cut_take : (xs : List ℕ) (n : ℕ) → n < length xs → (b : ℕ) × (rest : List ℕ) × (xs ≡ take n xs ++ b ∷ rest)
cut_take xs n h =
    let s = some_bytes (drop n xs) (omega (arith, h, length-drop n xs)) in
    (s.0, s.1, sym (take-append-drop n xs) ∙ ap (λ l. take n xs ++ l) s.2)

head_of : (input line : List ℕ) (rest : List (List ℕ)) → all_lines input ≡ line ∷ rest → first_line input ≡ line
head_of input line rest e = cc

module _ (stopped whole : Answers) (begins : Begins) (meets : Meets) where
  bad_header : (input line : List ℕ) → first_line input ≡ line → length line ≤ 2_097_152 → (begins line → ⊥) → HasBadHeader begins input
  bad_header input line is short bad = record { short = omega (arith, ap length is, short); bad = λ good. bad (subst begins is good) }

  -- what the bytes that were taken say, all of them say
  told_halt : (stop : Stop) (xs part more : List ℕ) (rest before now : Option (List ℕ)) → xs ≡ part ++ more → IsWithin part → Halts stopped begins meets stop (ended_lines part) before now → HasStopped stopped whole begins meets stop (Some xs) rest before now
  told_halt BadHeader xs part more rest before now is within h =
      (bad_header xs h.0.line (ap first_line is ∙ first_of part more h.0.line h.0.rest h.0.split) h.0.short h.0.bad, h.1)
  told_halt ReadFault xs part more rest before now is within h = absurd h
  told_halt WriteFault xs part more rest before now is within h = inl (inl (record { part = part; rest = more; split = is; within = within; holds = h }))
  told_halt Limit xs part more rest before now is within h = absurd h
  told_halt Memory xs part more rest before now is within h = inl (record { part = part; rest = more; split = is; within = within; holds = h })

  -- the same at the end of the input
  told_end : (stop : Stop) (xs : List ℕ) (rest before now : Option (List ℕ)) → IsWithin xs → Halts stopped begins meets stop (all_lines xs) before now → HasStopped stopped whole begins meets stop (Some xs) rest before now
  told_end BadHeader xs rest before now within h = (bad_header xs h.0.line (head_of xs h.0.line h.0.rest h.0.split) h.0.short h.0.bad, h.1)
  told_end ReadFault xs rest before now within h = absurd h
  told_end WriteFault xs rest before now within h = inl (inr (within, h))
  told_end Limit xs rest before now within h = absurd h
  told_end Memory xs rest before now within h = inr (within, h)

  -- where the bytes are not told
  untold_halt : (stop : Stop) (lines : List (List ℕ)) (rest before now : Option (List ℕ)) → Halts stopped begins meets stop lines before now → HasStopped stopped whole begins meets stop None rest before now
  untold_halt BadHeader lines rest before now h = (tt, h.1)
  untold_halt ReadFault lines rest before now h = absurd h
  untold_halt WriteFault lines rest before now h = tt
  untold_halt Limit lines rest before now h = tt
  untold_halt Memory lines rest before now h = tt

  pub stop_outcome : (stop : Stop) (left rest before now : Option (List ℕ)) (bytes : List ℕ) → Consumes left rest bytes → Stops stopped begins meets stop bytes before now → HasStopped stopped whole begins meets stop left rest before now
  stop_outcome stop None rest before now bytes k w = elim w [
    | inl p ↦ untold_halt stop (ended_lines p.part) rest before now p.holds
    | inr q ↦ rw q.0 tt
  ]
  stop_outcome stop (Some xs) None before now bytes k w = absurd k
  stop_outcome stop (Some xs) (Some ys) before now bytes k w =
      let longer : Stops stopped begins meets stop xs before now = subst (λ (l : List ℕ). Stops stopped begins meets stop l before now) (sym k) (stops-longer stopped begins meets stop bytes ys before now w) in
      elim longer [
        | inl p ↦ told_halt stop xs p.part p.rest (Some ys) before now p.split p.within p.holds
        | inr q ↦ rw q.0 q.1
      ]

  pub end_outcome : (stop : Stop) (left rest before now : Option (List ℕ)) (bytes : List ℕ) → Consumes left rest bytes → IsAtEnd rest → IsWithin bytes → Ends stopped whole begins meets stop bytes before now → HasStopped stopped whole begins meets stop left rest before now
  end_outcome stop None rest before now bytes k e within w = elim w [
    | inl h ↦ untold_halt stop (all_lines bytes) rest before now h
    | inr q ↦ rw q.0 tt
  ]
  end_outcome stop (Some xs) None before now bytes k e within w = absurd k
  end_outcome stop (Some xs) (Some ys) before now bytes k e within w =
      let same : xs ≡ bytes = k ∙ ap (λ l. bytes ++ l) e ∙ append-nil bytes in
      subst (λ (l : List ℕ). HasStopped stopped whole begins meets stop (Some l) (Some ys) before now) (sym same) (elim w [
        | inl h ↦ told_end stop bytes (Some ys) before now within h
        | inr q ↦ rw q.0 (inr (within, q.1))
      ])

  pub halt_fault : (stop : Stop) (lines : List (List ℕ)) (before now : Option (List ℕ)) → Halts stopped begins meets stop lines before now → stop ≡ ReadFault → ⊥
  halt_fault BadHeader lines before now h e = absurd cc
  halt_fault ReadFault lines before now h e = h
  halt_fault WriteFault lines before now h e = absurd cc
  halt_fault Limit lines before now h e = absurd cc
  halt_fault Memory lines before now h e = absurd cc

  limit_fault : (stop other : Stop) → stop ≡ ReadFault → stop ≡ other → ReadFault ≡ other
  limit_fault stop other e f = sym e ∙ f

  pub no_fault : (stop : Stop) (bytes : List ℕ) (before now : Option (List ℕ)) → Stops stopped begins meets stop bytes before now → stop ≡ ReadFault → ⊥
  no_fault stop bytes before now w e = elim w [
    | inl p ↦ halt_fault stop (ended_lines p.part) before now p.holds e
    | inr q ↦ let f : ReadFault ≡ Limit = limit_fault stop Limit e q.0 in absurd cc
  ]

  pub no_end_fault : (stop : Stop) (bytes : List ℕ) (before now : Option (List ℕ)) → Ends stopped whole begins meets stop bytes before now → stop ≡ ReadFault → ⊥
  no_end_fault stop bytes before now w e = elim w [
    | inl h ↦ halt_fault stop (all_lines bytes) before now h e
    | inr q ↦ let f : ReadFault ≡ WriteFault = limit_fault stop WriteFault e q.0 in absurd cc
  ]

  pub done_outcome : (left rest before now : Option (List ℕ)) (bytes : List ℕ) → Consumes left rest bytes → IsAtEnd rest → begins (first_line bytes) → OfWhole whole bytes (Appends before now) → HasDone whole begins left before now
  done_outcome None rest before now bytes k e good w = tt
  done_outcome (Some xs) None before now bytes k e good w = absurd k
  done_outcome (Some xs) (Some ys) before now bytes k e good w =
      let same : xs ≡ bytes = k ∙ ap (λ l. bytes ++ l) e ∙ append-nil bytes in
      subst (λ (l : List ℕ). begins (first_line l) × OfWhole whole l (Appends before now)) (sym same) (good, w)

  pub outcome_of : (result : Result (Unit {0}) Stop) (stop : Stop) (left rest before now : Option (List ℕ)) → IfErr result (λ other. HasStopped stopped whole begins meets other left rest before now) → result ≡ Err stop → HasStopped stopped whole begins meets stop left rest before now
  outcome_of result stop left rest before now h is = subst (λ (r : Result (Unit {0}) Stop). IfErr r (λ other. HasStopped stopped whole begins meets other left rest before now)) is h

pub whole_read : (left rest : Option (List ℕ)) (bytes : List ℕ) → Consumes left rest bytes → IsAtEnd rest → IsWithin bytes → IsReadWhole left rest
whole_read None rest bytes k e within = record { within = tt; ended = e }
whole_read (Some xs) None bytes k e within = absurd k
whole_read (Some xs) (Some ys) bytes k e within = record { within = subst IsWithin (sym (k ∙ ap (λ l. bytes ++ l) e ∙ append-nil bytes)) within; ended = e }

-- all that was taken is the front
pub in_whole : (begins : Begins) (left rest : Option (List ℕ)) (bytes : List ℕ) → Consumes left rest bytes → IsWithin bytes → IsBegun begins (ended_lines bytes) → StopsInPiece begins left rest
in_whole begins left rest bytes k within begun = record {
  front = bytes;
  piece = [];
  consumed = subst (λ (l : List ℕ). Consumes left rest l) (sym (append-nil bytes)) k;
  within = within;
  begun = begun;
  small = omega arith;
}
