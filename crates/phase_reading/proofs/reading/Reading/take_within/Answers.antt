use Rattle.std.proofs.Common.{◌≡◌, inr, ◌<◌, ◌-◌, ◌++◌, ◌∷◌, List, ℕ, length, take, drop, refl, sym, ap, ◌∙◌, subst, arith, append_assoc, length-append}
use Rattle.std.proofs.lemmas.List.{take-append-drop, length-take-le}
use Rattle.input_lines.specs.declared.limits.TheConstants.{MAX_INPUT}
use Rattle.phase_reading.specs.Outputs.{WritesLimited}
use Rattle.phase_reading.specs.Steps.{Stops}
use Rattle.phase_reading.proofs.Cutting.{stops-longer, over_bytes}
use Rattle.phase_reading.proofs.Ending.{cut_take}
use Rattle.phase_reading.proofs.reading.Reading.take_within.Goals as goal

pub returns-in-Err-clause-ended : goal.returns-in-Err-clause-ended
returns-in-Err-clause-ended g c before all size s =
    let n : ℕ = MAX_INPUT - c.args.taken in
    let room : n < length c.args.piece.now = omega (arith, c.if-piece-room.false) in
    let fits : length (take n c.args.piece.now) ≡ n = length-take-le n c.args.piece.now (omega (arith, room)) in
    let stops = c.in-Err.ensures.ended before all (omega (arith, size, fits, c.requires.had)) s in
    let same : (all ++ take n c.args.piece.now) ++ drop n c.args.piece.now ≡ all ++ c.args.piece.now = append_assoc all (take n c.args.piece.now) (drop n c.args.piece.now) ∙ ap (λ l. all ++ l) (take-append-drop n c.args.piece.now) in
    subst (λ (l : List ℕ). Stops (g.E.Engine.stopped c.take-2.new.engine) g.E.Engine.begins g.E.Engine.meets c.in-Err.stop l before (g.O.Sink.written c.take-2.new.sink)) same
    (stops-longer (g.E.Engine.stopped c.take-2.new.engine) g.E.Engine.begins g.E.Engine.meets c.in-Err.stop (all ++ take n c.args.piece.now) (drop n c.args.piece.now) before (g.O.Sink.written c.take-2.new.sink) stops)

pub returns-clause-ended : goal.returns-clause-ended
returns-clause-ended g c before all size s =
    let n : ℕ = MAX_INPUT - c.args.taken in
    let room : n < length c.args.piece.now = omega (arith, c.if-piece-room.false) in
    let fits : length (take n c.args.piece.now) ≡ n = length-take-le n c.args.piece.now (omega (arith, room)) in
    let b = cut_take c.args.piece.now n room in
    let next = c.in-Ok.ensures.next before all s in
    let same : (all ++ take n c.args.piece.now) ++ b.0 ∷ b.1 ≡ all ++ c.args.piece.now = append_assoc all (take n c.args.piece.now) (b.0 ∷ b.1) ∙ ap (λ l. all ++ l) (sym b.2) in
    inr (
      refl,
      subst (λ (l : List ℕ). WritesLimited (g.E.Engine.stopped c.take-2.new.engine) g.E.Engine.begins g.E.Engine.meets l before (g.O.Sink.written c.take-2.new.sink)) same
          (over_bytes _ _ (g.E.Engine.stands c.take-2.new.engine) _ _ _ _ _ _ _ next b.0 b.1 (omega (arith, size, fits, c.requires.had, length-append all (take n c.args.piece.now)))),
    )
