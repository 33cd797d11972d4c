use Rattle.std.proofs.Common.{inr, ◌++◌, ◌∷◌, [], refl, length-append, arith}
use Rattle.phase_reading.proofs.Closing.{stops_here}
use Rattle.phase_reading.proofs.Taking.{extended, not_extended}
use Rattle.phase_reading.proofs.reading.Reading.end_whole.Goals as goal

pub returns-in-Err-clause-ended : goal.returns-in-Err-clause-ended
returns-in-Err-clause-ended g c before all size s =
    not_extended _ _ (g.E.Engine.stands c.args.engine.now) _ _ _ _ _ _ _ s c.in-Err.stop c.args.line.now (10 ∷ []) c.requires.open (omega (arith, length-append c.args.line.now (10 ∷ []))) (omega (arith, size)) (inr c.in-Err.ensures.err)

pub answer_line-requires-clause-known : goal.answer_line-requires-clause-known
answer_line-requires-clause-known g c =
    let k = c.requires.known in
    let ok = c.in-Ok.ensures.ok in
    (k.0, k.1 ++ c.args.line.now, extended _ _ (g.E.Engine.stands c.args.engine.now) _ _ _ _ _ _ _ k.2 c.args.line.now c.args.line.now c.args.self.lines c.requires.open refl (refl, ok.0) ok.1)

pub returns-in-Err-answer_line-clause-ended : goal.returns-in-Err-answer_line-clause-ended
returns-in-Err-answer_line-clause-ended g c before all size s =
    let ok = c.in-Ok.ensures.ok in
    let n = extended _ _ (g.E.Engine.stands c.args.engine.now) _ _ _ _ _ _ _ s c.args.line.now c.args.line.now c.args.self.lines c.requires.open refl (refl, ok.0) ok.1 in
    stops_here _ _ (λ done waiting output told. g.E.Engine.persists c.args.engine.now c.answer_line.new.engine done output c.answer_line.ensures.follows (g.E.Engine.stands c.args.engine.now done waiting output told)) _ _ _ _ _ _ _ n c.in-Err-answer_line.stop _ ok.0 (omega (arith, size, length-append all c.args.line.now)) (c.in-Err-answer_line.ensures.ended before (all ++ c.args.line.now) n)
