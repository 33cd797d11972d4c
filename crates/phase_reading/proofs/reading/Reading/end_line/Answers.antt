use Rattle.std.proofs.Common.{◌++◌, ◌∷◌, [], length-append, arith}
use Rattle.phase_reading.proofs.Pieces.{if_err}
use Rattle.phase_reading.proofs.Closing.{stops_here}
use Rattle.phase_reading.proofs.Taking.{extended, not_extended}
use Rattle.phase_reading.proofs.reading.Reading.end_line.Goals as goal

pub returns-in-Err-clause-ended : goal.returns-in-Err-clause-ended
returns-in-Err-clause-ended g c before all size s =
    not_extended _ _ (g.E.Engine.stands c.args.engine.now) _ _ _ _ _ _ _ s c.in-Err.stop c.args.tail.now (10 ∷ []) c.requires.open (omega (arith, length-append c.args.tail.now (10 ∷ []))) (omega (arith, size)) c.in-Err.ensures.err

pub close-requires-clause-known : goal.close-requires-clause-known
close-requires-clause-known g c =
    let k = c.requires.known in
    let e = c.in-Ok.ensures in
    (k.0, k.1 ++ c.args.tail.now, extended _ _ (g.E.Engine.stands c.args.engine.now) _ _ _ _ _ _ _ k.2 c.args.tail.now c.in-Ok.longer.last.items c.in-Ok.longer.lines c.requires.open e.last e.lines e.size)

pub returns-clause-ended : goal.returns-clause-ended
returns-clause-ended g c =
    let e = c.in-Ok.ensures in
    if_err _ _ c.close.result (λ stop ended before all size s.
    let n = extended _ _ (g.E.Engine.stands c.args.engine.now) _ _ _ _ _ _ _ s c.args.tail.now c.in-Ok.longer.last.items c.in-Ok.longer.lines c.requires.open e.last e.lines e.size in
    stops_here _ _ (λ done waiting output told. g.E.Engine.persists c.args.engine.now c.close.new.engine done output c.close.ensures.follows (g.E.Engine.stands c.args.engine.now done waiting output told)) _ _ _ _ _ _ _ n stop _ (omega (arith, e.lines.0, e.lines.1)) (omega (arith, size, length-append all c.args.tail.now)) (ended before (all ++ c.args.tail.now) n)) c.close.ensures.ended
