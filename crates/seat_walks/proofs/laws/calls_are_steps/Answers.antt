use Rattle.std.proofs.Common.{refl}
use Rattle.seat_walks.proofs.Turning.{drew, lifts, took}
use Rattle.seat_walks.proofs.laws.calls_are_steps.Goals as goal

pub returns-clause-draw : goal.returns-clause-draw
returns-clause-draw g c = λ number time s e x d. drew number time s e x d.seat d.allowance d.above

pub returns-clause-lift : goal.returns-clause-lift
returns-clause-lift g c = λ number time s e x is. lifts number time s e x is

pub returns-clause-turn : goal.returns-clause-turn
returns-clause-turn g c = λ number time old inside put new t d.
    took number time old inside put new t.slot t.slot t.before d.later t.notes t.drawn d.tickets refl d.slot d.more d.mine d.rest d.enter d.puts d.leave
