use Rattle.std.proofs.Common.{List, ℕ, sym, subst}
use Rattle.phase_reading.specs.Phases.{IsBegun}
use Rattle.phase_reading.proofs.Pieces.{on_ok, if_err}
use Rattle.phase_reading.proofs.Cutting.{begun_now}
use Rattle.phase_reading.proofs.Taking.{ready_end, finished, not_finished}
use Rattle.phase_reading.proofs.reading.Reading.finish.Goals as goal

pub end_input-requires : goal.end_input-requires
end_input-requires g c =
    let k = c.requires.known in
    let n = c.in-Ok.ensures.next k.0 k.1 k.2 in
    record { ready = ready_end _ _ (g.E.Engine.stands c.close_last.new.engine) _ _ _ _ _ _ _ n.4 n.3 }

pub returns-clause-done : goal.returns-clause-done
returns-clause-done g c =
    let B : List (List ℕ) → Type 0 = IsBegun g.E.Engine.begins in
    on_ok _ _ c.end_input.result (λ w before all s.
    let n = c.in-Ok.ensures.next before all s in
    (subst B (sym n.2) (begun_now _ _ _ _ _ _ _ _ n.4), finished _ _ (g.E.Engine.stands c.close_last.new.engine) _ _ _ _ _ _ _ n.4 _ _ all n.2 w)) c.end_input.ensures.ok

pub returns-clause-ended : goal.returns-clause-ended
returns-clause-ended g c =
    if_err _ _ c.end_input.result (λ stop f before all s.
    let n = c.in-Ok.ensures.next before all s in
    not_finished _ _ (λ done waiting output told. g.E.Engine.persists c.close_last.new.engine c.end_input.new.engine done output c.end_input.ensures.follows (g.E.Engine.stands c.close_last.new.engine done waiting output told)) _ _ _ _ _ _ _ n.4 (g.E.Engine.whole c.end_input.new.engine) _ all n.2 stop f) c.end_input.ensures.err
