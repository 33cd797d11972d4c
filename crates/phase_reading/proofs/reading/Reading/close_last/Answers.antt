use Rattle.std.proofs.Common.{◌≡◌, ◌⊎◌, inl, inr, ◌<◌, length, arith}
use Rattle.phase_reading.proofs.Pieces.{on_ok, if_err}
use Rattle.phase_reading.proofs.Taking.{no_more, close_none, close_next, close_ended}
use Rattle.phase_reading.proofs.reading.Reading.close_last.Goals as goal
use Rattle.phase_reading.proofs.reading.Reading.close_last.Goals.{else-self-gt0-via-then-self-gt0+else-is_empty, else-self-gt0-via-else-self-gt0}

pub returns-then-is_empty-clause-next : goal.returns-then-is_empty-clause-next
returns-then-is_empty-clause-next g c before all s =
    let none : length c.args.self.last.items ≡ 0 = grind (arith, c.if-is_empty.ensures, c.if-is_empty.true) in
    close_none _ _ (g.E.Engine.stands c.args.engine.now) _ _ _ _ _ _ _ s (omega (arith, c.if-self-gt0.true)) (no_more _ none)

pub returns-clause-next : goal.returns-clause-next
returns-clause-next g c =
    let some : (0 < length c.args.self.last.items) ⊎ (c.args.self.lines ≡ 0) = elim c.else-self-gt0.branch [
      | else-self-gt0-via-then-self-gt0+else-is_empty w ↦ inl (grind (arith, w.if-is_empty.ensures, w.if-is_empty.false))
      | else-self-gt0-via-else-self-gt0 w ↦ inr (omega (arith, w.if-self-gt0.false))
    ] in
    on_ok _ _ c.answer_line.result (λ next before all s. close_next _ _ (g.E.Engine.stands c.args.engine.now) _ _ _ _ _ _ _ s _ _ c.deref.result.now c.deref.ensures.value some (next before all)) c.answer_line.ensures.next

pub returns-clause-ended : goal.returns-clause-ended
returns-clause-ended g c =
    let some : (0 < length c.args.self.last.items) ⊎ (c.args.self.lines ≡ 0) = elim c.else-self-gt0.branch [
      | else-self-gt0-via-then-self-gt0+else-is_empty w ↦ inl (grind (arith, w.if-is_empty.ensures, w.if-is_empty.false))
      | else-self-gt0-via-else-self-gt0 w ↦ inr (omega (arith, w.if-self-gt0.false))
    ] in
    if_err _ _ c.answer_line.result (λ stop ended before all s. close_ended _ _ (λ done waiting output told. g.E.Engine.persists c.args.engine.now c.answer_line.new.engine done output c.answer_line.ensures.follows (g.E.Engine.stands c.args.engine.now done waiting output told)) _ _ _ _ _ _ _ s stop _ c.deref.result.now c.deref.ensures.value some (ended before all)) c.answer_line.ensures.ended
