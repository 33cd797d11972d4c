use Rattle.std.proofs.Common.{◌≡◌, ◌++◌, ◌∷◌, [], List, ℕ, ◌<◌, length, sym, ap, ◌∙◌, subst, arith, refl, append-nil, append_assoc, length-append}
use Rattle.phase_reading.specs.Steps.{IsSoFar, Stops}
use Rattle.phase_reading.proofs.Cutting.{stops-longer}
use Rattle.phase_reading.proofs.Taking.{extended, not_extended, step_piece, step_all, step_whole, step_size, last_size_of}
use Rattle.phase_reading.proofs.reading.Reading.take.Goals as goal

pub end_line-requires-clause-known : goal.end_line-requires-clause-known
end_line-requires-clause-known g c =
    let k = c.requires.known in
    let i = c.lines.invariant.known in
    (k.0, k.1 ++ i.0, i.2 k.0 k.1 k.2)

pub lines-init : goal.lines-init
lines-init g c = record {
  known = ([], refl, λ before all s. subst (λ (l : List ℕ). IsSoFar (g.E.Engine.account c.args.engine.now) g.E.Engine.begins g.E.Engine.meets before (g.O.Sink.written c.args.sink.now) l c.args.self.last.items c.args.self.lines) (sym (append-nil all)) s);
  follows = g.E.Engine.stays c.args.engine.now;
  later = omega arith;
}

pub returns-in-Err-clause-ended : goal.returns-in-Err-clause-ended
returns-in-Err-clause-ended g c before all size s =
    let i = c.lines.invariant.known in
    let f = c.in-Some.ensures.1 in
    let stops = c.in-Err.ensures.ended before (all ++ i.0) (step_size all c.args.piece.now i.0 c.lines.rest.now c.in-Some.text.now c.in-Some.after.now i.1 f size) (i.2 before all s) in
    subst (λ (l : List ℕ). Stops (g.E.Engine.stopped c.end_line.new.engine) g.E.Engine.begins g.E.Engine.meets c.in-Err.stop l before (g.O.Sink.written c.end_line.new.sink)) (step_whole all c.args.piece.now i.0 c.lines.rest.now c.in-Some.text.now c.in-Some.after.now i.1 f)
    (stops-longer (g.E.Engine.stopped c.end_line.new.engine) g.E.Engine.begins g.E.Engine.meets c.in-Err.stop (((all ++ i.0) ++ c.in-Some.text.now) ++ 10 ∷ []) c.in-Some.after.now before (g.O.Sink.written c.end_line.new.sink) stops)

pub lines-preserved : goal.lines-preserved
lines-preserved g c =
    let i = c.lines.invariant.known in
    let f = c.in-Some.ensures.1 in
    record {
      known = (
        i.0 ++ (c.in-Some.text.now ++ 10 ∷ []),
        step_piece c.args.piece.now i.0 c.lines.rest.now c.in-Some.text.now c.in-Some.after.now i.1 f,
        λ before all s.
            subst (λ (l : List ℕ). IsSoFar (g.E.Engine.account c.end_line.new.engine) g.E.Engine.begins g.E.Engine.meets before (g.O.Sink.written c.end_line.new.sink) l c.in-Ok.next.last.items c.in-Ok.next.lines) (step_all all i.0 c.in-Some.text.now)
            (c.in-Ok.ensures.next before (all ++ i.0) (i.2 before all s)),
      );
      follows = g.E.Engine.goes_on _ _ _ c.lines.invariant.follows c.end_line.ensures.follows;
      later = omega (arith, c.lines.invariant.later, c.end_line.ensures.later);
    }

pub lines-smaller : goal.lines-smaller
lines-smaller g c = omega (arith, ap length c.in-Some.ensures.1, length-append c.in-Some.text.now (10 ∷ c.in-Some.after.now))

pub returns-in-Ok-extend-clause-next : goal.returns-in-Ok-extend-clause-next
returns-in-Ok-extend-clause-next g c before all s =
    let i = c.lines.invariant.known in
    let e = c.in-Ok-extend.ensures in
    let same : (all ++ i.0) ++ c.lines.rest.now ≡ all ++ c.args.piece.now = append_assoc all i.0 c.lines.rest.now ∙ ap (λ l. all ++ l) (sym i.1) in
    subst (λ (l : List ℕ). IsSoFar (g.E.Engine.account c.lines.engine) g.E.Engine.begins g.E.Engine.meets before (g.O.Sink.written c.lines.sink) l c.in-Ok-extend.next.last.items c.in-Ok-extend.next.lines) same
    (extended _ _ (g.E.Engine.stands c.lines.engine) _ _ _ _ _ _ _ (i.2 before all s) c.lines.rest.now c.in-Ok-extend.next.last.items c.in-Ok-extend.next.lines c.in_default.ensures e.last e.lines e.size)

pub returns-in-Err-extend-clause-ended : goal.returns-in-Err-extend-clause-ended
returns-in-Err-extend-clause-ended g c before all size s =
    let i = c.lines.invariant.known in
    let same : ((all ++ i.0) ++ c.lines.rest.now) ++ [] ≡ all ++ c.args.piece.now = append-nil _ ∙ append_assoc all i.0 c.lines.rest.now ∙ ap (λ l. all ++ l) (sym i.1) in
    let some : 0 < length c.lines.rest.now = grind (arith, c.if-is_empty.ensures, c.if-is_empty.false) in
    subst (λ (l : List ℕ). Stops (g.E.Engine.stopped c.lines.engine) g.E.Engine.begins g.E.Engine.meets c.in-Err-extend.stop l before (g.O.Sink.written c.lines.sink)) same
    (not_extended _ _ (g.E.Engine.stands c.lines.engine) _ _ _ _ _ _ _ (i.2 before all s) c.in-Err-extend.stop c.lines.rest.now [] c.in_default.ensures (omega (arith, some, length-append c.lines.rest.now [])) (last_size_of all c.args.piece.now i.0 c.lines.rest.now i.1 size) c.in-Err-extend.ensures.err)
