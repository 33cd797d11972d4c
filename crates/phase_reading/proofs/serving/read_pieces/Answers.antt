use Rattle.std.proofs.Common.{◌≡◌, ◌++◌, [], length, take, length-take, length-append, refl, arith}
use Rattle.std.proofs.lemmas.List.{length-take-le}
use Rattle.phase_reading.proofs.Pieces.{none_consumed, consumed_kept, consumed_more, consumed_last}
use Rattle.phase_reading.proofs.Steps.{at_start}
use Rattle.phase_reading.proofs.Cutting.{within_now, begun_now, stopped_now}
use Rattle.phase_reading.proofs.Ending.{stop_outcome, end_outcome, done_outcome, no_fault, no_end_fault, whole_read, in_whole}
use Rattle.phase_reading.proofs.serving.read_pieces.Goals as goal

pub pieces-init : goal.pieces-init
pieces-init g c = record {
  known = ([], none_consumed _, refl, rw (c.start-reading.ensures.last, c.start-reading.ensures.lines) (at_start g.E.Engine.begins g.E.Engine.meets (g.O.Sink.written c.args.sink.now) (g.E.Engine.account c.args.engine.now) c.requires.fresh));
  few = omega arith;
  some = c.requires.some;
  small = c.requires.small;
  follows = g.E.Engine.stays c.args.engine.now;
  later = omega arith;
  later_sink = omega arith;
}

pub returns-in-Err-clause-stopped : goal.returns-in-Err-clause-stopped
returns-in-Err-clause-stopped g c =
    let i = c.pieces.invariant.known in
    let few = c.pieces.invariant.few in
    record {
      taken = i.0;
      consumed = consumed_kept _ _ _ i.0 i.1 c.in-Err.ensures.kept;
      within = within_now _ _ _ _ _ _ _ _ i.3 (omega (arith, i.2, few));
      begun = begun_now _ _ _ _ _ _ _ _ i.3;
      writes = stopped_now _ _ (g.E.Engine.stands c.pieces.engine) _ _ _ _ _ _ _ i.3;
    }

pub returns-in-Err-clause-in_piece : goal.returns-in-Err-clause-in_piece
returns-in-Err-clause-in_piece g c =
    let i = c.pieces.invariant.known in
    in_whole g.E.Engine.begins _ _ i.0 (consumed_kept _ _ _ i.0 i.1 c.in-Err.ensures.kept) (within_now _ _ _ _ _ _ _ _ i.3 (omega (arith, i.2, c.pieces.invariant.few))) (begun_now _ _ _ _ _ _ _ _ i.3)

pub returns-in-Ok-finish-clause-done : goal.returns-in-Ok-finish-clause-done
returns-in-Ok-finish-clause-done g c =
    let i = c.pieces.invariant.known in
    let d = c.in-Ok-finish.ensures.done (g.O.Sink.written c.args.sink.now) i.0 i.3 in
    done_outcome (g.E.Engine.stopped c.finish.new.engine) (g.E.Engine.whole c.finish.new.engine) g.E.Engine.begins g.E.Engine.meets _ (g.S.Source.left c.read_piece.new.source) _ _ i.0 (consumed_last _ _ _ i.0 _ c.in-Ok.count c.if-count-eq0.true i.1 c.in-Ok.ensures.bytes) (c.in-Ok.ensures.end c.if-count-eq0.true) d.0 d.1

pub returns-in-Ok-finish-clause-within : goal.returns-in-Ok-finish-clause-within
returns-in-Ok-finish-clause-within g c =
    let i = c.pieces.invariant.known in
    whole_read _ _ i.0 (consumed_last _ _ _ i.0 _ c.in-Ok.count c.if-count-eq0.true i.1 c.in-Ok.ensures.bytes) (c.in-Ok.ensures.end c.if-count-eq0.true) (within_now _ _ _ _ _ _ _ _ i.3 (omega (arith, i.2, c.pieces.invariant.few)))

pub returns-in-Ok-finish-clause-in_piece : goal.returns-in-Ok-finish-clause-in_piece
returns-in-Ok-finish-clause-in_piece g c =
    let i = c.pieces.invariant.known in
    in_whole g.E.Engine.begins _ _ i.0 (consumed_last _ _ _ i.0 _ c.in-Ok.count c.if-count-eq0.true i.1 c.in-Ok.ensures.bytes) (within_now _ _ _ _ _ _ _ _ i.3 (omega (arith, i.2, c.pieces.invariant.few))) (begun_now _ _ _ _ _ _ _ _ i.3)

pub returns-in-Err-finish-clause-stopped : goal.returns-in-Err-finish-clause-stopped
returns-in-Err-finish-clause-stopped g c =
    let i = c.pieces.invariant.known in
    end_outcome (g.E.Engine.stopped c.finish.new.engine) (g.E.Engine.whole c.finish.new.engine) g.E.Engine.begins g.E.Engine.meets c.in-Err-finish.stop _ (g.S.Source.left c.read_piece.new.source) _ _ i.0 (consumed_last _ _ _ i.0 _ c.in-Ok.count c.if-count-eq0.true i.1 c.in-Ok.ensures.bytes) (c.in-Ok.ensures.end c.if-count-eq0.true)
    (within_now _ _ _ _ _ _ _ _ i.3 (omega (arith, i.2, c.pieces.invariant.few))) (c.in-Err-finish.ensures.ended (g.O.Sink.written c.args.sink.now) i.0 i.3)

pub returns-in-Err-finish-clause-read_fault : goal.returns-in-Err-finish-clause-read_fault
returns-in-Err-finish-clause-read_fault g c e =
    let i = c.pieces.invariant.known in
    absurd (no_end_fault (g.E.Engine.stopped c.finish.new.engine) (g.E.Engine.whole c.finish.new.engine) g.E.Engine.begins g.E.Engine.meets c.in-Err-finish.stop i.0 _ _ (c.in-Err-finish.ensures.ended (g.O.Sink.written c.args.sink.now) i.0 i.3) e)

pub returns-in-Err-finish-clause-in_piece : goal.returns-in-Err-finish-clause-in_piece
returns-in-Err-finish-clause-in_piece g c =
    let i = c.pieces.invariant.known in
    in_whole g.E.Engine.begins _ _ i.0 (consumed_last _ _ _ i.0 _ c.in-Ok.count c.if-count-eq0.true i.1 c.in-Ok.ensures.bytes) (within_now _ _ _ _ _ _ _ _ i.3 (omega (arith, i.2, c.pieces.invariant.few))) (begun_now _ _ _ _ _ _ _ _ i.3)

pub returns-in-Err-take_within-clause-stopped : goal.returns-in-Err-take_within-clause-stopped
returns-in-Err-take_within-clause-stopped g c =
    let i = c.pieces.invariant.known in
    stop_outcome (g.E.Engine.stopped c.take_within.new.engine) (g.E.Engine.whole c.take_within.new.engine) g.E.Engine.begins g.E.Engine.meets c.in-Err-take_within.stop _ (g.S.Source.left c.read_piece.new.source) _ _ (i.0 ++ take c.in-Ok.count c.read_piece.new.buffer) (consumed_more _ _ _ _ _ i.1 c.in-Ok.ensures.bytes)
    (c.in-Err-take_within.ensures.ended (g.O.Sink.written c.args.sink.now) i.0 i.2 i.3)

pub returns-in-Err-take_within-clause-read_fault : goal.returns-in-Err-take_within-clause-read_fault
returns-in-Err-take_within-clause-read_fault g c e =
    let i = c.pieces.invariant.known in
    absurd (no_fault (g.E.Engine.stopped c.take_within.new.engine) (g.E.Engine.whole c.take_within.new.engine) g.E.Engine.begins g.E.Engine.meets c.in-Err-take_within.stop (i.0 ++ take c.in-Ok.count c.read_piece.new.buffer) _ _ (c.in-Err-take_within.ensures.ended (g.O.Sink.written c.args.sink.now) i.0 i.2 i.3) e)

pub returns-in-Err-take_within-clause-in_piece : goal.returns-in-Err-take_within-clause-in_piece
returns-in-Err-take_within-clause-in_piece g c =
    let i = c.pieces.invariant.known in
    let size : length (take c.in-Ok.count c.read_piece.new.buffer) ≡ c.in-Ok.count = length-take-le c.in-Ok.count c.read_piece.new.buffer c.in-Ok.ensures.room.0 in
    record {
      front = i.0;
      piece = take c.in-Ok.count c.read_piece.new.buffer;
      consumed = consumed_more _ _ _ _ _ i.1 c.in-Ok.ensures.bytes;
      within = within_now _ _ _ _ _ _ _ _ i.3 (omega (arith, i.2, c.pieces.invariant.few));
      begun = begun_now _ _ _ _ _ _ _ _ i.3;
      small = omega (arith, size, c.in-Ok.ensures.room.0, c.pieces.invariant.small, c.read_piece.auto.buffer, c.pieces.auto.buffer);
    }

pub returns-in-Err-take_within-clause-bounded : goal.returns-in-Err-take_within-clause-bounded
returns-in-Err-take_within-clause-bounded g c =
    let i = c.pieces.invariant.known in
    (i.0 ++ take c.in-Ok.count c.read_piece.new.buffer, consumed_more _ _ _ _ _ i.1 c.in-Ok.ensures.bytes, omega (arith, i.2, c.in-Ok.ensures.room, length-append i.0 (take c.in-Ok.count c.read_piece.new.buffer), length-take c.in-Ok.count c.read_piece.new.buffer))

pub pieces-preserved : goal.pieces-preserved
pieces-preserved g c =
    let i = c.pieces.invariant.known in
    let size : length (take c.in-Ok.count c.read_piece.new.buffer) ≡ c.in-Ok.count = length-take-le c.in-Ok.count c.read_piece.new.buffer c.in-Ok.ensures.room.0 in
    record {
      known = (i.0 ++ take c.in-Ok.count c.read_piece.new.buffer, consumed_more _ _ _ _ _ i.1 c.in-Ok.ensures.bytes, omega (arith, i.2, size, length-append i.0 (take c.in-Ok.count c.read_piece.new.buffer)), c.in-Ok-take_within.ensures.next (g.O.Sink.written c.args.sink.now) i.0 i.3);
      few = omega (arith, c.in-Ok-take_within.ensures.size, size);
      some = omega (arith, c.pieces.invariant.some, c.read_piece.auto.buffer, c.pieces.auto.buffer);
      small = omega (arith, c.pieces.invariant.small, c.read_piece.auto.buffer, c.pieces.auto.buffer);
      follows = g.E.Engine.goes_on _ _ _ c.pieces.invariant.follows c.take_within.ensures.follows;
      later = omega (arith, c.pieces.invariant.later, c.in-Ok.ensures.later);
      later_sink = omega (arith, c.pieces.invariant.later_sink, c.take_within.ensures.later);
    }

pub returns-in-Ok-finish-clause-follows : goal.returns-in-Ok-finish-clause-follows
returns-in-Ok-finish-clause-follows g c = g.E.Engine.goes_on _ _ _ c.pieces.invariant.follows c.finish.ensures.follows

pub returns-in-Err-finish-clause-follows : goal.returns-in-Err-finish-clause-follows
returns-in-Err-finish-clause-follows g c = g.E.Engine.goes_on _ _ _ c.pieces.invariant.follows c.finish.ensures.follows

pub returns-in-Err-take_within-clause-follows : goal.returns-in-Err-take_within-clause-follows
returns-in-Err-take_within-clause-follows g c = g.E.Engine.goes_on _ _ _ c.pieces.invariant.follows c.take_within.ensures.follows
