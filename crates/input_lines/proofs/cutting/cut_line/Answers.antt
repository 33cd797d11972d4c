use Rattle.std.proofs.Common.{◌≡◌, ◌<◌, ◌-◌, ◌+◌, length, take_all, arith, length-drop, drop, take, add-one}
use Rattle.input_lines.proofs.Cuts.{lines_of-ended, lines_of-open}
use Rattle.input_lines.proofs.cutting.cut_line.Goals as goal

pub returns-then-end-rest-clause-cut : goal.returns-then-end-rest-clause-cut
returns-then-end-rest-clause-cut c =
    lines_of-open c.args.rest.now (grind (arith, c.if-is_empty.ensures)) (λ k lt. c.find_end-end.ensures.before k (omega arith) (omega arith))

pub returns-else-end-rest-clause-cut : goal.returns-else-end-rest-clause-cut
returns-else-end-rest-clause-cut c =
    let end : c.find_end-end.result < length c.args.rest.now = omega arith in
    let all : take (length c.args.rest.now - (c.find_end-end.result + 1)) (drop (c.find_end-end.result + 1) c.args.rest.now) ≡ drop (c.find_end-end.result + 1) c.args.rest.now = take_all _ _ (omega (arith, length-drop (c.find_end-end.result + 1) c.args.rest.now)) in
    rw (all, add-one) (lines_of-ended c.args.rest.now c.find_end-end.result end (c.find_end-end.ensures.found end) (λ k lt. c.find_end-end.ensures.before k (omega arith) lt))
