use Rattle.std.proofs.Common.{◌≡◌, List, ℕ, map, ap, ◌∙◌}
use Rattle.hybrid_time.specs.declared.times.Timestamp.{Timestamp}
use Rattle.channel_pieces.specs.Pieces.{after_deaths}
use Rattle.channel_pieces.specs.Fields.{MarkedTail, tail_readied, tail_committed, committed}
use Rattle.channel_pieces.proofs.PieceLaws.{after, settled_keeps, same_seen, if_err, marking_keeps, marking_seen}
use Rattle.channel_pieces.proofs.pieces.Pieces.mark.Goals as goal

pub invariant_of-self-in_err-prepare_all : goal.invariant_of-self-in_err-prepare_all
invariant_of-self-in_err-prepare_all c = record { kept = settled_keeps c.self.inside.kinds c.self.inside.tail c.prepare.new.self c.self.inside.segments.items c.prepare_all.new.pieces.items c.self.inside.places c.self.invariant.kept (ap (λ (t : MarkedTail). t.dim) c.in_ok-prepare.ensures.ok) (ap (λ (t : MarkedTail). t.rows) c.in_ok-prepare.ensures.ok) c.prepare_all.ensures.same; listed = tt }

pub returns-in_err-prepare_all-clause-err : goal.returns-in_err-prepare_all-clause-err
returns-in_err-prepare_all-clause-err c = if_err c.from_residual-in_err-prepare_all.result _ (same_seen c.self.inside.kinds c.self.inside.tail c.prepare.new.self c.self.inside.segments.items c.prepare_all.new.pieces.items c.self.inside.places (ap (λ (t : MarkedTail). t.dim) c.in_ok-prepare.ensures.ok) (ap (λ (t : MarkedTail). t.rows) c.in_ok-prepare.ensures.ok) c.prepare_all.ensures.same ∙ c.self.view_is)

pub invariant_of-self-2 : goal.invariant_of-self-2
invariant_of-self-2 c =
    let t : c.commit.new.self ≡ tail_committed (tail_readied c.in_ok-sorted.sorted.items c.self.inside.tail) = c.commit.ensures ∙ ap tail_committed c.in_ok-prepare.ensures.ok ∙ ap (λ (d : List (ℕ × Timestamp)). tail_committed (tail_readied d c.self.inside.tail)) c.as_slice.ensures.value in
    let p : c.commit_all.new.pieces.items ≡ after c.in_ok-sorted.sorted.items c.self.inside.segments.items = c.commit_all.ensures ∙ ap (map committed) c.in_ok-prepare_all.ensures.ok ∙ ap (λ (d : List (ℕ × Timestamp)). after d c.self.inside.segments.items) c.as_slice-2.ensures.value in
    record { kept = marking_keeps c.self.inside.kinds c.self.inside.tail c.commit.new.self c.self.inside.segments.items c.commit_all.new.pieces.items c.self.inside.places c.in_ok-sorted.sorted.items c.self.invariant.kept t p; listed = tt }

pub returns-clause-ok : goal.returns-clause-ok
returns-clause-ok c =
    let t : c.commit.new.self ≡ tail_committed (tail_readied c.in_ok-sorted.sorted.items c.self.inside.tail) = c.commit.ensures ∙ ap tail_committed c.in_ok-prepare.ensures.ok ∙ ap (λ (d : List (ℕ × Timestamp)). tail_committed (tail_readied d c.self.inside.tail)) c.as_slice.ensures.value in
    let p : c.commit_all.new.pieces.items ≡ after c.in_ok-sorted.sorted.items c.self.inside.segments.items = c.commit_all.ensures ∙ ap (map committed) c.in_ok-prepare_all.ensures.ok ∙ ap (λ (d : List (ℕ × Timestamp)). after d c.self.inside.segments.items) c.as_slice-2.ensures.value in
    marking_seen c.self.inside.kinds c.self.inside.tail c.commit.new.self c.self.inside.segments.items c.commit_all.new.pieces.items c.self.inside.places c.in_ok-sorted.sorted.items c.args.deaths.now t p c.in_ok-sorted.ensures.same ∙ ap (after_deaths c.args.deaths.now) c.self.view_is
