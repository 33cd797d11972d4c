use Rattle.std.proofs.Common.{◌≡◌, ◌+◌, ◌∷◌, List, drop, sym, ap, subst, ◌∙◌, slice_index_or}
use Rattle.std.proofs.lemmas.List.{drop_more}
use Rattle.channel_pieces.specs.declared.counting.PieceCounts.{PieceCounts}
use Rattle.shard_core.specs.declared.pending.Pending.{Pending}
use Rattle.shard_core.specs.declared.pending.Pending.TheVariants.{Row}
use Rattle.shard_core.specs.Steps.{counted_after, counted_all, Fit}
use Rattle.shard_core.proofs.lagging.count_pending.Goals as goal

pub count_next-counts-requires-clause-tail : goal.count_next-counts-requires-clause-tail
count_next-counts-requires-clause-tail c = (subst (Fit c.pending.counts) (drop_more c.args.pending.now c.pending.next-index (Row 0) c.pending-test.true) c.pending.invariant.fits).0

pub count_next-counts-requires-clause-waiting : goal.count_next-counts-requires-clause-waiting
count_next-counts-requires-clause-waiting c = (subst (Fit c.pending.counts) (drop_more c.args.pending.now c.pending.next-index (Row 0) c.pending-test.true) c.pending.invariant.fits).1

pub pending-preserved : goal.pending-preserved
pending-preserved c =
    let i = c.pending.next-index in
    let next = slice_index_or c.args.pending.now i (Row 0) in
    let rest : List Pending = drop (i + 1) c.args.pending.now in
    let more : drop i c.args.pending.now ≡ next ∷ rest = drop_more c.args.pending.now i (Row 0) c.pending-test.true in
    let fits : Fit c.pending.counts (next ∷ rest) = subst (Fit c.pending.counts) more c.pending.invariant.fits in
    let same : c.count_next-counts.result ≡ counted_after c.pending.counts next = c.count_next-counts.ensures in
    record {
      fits = subst (λ (k : PieceCounts). Fit k rest) (sym same) fits.2;
      rest = ap (λ (k : PieceCounts). counted_all k rest) same ∙ sym (ap (counted_all c.pending.counts) more) ∙ c.pending.invariant.rest;
    }
