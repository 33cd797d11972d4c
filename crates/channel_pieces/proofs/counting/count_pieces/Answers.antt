use Rattle.std.proofs.Common.{◌≤◌, ◌+◌, sym, ap, ap₂, subst, ◌∙◌}
use Rattle.std.specs.List.{list_any}
use Rattle.std.specs.FinMap as fin
use Rattle.journal_model.specs.declared.notes.Home.TheVariants.{Leader}
use Rattle.journal_model.specs.Layouts.{is_home}
use Rattle.channel_pieces.specs.declared.counting.PieceCounts.{PieceCounts}
use Rattle.channel_pieces.specs.Fields.{homes_of, counts_after}
use Rattle.channel_pieces.proofs.CountLaws.{HasCountRoom, count_fits, count_more, waiting_more}
use Rattle.channel_pieces.proofs.counting.count_pieces.Goals as goal

pub with_piece-counts-requires-clause-rows : goal.with_piece-counts-requires-clause-rows
with_piece-counts-requires-clause-rows c =
    (subst (λ (k : PieceCounts). HasCountRoom k c.piece-item.result.rows) (sym c.pieces.invariant.counts)
    (count_fits c.args.tail c.args.places.now.segments c.args.pieces.now c.pieces.piece-index c.piece-item.result c.pieces-test.true (sym c.piece-item.is) c.requires)).rows_fit

pub with_piece-counts-requires-clause-live : goal.with_piece-counts-requires-clause-live
with_piece-counts-requires-clause-live c =
    (subst (λ (k : PieceCounts). HasCountRoom k c.piece-item.result.rows) (sym c.pieces.invariant.counts)
    (count_fits c.args.tail c.args.places.now.segments c.args.pieces.now c.pieces.piece-index c.piece-item.result c.pieces-test.true (sym c.piece-item.is) c.requires)).live_fit

pub pieces-preserved : goal.pieces-preserved
pieces-preserved c = record {
  counts = c.with_piece-counts.ensures
      ∙ ap₂ (λ b (k : PieceCounts). counts_after b c.piece-item.result.rows k) (c.has_home-waits.ensures ∙ ap (λ n. list_any (is_home Leader) (homes_of (fin.get c.args.places.now.segments n))) c.number.ensures) c.pieces.invariant.counts
      ∙ sym (count_more c.args.tail c.args.places.now.segments c.args.pieces.now c.pieces.piece-index c.piece-item.result c.pieces-test.true (sym c.piece-item.is));
  waiting = subst (λ (k : PieceCounts). k.waiting ≤ c.pieces.piece-index + 1) (sym c.with_piece-counts.ensures)
      (waiting_more c.has_home-waits.result c.piece-item.result.rows c.pieces.counts c.pieces.piece-index c.pieces.invariant.waiting);
}
