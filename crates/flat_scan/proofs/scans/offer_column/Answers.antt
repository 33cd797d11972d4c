use Rattle.std.proofs.Common.{◌∙◌, ap, sym}
use Rattle.row_types.specs.declared.hits.Metric.TheVariants as metrics
use Rattle.row_types.specs.Hits.{distance_of}
use Rattle.flat_scan.proofs.scans.offer_column.Goals as goal

pub offer_rows-requires : goal.offer_rows-requires
offer_rows-requires g c = record {
  all = c.requires.all;
  each = λ i s e. c.requires.each i s e metrics.Hamming ∙ ap (λ m. distance_of m c.args.asked.now.query.now.vector s.row.vector) (sym c.in-Hamming.is);
}

pub offer_rows-requires-in-Jaccard : goal.offer_rows-requires-in-Jaccard
offer_rows-requires-in-Jaccard g c = record {
  all = c.requires.all;
  each = λ i s e. c.requires.each i s e metrics.Jaccard ∙ ap (λ m. distance_of m c.args.asked.now.query.now.vector s.row.vector) (sym c.in-Jaccard.is);
}
