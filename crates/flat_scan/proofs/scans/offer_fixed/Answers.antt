use Rattle.std.proofs.Common.{◌≡◌, sym, subst}
use Rattle.row_types.specs.Bits.{AreWordsOf}
use Rattle.flat_scan.proofs.WordColumns.{first_is, holds_fixed}
use Rattle.flat_scan.proofs.scans.offer_fixed.Goals as goal

pub offer_column-requires : goal.offer_column-requires
offer_column-requires g c =
    let ours : c.index-ours-0.result ≡ c.args.query.now = first_is g.row.W c.args.query.now c.as_chunks.result.0.now c.index-ours-0.result c.requires.some c.requires.width c.as_chunks.ensures.front c.index-ours-0.is in
    let are : AreWordsOf c.args.asked.now.query.now.vector c.index-ours-0.result = subst (AreWordsOf c.args.asked.now.query.now.vector) (sym ours) c.requires.query in
    holds_fixed c.args.asked.now.query.now (g.R.Rows.shown c.args.rows.now) g.row.W c.args.words.now c.as_chunks-2.result.0.now c.index-ours-0.result c.requires.some are c.requires.fits c.requires.column
    c.as_chunks-2.ensures.front c.as_chunks-2.ensures.front_len
