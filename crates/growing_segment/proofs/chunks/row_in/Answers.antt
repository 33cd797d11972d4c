use Rattle.std.proofs.Common.{◌≡◌, ℕ, List, ◌+◌, ◌*◌, ◌/◌, ◌%◌, ◌<◌, length, Some, arith, sym, ap, subst, ◌∙◌}
use Rattle.std.proofs.lemmas.Option.{slice_get_read}
use Rattle.std.specs.List.{slice_get}
use Rattle.log_model.specs.Places.{Placed}
use Rattle.growing_segment.specs.Tails.{Rows, IsWhole, rows_in}
use Rattle.growing_segment.proofs.Columns.{all_at}
use Rattle.growing_segment.proofs.TailLaws.{slice_get-rows_in}
use Rattle.growing_segment.proofs.chunks.row_in.Goals as goal

pub returns : goal.returns
returns c =
    let k : ℕ = c.args.at / 256 in
    let j : ℕ = c.args.at % 256 in
    let parts : 256 * (c.args.at / 256) + c.args.at % 256 ≡ c.args.at = omega arith in
    let in_chunk : c.args.at % 256 < 256 = omega arith in
    let in_chunks : c.args.at / 256 < length c.args.chunks.now = let place = c.requires.place in omega arith in
    let whole = subst IsWhole (sym c.index-chunks-at.is) (all_at IsWhole c.args.chunks.now (c.args.at / 256) c.index-chunks-at.result c.requires.whole in_chunks) in
    let long : 256 ≡ length c.rows.result.now = sym (ap (λ (xs : List Placed). length xs) c.rows.ensures ∙ whole) in
    subst (λ (n : ℕ). slice_get (rows_in c.args.chunks.now) n ≡ Some c.index-rows-at.result) parts
    (slice_get-rows_in c.args.chunks.now (c.args.at / 256) (c.args.at % 256) c.index-chunks-at.result c.requires.whole in_chunks in_chunk
    ∙ ap (λ (r : Rows). slice_get r.rows (c.args.at % 256)) (sym c.index-chunks-at.is)
    ∙ ap (λ (xs : List Placed). slice_get xs (c.args.at % 256)) (sym c.rows.ensures)
    ∙ slice_get_read c.rows.result.now 256 (c.args.at % 256) c.index-rows-at.result long in_chunk c.index-rows-at.is)
