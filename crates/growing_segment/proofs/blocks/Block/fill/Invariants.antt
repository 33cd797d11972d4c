use Rattle.growing_segment.proofs.Columns.{first_dim}
use Rattle.growing_segment.proofs.blocks.Block.fill.Given as goal

abbrev pub ghost-move_rows : goal.ghost-move_rows
ghost-move_rows a = first_dim a.latest.now.items
