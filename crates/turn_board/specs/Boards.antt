-- A board as callers see it.
use Rattle.std.specs.Prelude.{ℕ, List}
use Rattle.turn_board.specs.declared.boards.Entry.{Entry}

-- its entries, its channel, and how many entries it has room for
pub record Written : Type 0 where
  pub entries : List Entry
  pub channel : ℕ
  pub room : ℕ
