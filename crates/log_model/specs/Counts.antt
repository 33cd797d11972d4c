-- The questions that a count of bits asks.
use Rattle.std.specs.Prelude.{Bool}
use Rattle.row_types.specs.Bits.{differ, either, both}
use Rattle.log_model.specs.declared.distances.Question.{Question}
use Rattle.log_model.specs.declared.distances.Question.TheVariants.{Differ, Either, Both}

-- whether two bits pass
abbrev pub passes : Question → Bool → Bool → Bool
passes Differ = differ
passes Either = either
passes Both = both
