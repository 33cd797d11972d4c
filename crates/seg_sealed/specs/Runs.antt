-- Runs of rows of sealed segments, and the segment of their rows.
use Rattle.std.specs.Prelude.{◌≡◌, ℕ, ℤ, ◌<◌, ◌≤◌, Bool, List, [], length, map, slice_range, Option, Some, None}
use Rattle.log_model.specs.Places.{Placed}
use Rattle.journal_model.specs.Lists.{joined}
use Rattle.binlog_format.specs.declared.objects.Column.{Column}
use Rattle.binlog_format.specs.declared.objects.Column.TheVariants.{Ints, Bools, Texts}
use Rattle.seg_sealed.specs.Segments.{SealedSegment}

-- rows of a sealed segment one after another, from a row number up to another
pub record RowRun : Type 0 where
  pub segment : SealedSegment
  pub begin : ℕ
  pub end : ℕ

pub record IsRun (run : RowRun) : Type 0 where
  pub some : run.begin < run.end
  pub within : run.end ≤ length run.segment.rows

abbrev pub run_rows : RowRun → List Placed
run_rows run = slice_range run.segment.rows run.begin run.end

-- the rows of runs, one run after another
abbrev pub rows_of_runs : List RowRun → List Placed
rows_of_runs runs = joined (map run_rows runs)

-- a run of a segment with the dimension and the kinds of columns of another
pub record IsRunLike (like : SealedSegment) (run : RowRun) : Type 0 where
  pub dim : run.segment.dim ≡ like.dim
  pub kinds : run.segment.kinds ≡ like.kinds

-- a segment of this number of other rows, with the dimension and the kinds of columns of a segment, and without lists
abbrev pub with_rows : ℕ → SealedSegment → List Placed → SealedSegment
with_rows number like rows = record { number = number; dim = like.dim; kinds = like.kinds; rows = rows; lists = None }

-- ---- the values of a column of one kind; none in a column of another

abbrev pub ints_in : Option Column → List ℤ
ints_in (Some (Ints ns)) = ns
ints_in _ = []

abbrev pub bools_in : Option Column → List Bool
bools_in (Some (Bools truths)) = truths
bools_in _ = []

abbrev pub texts_in : Option Column → List (List ℕ)
texts_in (Some (Texts texts)) = texts
texts_in _ = []
