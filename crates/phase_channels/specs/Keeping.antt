-- The last writes of callers behind a phase. Nothing here has to be believed: it is said for the proofs.
use Rattle.std.specs.Prelude.{List, slice_set}
use Rattle.std.specs.List.{fold}
use Rattle.hybrid_time.specs.declared.times.Timestamp.{Timestamp}
use Rattle.phase_run.specs.declared.works.Done.{Done}

abbrev pub keep : List Timestamp → Done → List Timestamp
keep mine done = slice_set mine done.caller done.mine

-- the last writes, where those of callers that had work are put in the places of older ones
abbrev pub kept : List Timestamp → List Done → List Timestamp
kept mine dones = fold keep mine dones
