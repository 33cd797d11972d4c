use Rattle.std.proofs.Common.{◌≡◌, false, take}
use Rattle.std.specs.List.{AllByRecursion}
use Rattle.flat_scan.specs.KeyPlaces.{shows_key}
use Rattle.flat_scan.proofs.finds.place_in.Given as goal

abbrev pub invariant-rows : goal.invariant-rows
invariant-rows g l = record { none : AllByRecursion (λ s. shows_key l.ts.0 l.key.0 s ≡ false) (take l.i (g.R.Rows.shown l.rows)) }
