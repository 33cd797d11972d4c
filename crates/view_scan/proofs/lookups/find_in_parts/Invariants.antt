use Rattle.std.proofs.Common.{None, map, take}
use Rattle.journal_model.specs.Lists.{joined}
use Rattle.seg_sealed.specs.Parts.{shown_rows}
use Rattle.view_scan.specs.Lookups.{IsRowSeen}
use Rattle.view_scan.proofs.lookups.find_in_parts.Given as goal

abbrev pub invariant-parts : goal.invariant-parts
invariant-parts l = record { none : IsRowSeen l.ts.0 l.key.0 (joined (map shown_rows (take l.part-index l.parts))) None }
