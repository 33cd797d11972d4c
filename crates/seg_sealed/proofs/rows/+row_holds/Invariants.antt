use Rattle.std.proofs.Common.{◌≡◌, drop}
use Rattle.row_types.specs.Filters.{any_passes, all_pass}
use Rattle.seg_sealed.proofs.rows.+row_holds.Given as goal

-- the members before this one decided nothing
abbrev pub invariant-any_holds-loop-member : goal.invariant-any_holds-loop-member
invariant-any_holds-loop-member l = any_passes l.row (drop l.member-index l.members) ≡ any_passes l.row l.members

abbrev pub invariant-all_hold-loop-member : goal.invariant-all_hold-loop-member
invariant-all_hold-loop-member l = all_pass l.row (drop l.member-index l.members) ≡ all_pass l.row l.members
