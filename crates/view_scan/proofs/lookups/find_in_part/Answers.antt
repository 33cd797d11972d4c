use Rattle.seg_sealed.specs.Parts.{shown_rows}
use Rattle.view_scan.proofs.Found.{within, row_same, seen_at, none_seen}
use Rattle.view_scan.proofs.lookups.find_in_part.Goals as goal

pub row_of-requires : goal.row_of-requires
row_of-requires c = within c.args.part.now.deaths 0 c.args.part.now.sealed.rows c.in-Some.i c.in-Some.ensures.0 c.in-Some.ensures.1

pub returns-in_ok-row_of-in-Some : goal.returns-in_ok-row_of-in-Some
returns-in_ok-row_of-in-Some c =
    let part = c.args.part.now in
    let row = c.in_ok-row_of-in-Some.field-0 in
    let there = c.in-Some.ensures in
    seen_at c.args.ts.0 c.args.key.0 (shown_rows part) c.in-Some.i there.0 row there.1 there.2 (row_same part.deaths 0 part.sealed.rows c.in-Some.i there.0 row there.1 c.in_ok-row_of-in-Some.ensures)

pub returns-in-None : goal.returns-in-None
returns-in-None c = none_seen c.args.ts.0 c.args.key.0 (shown_rows c.args.part.now) c.in-None.ensures
