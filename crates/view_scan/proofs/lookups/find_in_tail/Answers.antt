use Rattle.std.proofs.Common.{Some, ap, sym, ◌∙◌}
use Rattle.seg_sealed.specs.Parts.{shown_from}
use Rattle.view_scan.proofs.Found.{within, row_same, seen_at, none_seen}
use Rattle.view_scan.proofs.lookups.find_in_tail.Goals as goal

pub row_in-requires : goal.row_in-requires
row_in-requires c = within c.args.marks.now.deaths 0 c.args.tail.now.rows c.in-Some.i c.in-Some.ensures.0 c.in-Some.ensures.1

pub returns-in_ok-copy-in-Some : goal.returns-in_ok-copy-in-Some
returns-in_ok-copy-in-Some c =
    let rows = c.args.tail.now.rows in
    let row = c.in_ok-copy-in-Some.field-0 in
    let there = c.in-Some.ensures in
    seen_at c.args.ts.0 c.args.key.0 (shown_from c.args.marks.now.deaths 0 rows) c.in-Some.i there.0 row there.1 there.2
    (row_same c.args.marks.now.deaths 0 rows c.in-Some.i there.0 row there.1 (c.row_in.ensures ∙ ap Some (sym c.in_ok-copy-in-Some.ensures)))

pub returns-in-None : goal.returns-in-None
returns-in-None c = none_seen c.args.ts.0 c.args.key.0 (shown_from c.args.marks.now.deaths 0 c.args.tail.now.rows) c.in-None.ensures
