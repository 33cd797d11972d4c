use Rattle.std.proofs.Common.{map, subst}
use Rattle.journal_model.specs.Lists.{joined}
use Rattle.seg_sealed.specs.Parts.{shown_from, shown_rows}
use Rattle.view_scan.specs.Lookups.{IsRowSeen}
use Rattle.view_scan.proofs.Found.{seen_front, seen_behind}
use Rattle.view_scan.proofs.lookups.find_shown.Goals as goal

pub returns-in-Some : goal.returns-in-Some
returns-in-Some c =
    let view = c.args.view.now in
    let tail = shown_from view.deaths 0 view.tail.rows in
    let seen = subst (IsRowSeen c.args.ts.0 c.args.key.0 tail) c.in-Some.is c.in_ok-row.ensures in
    seen_front c.args.ts.0 c.args.key.0 tail (joined (map shown_rows view.parts)) c.in-Some.row seen

pub returns : goal.returns
returns c =
    let view = c.args.view.now in
    let tail = shown_from view.deaths 0 view.tail.rows in
    let none = subst (IsRowSeen c.args.ts.0 c.args.key.0 tail) c.in_default.is c.in_ok-row.ensures in
    seen_behind c.args.ts.0 c.args.key.0 tail (joined (map shown_rows view.parts)) c.in_ok-found.found none c.in_ok-found.ensures
