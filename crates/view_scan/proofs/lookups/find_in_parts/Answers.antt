use Rattle.std.proofs.Common.{None, length, map, take, refl, sym, subst}
use Rattle.std.proofs.lemmas.Option.{slice_get_read}
use Rattle.journal_model.specs.Lists.{joined}
use Rattle.seg_sealed.specs.Parts.{shown_rows}
use Rattle.view_scan.specs.Lookups.{IsRowSeen}
use Rattle.view_scan.proofs.Found.{seen_part, joined-next, seen_behind}
use Rattle.view_scan.proofs.lookups.find_in_parts.Goals as goal

pub returns-in-Some : goal.returns-in-Some
returns-in-Some c =
    let there = slice_get_read c.args.parts.now (length c.args.parts.now) c.parts.part-index c.part-item.result refl c.parts-test.true c.part-item.is in
    seen_part c.args.ts.0 c.args.key.0 c.args.parts.now c.parts.part-index c.part-item.result c.in-Some.row there
    (subst (IsRowSeen c.args.ts.0 c.args.key.0 (shown_rows c.part-item.result)) c.in-Some.is c.in_ok-row.ensures)

pub parts-preserved : goal.parts-preserved
parts-preserved c =
    let ts = c.args.ts.0 in
    let key = c.args.key.0 in
    let before = joined (map shown_rows (take c.parts.part-index c.args.parts.now)) in
    let rows = shown_rows c.part-item.result in
    let there = slice_get_read c.args.parts.now (length c.args.parts.now) c.parts.part-index c.part-item.result refl c.parts-test.true c.part-item.is in
    let none = subst (IsRowSeen ts key rows) c.in_default.is c.in_ok-row.ensures in
    record { none = subst (λ l. IsRowSeen ts key l None) (sym (joined-next c.args.parts.now c.parts.part-index c.part-item.result there)) (seen_behind ts key before rows None c.parts.invariant.none none) }
