use Rattle.std.proofs.Common.{◌≡◌, ℕ, ◌+◌, ◌++◌, List, map, get_or, Option, refl, sym, ap, subst}
use Rattle.hybrid_time.specs.declared.times.Timestamp.{Timestamp}
use Rattle.seg_sealed.specs.Marks.{death_of}
use Rattle.seg_sealed.proofs.MarkLaws.{Mark}
use Rattle.seg_merge.specs.declared.kept.Kept.{Kept}
use Rattle.seg_merge.specs.KeptRows.{kept_from, first_mark}
use Rattle.seg_merge.proofs.KeptLaws.{AreLeft, left_next, rows_next}
use Rattle.seg_merge.proofs.leaving.add_rows.Goals as goal

pub rows-preserved : goal.rows-preserved
rows-preserved c =
    let i : ℕ = c.rows.i in
    let marks : List Mark = c.args.marks.now in
    let rest : List Mark = c.rows.rest.now in
    let positions : List ℕ = c.args.positions.now in
    let old : List Kept = c.args.kept.now.items ++ kept_from c.args.place c.args.floor.0 (map death_of marks) 0 positions in
    let k : Option Timestamp → Kept = λ (o : Option Timestamp). record { position = get_or positions i 0; part = c.args.place; row = i; death = o } in
    record {
      same = rows_next c.args.place c.args.floor.0 i marks rest positions old c.rows.kept.items c.add_row.new.kept.items (get_or positions i 0) (k c.first_death-death.result) c.rows.invariant.left c.rows-test.true refl (ap k c.first_death-death.ensures) c.in_ok-add_row.ensures c.rows.invariant.same;
      left = subst (λ (r : List Mark). AreLeft marks r (i + 1)) (sym c.behind-rest.ensures) (left_next marks rest i c.rows.invariant.left);
    }
