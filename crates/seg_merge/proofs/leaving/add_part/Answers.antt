use Rattle.std.proofs.Common.{◌≡◌, ℕ, ◌++◌, List, map, ap, subst, ◌∙◌}
use Rattle.std.specs.Result.{OnOk}
use Rattle.binlog_format.specs.declared.objects.DeleteLog.{DeleteLog}
use Rattle.seg_sealed.specs.Segments.{SealedSegment, position_of}
use Rattle.seg_sealed.specs.Marks.{death_of}
use Rattle.seg_merge.specs.KeptRows.{kept_from}
use Rattle.seg_merge.proofs.KeptLaws.{marks_again}
use Rattle.seg_merge.proofs.leaving.add_part.Goals as goal

pub returns-clause-rows : goal.returns-clause-rows
returns-clause-rows c =
    let deaths : map death_of c.as_slice.result.now ≡ c.args.part.now.deaths =
    ap (map death_of) (c.as_slice.ensures ∙ ap (λ (log : DeleteLog). log.marks) c.in_ok-log.ensures.log) ∙ marks_again c.marks.result.now.deaths ∙ c.marks.ensures.deaths in
    let positions : c.positions.result.now ≡ map position_of c.args.part.now.sealed.rows = c.positions.ensures ∙ ap (λ (s : SealedSegment). map position_of s.rows) c.sealed-sealed.ensures.sealed in
    subst (λ (ps : List ℕ). OnOk c.add_rows.result (c.add_rows.new.kept.items ≡ c.args.kept.now.items ++ kept_from c.args.place c.args.floor.0 c.args.part.now.deaths 0 ps)) positions
    (subst (λ (ds : List (ℕ × ℕ)). OnOk c.add_rows.result (c.add_rows.new.kept.items ≡ c.args.kept.now.items ++ kept_from c.args.place c.args.floor.0 ds 0 c.positions.result.now)) deaths c.add_rows.ensures)
