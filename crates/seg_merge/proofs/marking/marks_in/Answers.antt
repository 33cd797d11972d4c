use Rattle.std.proofs.Common.{◌≡◌, ◌≤◌, List, length, sym, subst, ◌∙◌}
use Rattle.binlog_format.specs.Fields.{InTurn}
use Rattle.binlog_format.specs.Deletes.{IsMarkFrom, after_mark}
use Rattle.seg_sealed.proofs.MarkLaws.{Mark}
use Rattle.seg_merge.specs.KeptRows.{marks_of_kept}
use Rattle.seg_merge.proofs.MarkRows.{marks_turn, marks_few}
use Rattle.seg_merge.proofs.marking.marks_in.Goals as goal

pub of_log-requires : goal.of_log-requires
of_log-requires c =
    let are : c.of.result ≡ marks_of_kept 0 c.args.kept.now = c.of.ensures ∙ c.in_ok-marks.ensures in
    record {
      segment = c.requires.number;
      count = subst (λ (l : List Mark). length l ≤ 65536) (sym are) (marks_few c.args.kept.now c.requires.few);
      marks = subst (InTurn IsMarkFrom after_mark 0) (sym are) (marks_turn c.args.kept.now c.requires.few);
    }
