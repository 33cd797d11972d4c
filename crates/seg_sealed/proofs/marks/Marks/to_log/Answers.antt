use Rattle.std.proofs.Common.{◌≡◌, ℕ, List, map, ◌++◌, sym, ap, ◌∙◌}
use Rattle.binlog_format.specs.declared.objects.DeleteLog.{DeleteLog}
use Rattle.seg_sealed.specs.Marks.{Marked, death_of, deaths_in, mark_of, delete_log_of}
use Rattle.seg_sealed.proofs.MarkLaws.{Mark, marks_back}
use Rattle.seg_sealed.proofs.marks.Marks.to_log.Goals as goal

pub returns-clause-log : goal.returns-clause-log
returns-clause-log c =
    let log : List Mark → DeleteLog = λ marks. record { segment = c.args.segment; applied = c.self.inside.applied; marks = marks } in
    ap log (c.of.ensures ∙ sym (marks_back c.in_ok-marks.marks.items) ∙ ap (map mark_of) (c.in_ok-marks.ensures.same ∙ ap (λ xs. deaths_in (c.self.inside.frozen ++ xs)) c.as_slice.ensures))
    ∙ ap (λ (m : Marked). delete_log_of c.args.segment m.applied m.deaths) c.self.view_is
