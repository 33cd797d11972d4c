use Rattle.std.proofs.Common.{◌≡◌, [], ◌++◌, ap, ◌∙◌}
use Rattle.seg_sealed.specs.Marks.{deaths_in}
use Rattle.seg_sealed.specs.Fields.{KeepsMarks}
use Rattle.seg_sealed.proofs.MarkLaws.{keeps_sorted, deaths_sorted, log_rises}
use Rattle.seg_sealed.proofs.marks.Marks.of_log.Goals as goal

pub invariant_of-result : goal.invariant_of-result
invariant_of-result c = rw (c.in_ok-frozen.ensures, c.into_vec.ensures, c.in_ok-latest.ensures.marks) (keeps_sorted c.args.log.marks (log_rises 0 c.args.log.marks c.requires.marks))

pub returns-clause-deaths : goal.returns-clause-deaths
returns-clause-deaths c =
    ap (λ xs. deaths_in (xs ++ c.in_ok-latest.latest.marks)) (c.in_ok-frozen.ensures ∙ c.into_vec.ensures) ∙ ap (λ xs. deaths_in (c.args.log.marks ++ xs)) c.in_ok-latest.ensures.marks
    ∙ deaths_sorted c.args.log.marks (log_rises 0 c.args.log.marks c.requires.marks)
