use Rattle.std.proofs.Common.{◌≡◌, [], ◌++◌, ap, ◌∙◌}
use Rattle.seg_sealed.specs.Marks.{deaths_in}
use Rattle.seg_sealed.specs.Fields.{KeepsMarks}
use Rattle.seg_sealed.proofs.MarkLaws.{keeps_sorted, deaths_sorted}
use Rattle.seg_sealed.proofs.marks.Marks.new.Goals as goal

pub invariant_of-result : goal.invariant_of-result
invariant_of-result c = rw (c.in_ok-frozen.ensures, c.new.ensures.items, c.in_ok-latest.ensures.marks) (keeps_sorted [] tt)

pub returns-clause-deaths : goal.returns-clause-deaths
returns-clause-deaths c =
    ap (λ xs. deaths_in (xs ++ c.in_ok-latest.latest.marks)) (c.in_ok-frozen.ensures ∙ c.new.ensures.items) ∙ ap (λ xs. deaths_in ([] ++ xs)) c.in_ok-latest.ensures.marks ∙ deaths_sorted [] tt
