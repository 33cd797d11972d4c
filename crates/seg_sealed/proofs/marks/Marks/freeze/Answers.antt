use Rattle.std.proofs.Common.{◌≡◌, [], ◌++◌, map, sym, ap, subst, ◌∙◌, rules}
use Rattle.seg_sealed.specs.Marks.{Marked, death_of, deaths_in}
use Rattle.seg_sealed.specs.Fields.{KeepsMarks}
use Rattle.seg_sealed.proofs.MarkLaws.{keeps_sorted, deaths_sorted}
use Rattle.seg_sealed.proofs.marks.Marks.freeze.Goals as goal

pub invariant_of-self : goal.invariant_of-self
invariant_of-self c = rw (c.in_ok-self-inside.ensures, c.clear.ensures.marks) (keeps_sorted c.in_ok-marks.marks.items c.in_ok-marks.ensures.rise)

pub returns-in_ok-self-inside-clause-deaths : goal.returns-in_ok-self-inside-clause-deaths
returns-in_ok-self-inside-clause-deaths c =
    ap (λ xs. deaths_in (xs ++ c.clear.new.self.marks)) c.in_ok-self-inside.ensures ∙ ap (λ xs. deaths_in (c.in_ok-marks.marks.items ++ xs)) c.clear.ensures.marks
    ∙ deaths_sorted c.in_ok-marks.marks.items c.in_ok-marks.ensures.rise ∙ c.in_ok-marks.ensures.same
    ∙ ap (λ xs. deaths_in (c.self.inside.frozen ++ xs)) c.as_slice.ensures ∙ ap (λ (m : Marked). m.deaths) c.self.view_is
