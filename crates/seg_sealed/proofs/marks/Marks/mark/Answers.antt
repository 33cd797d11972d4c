use Rattle.std.proofs.Common.{◌≡◌, ◌++◌, None, sym, ap, ◌∙◌}
use Rattle.seg_sealed.specs.Marks.{Marked, death_at, deaths_in, with_death}
use Rattle.seg_sealed.specs.Fields.{KeepsMarks}
use Rattle.seg_sealed.proofs.MarkLaws.{push_keeps, push_deaths}
use Rattle.seg_sealed.proofs.marks.Marks.mark.Goals as goal

pub invariant_of-self : goal.invariant_of-self
invariant_of-self c =
    let none : death_at c.args.row (deaths_in (c.self.inside.frozen ++ c.self.inside.latest.marks)) ≡ None = ap (λ (m : Marked). death_at c.args.row m.deaths) c.self.view_is ∙ c.requires.unmarked in
    rw c.push.ensures.marks (push_keeps c.self.inside.frozen c.self.inside.latest.marks (c.args.row, c.args.ts) c.self.invariant none)

pub returns-clause-deaths : goal.returns-clause-deaths
returns-clause-deaths c =
    let none : death_at c.args.row (deaths_in (c.self.inside.frozen ++ c.self.inside.latest.marks)) ≡ None = ap (λ (m : Marked). death_at c.args.row m.deaths) c.self.view_is ∙ c.requires.unmarked in
    ap (λ xs. deaths_in (c.self.inside.frozen ++ xs)) c.push.ensures.marks
    ∙ push_deaths c.self.inside.frozen c.self.inside.latest.marks c.args.row c.args.ts.0 none ∙ ap (λ (m : Marked). with_death c.args.row c.args.ts.0 m.deaths) c.self.view_is
