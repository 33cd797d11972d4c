use Rattle.std.proofs.Common.{◌≡◌, map, sym, ap, ◌∙◌}
use Rattle.seg_sealed.specs.Marks.{Marked, death_at, death_of}
use Rattle.seg_sealed.proofs.MarkLaws.{found_frozen, found_latest, apart_back}
use Rattle.seg_sealed.proofs.marks.Marks.dead_at.Goals as goal

pub returns-in-Some : goal.returns-in-Some
returns-in-Some c =
    sym (found_frozen c.self.inside.frozen c.self.inside.latest.marks c.args.row c.in-Some.ts.0 (sym c.in-Some.ensures)) ∙ ap (λ (m : Marked). death_at c.args.row m.deaths) c.self.view_is

pub find-requires-in-None : goal.find-requires-in-None
find-requires-in-None c = apart_back c.self.inside.frozen c.self.inside.latest.marks c.self.invariant.apart

pub returns-in-None : goal.returns-in-None
returns-in-None c =
    c.find-in-None.ensures ∙ sym (found_latest c.self.inside.frozen c.self.inside.latest.marks c.args.row (sym c.in-None.ensures)) ∙ ap (λ (m : Marked). death_at c.args.row m.deaths) c.self.view_is
