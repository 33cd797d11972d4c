use Rattle.std.proofs.Common.{◌≡◌, ℕ, List, length, map, sym, ap, ap₂, subst, ◌∙◌}
use Rattle.log_model.specs.Places.{Placed}
use Rattle.seg_sealed.specs.Marks.{Marked}
use Rattle.seg_sealed.specs.Parts.{AreDeathsOf, shown_from}
use Rattle.channel_pieces.specs.Pieces.{placed_of}
use Rattle.channel_pieces.specs.Fields.{MarkedTail}
use Rattle.channel_pieces.proofs.MarkLaws.{length-shown, placed_back}
use Rattle.channel_pieces.proofs.tails.Tail.clear.Goals as goal

pub returns-clause-marks : goal.returns-clause-marks
returns-clause-marks c =
    let e : map placed_of c.args.self.now.rows ≡ c.self.inside.rows.rows = ap (λ (t : MarkedTail). map placed_of t.rows) (sym c.self.view_is) ∙ placed_back c.self.inside.marks.deaths 0 c.self.inside.rows.rows in
    ap₂ (λ (m : Marked) (rows : List Placed). shown_from m.deaths 0 rows) c.replace.ensures.value e ∙ ap (λ (t : MarkedTail). t.rows) c.self.view_is

pub returns-clause-within : goal.returns-clause-within
returns-clause-within c =
    let e : length c.self.inside.rows.rows ≡ length c.args.self.now.rows = sym (length-shown c.self.inside.marks.deaths 0 c.self.inside.rows.rows) ∙ ap (λ (t : MarkedTail). length t.rows) c.self.view_is in
    subst (λ (n : ℕ). AreDeathsOf n c.replace.result.deaths) e (subst (λ (m : Marked). AreDeathsOf (length c.self.inside.rows.rows) m.deaths) (sym c.replace.ensures.value) c.self.invariant.marks_fit.now)
