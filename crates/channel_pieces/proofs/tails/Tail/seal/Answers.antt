use Rattle.std.proofs.Common.{◌≡◌, List, map, sym, ap, subst, ◌∙◌, IfOk}
use Rattle.log_model.specs.Places.{Placed}
use Rattle.seg_sealed.specs.Segments.{IsSealed, sealed_rows}
use Rattle.channel_pieces.specs.Pieces.{placed_of}
use Rattle.channel_pieces.specs.Fields.{MarkedTail}
use Rattle.channel_pieces.proofs.MarkLaws.{placed_back}
use Rattle.channel_pieces.proofs.tails.Tail.seal.Goals as goal

pub build-requires : goal.build-requires
build-requires c =
    let e : map placed_of c.args.self.now.rows ≡ c.self.inside.rows.rows = ap (λ (t : MarkedTail). map placed_of t.rows) (sym c.self.view_is) ∙ placed_back c.self.inside.marks.deaths 0 c.self.inside.rows.rows in
    subst (λ (rows : List Placed). IsSealed (sealed_rows c.args.number rows)) e c.requires

pub returns : goal.returns
returns c =
    let e : map placed_of c.args.self.now.rows ≡ c.self.inside.rows.rows = ap (λ (t : MarkedTail). map placed_of t.rows) (sym c.self.view_is) ∙ placed_back c.self.inside.marks.deaths 0 c.self.inside.rows.rows in
    subst (λ (rows : List Placed). IfOk c.build.result (λ sealed. sealed ≡ sealed_rows c.args.number rows)) (sym e) c.build.ensures
