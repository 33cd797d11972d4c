use Rattle.std.proofs.Common.{◌≡◌, sym, ap, subst, ◌∙◌}
use Rattle.place_table.specs.Tables.{Table, IsChosen}
use Rattle.channel_pieces.specs.Pieces.{MarkedLayout, table_of}
use Rattle.channel_pieces.proofs.HomeLaws.{table_is}
use Rattle.channel_pieces.proofs.CountLaws.{least_is}
use Rattle.channel_pieces.proofs.pieces.Pieces.choose_node.Goals as goal

pub returns : goal.returns
returns c =
    let e : table_of c.args.self.now ≡ c.self.inside.places = ap table_of (sym c.self.view_is) ∙ table_is c.self.inside.kinds c.self.inside.tail c.self.inside.segments.items c.self.inside.places c.self.invariant.kept in
    record {
      least = least_is c.args.self.now c.self.inside.places.segments c.self.inside.segments.items c.choose_node.result (ap (λ (l : MarkedLayout). l.segments) (sym c.self.view_is)) c.self.invariant.kept.rise
          (subst (λ (t : Table). IsChosen t c.choose_node.result) (sym e) c.choose_node.ensures);
    }
