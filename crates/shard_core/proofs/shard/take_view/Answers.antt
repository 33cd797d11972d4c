use Rattle.std.proofs.Common.{◌≡◌, map, sym, ap, subst, ◌∙◌}
use Rattle.std.specs.Arc.{arc_value}
use Rattle.std.specs.List.{AllByRecursion}
use Rattle.coarse_lists.specs.declared.collections.Collection.{Collection}
use Rattle.journal_model.specs.Views.{IsExact}
use Rattle.journal_model.proofs.RunLaws.{look_exact}
use Rattle.seg_sealed.specs.Parts.{shown_from, shown_rows}
use Rattle.channel_pieces.specs.Pieces.{places_of}
use Rattle.channel_view.specs.Views.{AreRowsOf}
use Rattle.shard_core.specs.Shelves.{Shelves, shelves_of, shelves_in_pieces}
use Rattle.shard_core.specs.Kept.{LaggingPieces}
use Rattle.shard_core.specs.Shards.{IsViewOf, shard_of}
use Rattle.shard_core.proofs.RowLaws.{tail_rows, part_rows}
use Rattle.shard_core.proofs.ViewLaws.{shows_journal, view_rows}
use Rattle.shard_core.proofs.shard.take_view.Goals as goal

pub new-requires-clause-tail_rows : goal.new-requires-clause-tail_rows
new-requires-clause-tail_rows c =
    let j = c.args.journal.now in
    let shows : shelves_in_pieces c.args.lagging.now.pieces ≡ shelves_of j.channel j.state.notes = shows_journal (arc_value c.args.collection.now) j c.args.lagging.now c.requires.kept c.requires.pending c.requires.deaths in
    subst (λ (k : Collection). AreRowsOf k c.in_ok-tail.tail.rows) (sym c.in_ok-collection.ensures)
    (tail_rows (arc_value c.args.collection.now) j.state.notes c.requires.kept.puts j.channel c.in_ok-tail.marks.deaths c.in_ok-tail.tail.rows c.len.ensures.sound.rows.correct
    (c.in_ok-tail.ensures.rows ∙ ap (λ (z : Shelves). z.tail) shows))

pub new-requires-clause-part_rows : goal.new-requires-clause-part_rows
new-requires-clause-part_rows c =
    let j = c.args.journal.now in
    let shows : shelves_in_pieces c.args.lagging.now.pieces ≡ shelves_of j.channel j.state.notes = shows_journal (arc_value c.args.collection.now) j c.args.lagging.now c.requires.kept c.requires.pending c.requires.deaths in
    subst (λ (k : Collection). AllByRecursion (λ part. AreRowsOf k part.sealed.rows) (arc_value c.in_ok-parts.parts).items) (sym c.in_ok-collection.ensures)
    (part_rows (arc_value c.args.collection.now) j.state.notes c.requires.kept.puts j.channel (arc_value c.in_ok-parts.parts).items c.len.ensures.sound.rows.correct
    (c.in_ok-parts.ensures.rows ∙ ap (λ (l : LaggingPieces). places_of l.pieces.segments) c.in_ok-tail.ensures.same ∙ ap (λ (z : Shelves). places_of z.segments) shows))

pub returns-clause-view : goal.returns-clause-view
returns-clause-view c =
    let j = c.args.journal.now in
    let shows : shelves_in_pieces c.args.lagging.now.pieces ≡ shelves_of j.channel j.state.notes = shows_journal (arc_value c.args.collection.now) j c.args.lagging.now c.requires.kept c.requires.pending c.requires.deaths in
    subst (IsViewOf (shard_of (arc_value c.args.collection.now) j 0)) (sym c.new.ensures)
    (record {
      collection = c.in_ok-collection.ensures;
      channel = c.channel.ensures.number;
      rows = view_rows j.channel j.state.floor c.floor.result.0 c.tick_now.result.0 j.state.notes c.args.lagging.now.pieces (shown_from c.in_ok-tail.marks.deaths 0 c.in_ok-tail.tail.rows) (map shown_rows (arc_value c.in_ok-parts.parts).items) shows
          c.in_ok-tail.ensures.rows (c.in_ok-parts.ensures.rows ∙ ap (λ (l : LaggingPieces). places_of l.pieces.segments) c.in_ok-tail.ensures.same) c.floor.ensures c.tick_now.ensures;
    })

pub returns-clause-exact : goal.returns-clause-exact
returns-clause-exact c = subst (IsExact c.args.journal.now.state.notes) (sym (returns-clause-view c).rows) (look_exact c.args.journal.now.channel c.args.journal.now.state c.len.ensures.sound)
