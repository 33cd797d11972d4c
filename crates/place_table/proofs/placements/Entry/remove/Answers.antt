use Rattle.std.proofs.Common.{◌≡◌, List, ap, ◌∙◌, rules}
use Rattle.std.proofs.lemmas.Fn.{filter_same}
use Rattle.journal_model.specs.declared.notes.Home.{Home}
use Rattle.journal_model.specs.Layouts.{homes_after_release}
use Rattle.place_table.specs.Tables.{Placement, with_homes}
use Rattle.place_table.proofs.placements.Entry.remove.Goals as goal

pub returns : goal.returns
returns c =
    let kept : c.retain.new.self.items ≡ homes_after_release c.args.node c.self.inside.homes.items = filter_same _ _ _ (λ x b f' k. search rules) _ _ c.retain.ensures.filtered in
    let with_rows : List Home → Placement = λ homes. record { rows = c.self.inside.rows; homes = homes } in
    ap with_rows kept ∙ ap (with_homes (homes_after_release c.args.node)) c.self.view_is
