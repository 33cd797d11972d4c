use Rattle.std.proofs.Common.{◌≡◌, ℕ, not, List, [], ◌∷◌, ◌++◌, ap, ◌∙◌, refl, rules}
use Rattle.std.specs.List.{filter}
use Rattle.std.proofs.lemmas.Fn.{filter_same}
use Rattle.journal_model.specs.declared.notes.Home.{Home}
use Rattle.journal_model.specs.declared.notes.Home.TheVariants.{Leader, Node}
use Rattle.journal_model.specs.Layouts.{is_home, homes_after_load}
use Rattle.place_table.specs.Tables.{Placement, with_homes}
use Rattle.place_table.proofs.placements.Entry.add.Goals as goal

without-leader : (homes : List Home) (node : ℕ) → filter (λ home. not (is_home Leader home)) (homes ++ Node node ∷ []) ≡ homes_after_load node homes
without-leader [] node = refl
without-leader (Leader ∷ homes) node = without-leader homes node
without-leader (Node other ∷ homes) node = ap (λ xs. Node other ∷ xs) (without-leader homes node)

pub returns-clause-ok : goal.returns-clause-ok
returns-clause-ok c =
    let kept : c.retain.new.self.items ≡ filter (λ home. not (is_home Leader home)) c.push.new.self.items = filter_same _ _ _ (λ x b f' k. search rules) _ _ c.retain.ensures.filtered in
    let with_rows : List Home → Placement = λ homes. record { rows = c.self.inside.rows; homes = homes } in
    ap with_rows (kept ∙ ap (filter (λ home. not (is_home Leader home))) c.in_ok-push.ensures.items ∙ without-leader c.self.inside.homes.items c.args.node)
    ∙ ap (with_homes (homes_after_load c.args.node)) c.self.view_is
