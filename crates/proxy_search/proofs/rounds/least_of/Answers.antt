use Rattle.std.proofs.Common.{◌≡◌, ℕ, length, min, refl, sym, ap, ◌∙◌}
use Rattle.std.proofs.lemmas.Option.{slice_get_read}
use Rattle.proxy_search.proofs.Finding.{after_next}
use Rattle.proxy_search.proofs.rounds.least_of.Goals as goal

pub views-preserved : goal.views-preserved
views-preserved c =
    let there = slice_get_read c.args.views.now (length c.args.views.now) c.views.view-index c.view-item.result refl c.views-test.true c.view-item.is in
    c.earlier-least.ensures ∙ ap (λ (n : ℕ). min n c.tick.result.0) c.views.invariant ∙ ap (min _) c.tick.ensures.tick ∙ sym (after_next c.args.ts.0 c.args.views.now c.views.view-index c.view-item.result there)
