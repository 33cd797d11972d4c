use Rattle.std.proofs.Common.{◌≡◌, List, refl, ap, subst, ◌∙◌}
use Rattle.channel_view.specs.Views.{ChannelView}
use Rattle.proxy_search.specs.Rounds.{AreHitsOf, least_in}
use Rattle.proxy_search.proofs.searches.answer_views.Goals as goal

pub returns : goal.returns
returns c =
    let same : c.as_slice-shown.result.now ≡ c.args.views = c.as_slice-shown.ensures in
    (c.least_tick-ts.result, c.in_ok-hits.hits, refl, c.least_tick-ts.ensures ∙ ap least_in same, subst (λ (views : List ChannelView). AreHitsOf c.args.front.now.collection c.args.query.now c.least_tick-ts.result.0 views c.in_ok-hits.hits) same c.in_ok-hits.ensures)
