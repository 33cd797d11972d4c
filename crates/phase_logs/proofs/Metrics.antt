-- The hits of a scan have the form of its metric.
use Rattle.std.proofs.Common.{ℕ, zero, suc, Bool, List, [], ◌∷◌, map, sym, subst}
use Rattle.std.specs.List.{filter, AllByRecursion as Each}
use Rattle.std.specs.List.Sorted.{IsStrictlySortedBy}
use Rattle.std.specs.Ordering.{match_ordering}
use Rattle.std.specs.declared.cmp.Ordering.{Ordering}
use Rattle.std.specs.declared.cmp.Ordering.TheVariants.{Less, Equal, Greater}
use Rattle.std.specs.FinMap as fin
use Rattle.row_types.specs.declared.rows.Row.{Row}
use Rattle.row_types.specs.declared.hits.Hit.{Hit}
use Rattle.row_types.specs.declared.hits.Metric.{Metric}
use Rattle.row_types.specs.declared.hits.Metric.TheVariants as metrics
use Rattle.row_types.specs.Bits.{union_of, common_of}
use Rattle.row_types.specs.Hits.{hit_cmp, in_order, distance_of, fraction_of}
use Rattle.row_types.specs.Orders.{hits_total}
use Rattle.row_types.proofs.Rising as rising
use Rattle.log_model.specs.declared.logs.Entry.{Entry}
use Rattle.log_model.specs.declared.queries.Plan.{Plan}
use Rattle.log_model.specs.declared.queries.Query.{Query}
use Rattle.log_model.specs.Logs.{live}
use Rattle.log_model.specs.Scans.{hit_of, passes_filter, scan}
use Rattle.legal_output.specs.Lines.{IsOfMetric}

fraction_metric : (union common : ℕ) → IsOfMetric metrics.Jaccard (fraction_of union common)
fraction_metric zero common = tt
fraction_metric (suc union) common = tt

distance_metric : (metric : Metric) (xs ys : List Bool) → IsOfMetric metric (distance_of metric xs ys)
distance_metric metrics.Hamming xs ys = tt
distance_metric metrics.Jaccard xs ys = fraction_metric (union_of xs ys) (common_of xs ys)

each_map : {X Y : Type 0} (P : Y → Type 0) (f : X → Y) → ((x : X) → P (f x)) → (xs : List X) → Each P (map f xs)
each_map P f holds [] = tt
each_map P f holds (x ∷ xs) = (holds x, each_map P f holds xs)

each_ordering : (P : Hit → Type 0) (order : Ordering) (xs ys zs : List Hit) → Each P xs → Each P ys → Each P zs → Each P (match_ordering order xs ys zs)
each_ordering P Less xs ys zs a b c = a
each_ordering P Equal xs ys zs a b c = b
each_ordering P Greater xs ys zs a b c = c

each_placed : (P : Hit → Type 0) (hit : Hit) (hits : List Hit) → P hit → Each P hits → Each P (rising.placed hit_cmp hit hits)
each_placed P hit [] here all = (here, tt)
each_placed P hit (first ∷ hits) here all =
    each_ordering P (hit_cmp hit first) (hit ∷ first ∷ hits) (first ∷ hits) (first ∷ rising.placed hit_cmp hit hits)
    (here, all) all (all.0, each_placed P hit hits here all.1)

rises_none : IsStrictlySortedBy hit_cmp []
unfolding IsStrictlySortedBy
rises_none = tt

each_in_order : (P : Hit → Type 0) (hits : List Hit) → Each P hits → Each P (in_order hit_cmp hits)
each_in_order P [] all = subst (Each P) (sym (rising.in_order-of_rising hits_total [] rises_none)) tt
each_in_order P (hit ∷ hits) all = subst (Each P) (sym (rising.in_order-cons hits_total hit hits)) (each_placed P hit (in_order hit_cmp hits) all.0 (each_in_order P hits all.1))

pub scan_metric : (log : List Entry) (ts : ℕ) (plan : Plan) (query : Query) → Each (λ hit. IsOfMetric plan.metric hit.distance) (scan log ts plan query)
unfolding scan
scan_metric log ts plan query =
    let rows : List Row = filter (passes_filter query.filter) (fin.values (live log ts)) in
    rising.AllByRecursion-take (λ hit. IsOfMetric plan.metric hit.distance) query.k (in_order hit_cmp (map (hit_of plan query) rows))
    (each_in_order (λ hit. IsOfMetric plan.metric hit.distance) (map (hit_of plan query) rows)
    (each_map (λ hit. IsOfMetric plan.metric hit.distance) (hit_of plan query) (λ row. distance_metric plan.metric query.vector row.vector) rows))
