use Rattle.std.proofs.Common.{◌≡◌, length, take, sym, ap, subst, ◌∙◌}
use Rattle.std.specs.List.{AllByRecursion}
use Rattle.std.specs.Ordering.{eq_by_cmp}
use Rattle.std.proofs.lemmas.List.Filters.{dedup_is}
use Rattle.row_types.specs.Hits.{hit_cmp, least}
use Rattle.row_types.proofs.Least.{least-from_dedup}
use Rattle.log_model.specs.Scans.{passes_filter, hits_found, scan}
use Rattle.log_model.proofs.Dimensions.{live-dimension}
use Rattle.log_model.proofs.slow.scan_at.Goals as goal

pub measure-requires : goal.measure-requires
measure-requires c = subst (AllByRecursion (λ row. length row.vector ≡ length c.args.query.now.vector)) (sym (c.as_slice.ensures.value ∙ c.in_ok-rows.ensures))
    (live-dimension _ c.args.log.now c.args.ts.0 c.requires)

pub returns : goal.returns
unfolding scan
returns c =
    c.truncate.ensures.items
    ∙ ap (take c.args.query.now.k) (dedup_is (eq_by_cmp hit_cmp) c.sort.new.self.items c.dedup.new.self.items c.dedup.ensures.filtered)
    ∙ least-from_dedup c.args.query.now.k c.in_ok-hits.hits.items c.sort.new.self.items c.sort.ensures.permutation c.in_ok-sort.ensures.sorted
    ∙ ap (least c.args.query.now.k) (c.in_ok-hits.ensures ∙ ap (hits_found (passes_filter c.args.query.now.filter) c.args.plan.now c.args.query.now) (c.as_slice.ensures.value ∙ c.in_ok-rows.ensures))
