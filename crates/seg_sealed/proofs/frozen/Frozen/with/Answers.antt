use Rattle.std.proofs.Common.{◌≡◌, List, ◌++◌, sym, ap, subst, ◌∙◌, rules}
use Rattle.std.specs.List.Sorted.{IsPermutation, IsNonDecreasingBy}
use Rattle.std.proofs.lemmas.List.Sorted.{IsNonDecreasingBy-from_sort_by_key}
use Rattle.seg_sealed.specs.Marks.{death_of, deaths_in}
use Rattle.seg_sealed.specs.Fields.{AreApart}
use Rattle.seg_sealed.proofs.MarkLaws.{Mark, sorted_rise, sorted_same}
use Rattle.seg_sealed.proofs.frozen.Frozen.with.Goals as goal

pub returns-clause-same : goal.returns-clause-same
returns-clause-same c =
    let all : c.extend_from_slice-2.new.self.items ≡ c.args.self.now ++ c.args.others.now = search rules in
    let up : IsNonDecreasingBy (λ (mark : Mark). mark.0) c.sort_by_key.new.self.items = IsNonDecreasingBy-from_sort_by_key (λ (mark : Mark). mark.0) _ c.in_ok-sort_by_key.ensures.sorted (λ a r q k. search rules) in
    sorted_same c.extend_from_slice-2.new.self.items c.sort_by_key.new.self.items c.sort_by_key.ensures.permutation up (subst AreApart (sym all) c.requires) ∙ ap deaths_in all

pub returns-clause-rise : goal.returns-clause-rise
returns-clause-rise c =
    let all : c.extend_from_slice-2.new.self.items ≡ c.args.self.now ++ c.args.others.now = search rules in
    let up : IsNonDecreasingBy (λ (mark : Mark). mark.0) c.sort_by_key.new.self.items = IsNonDecreasingBy-from_sort_by_key (λ (mark : Mark). mark.0) _ c.in_ok-sort_by_key.ensures.sorted (λ a r q k. search rules) in
    sorted_rise c.extend_from_slice-2.new.self.items c.sort_by_key.new.self.items c.sort_by_key.ensures.permutation up (subst AreApart (sym all) c.requires)
