use Rattle.std.proofs.Common.{◌≡◌, ◌+◌, ◌++◌, ◌∷◌, rules, arith, ap, subst, sym, ◌∙◌, drop, length, vec_len, length-append, append_assoc}
use Rattle.std.proofs.lemmas.List.{take_at, drop_at}
use Rattle.std.specs.List.{AllByRecursion}
use Rattle.row_types.specs.Bits.{AreWordsOf}
use Rattle.row_types.specs.declared.rows.Row.{Row}
use Rattle.log_model.specs.Places.{Placed, width_of}
use Rattle.growing_segment.specs.Tails.{HasDimension}
use Rattle.growing_segment.proofs.Columns.{column-more}
use Rattle.growing_segment.proofs.blocks.move_rows.Goals as goal

pub unreachable-requires : goal.unreachable-requires
unreachable-requires g c =
    let all = ap length c.rows.invariant.moved in
    let none = c.in_default.ensures.cases in
    absurd (omega (arith, length-append c.rows.rows.items c.rows.latest.items))

pub rows-preserved : goal.rows-preserved
rows-preserved g c =
    let row_is : c.get.result.now ≡ c.in-Some.row.row = c.get.ensures ∙ ap (λ (x : Placed). x.row) c.row.view_is in
    let popped : c.rows.latest.items ≡ c.in-Some.row ∷ c.pop_front.new.self.items = c.in-Some.ensures.items in
    let fit = subst (AllByRecursion (HasDimension g.dim)) popped c.rows.invariant.fit in
    let wide : width_of (length c.get.result.now.vector) ≡ width_of g.dim = ap (λ (r : Row). width_of (length r.vector)) row_is ∙ ap width_of fit.0 in
    let long = c.keep_words.ensures.len in
    let are = subst (λ (r : Row). AreWordsOf r.vector (drop (vec_len c.rows.words) c.keep_words.new.words.items)) row_is c.keep_words.ensures.words in
    let counted = c.push_reserved.ensures.len in
    let room = c.push_reserved.ensures.capacity in
    let more = c.keep_words.ensures.capacity in
    record {
      moved = ap (λ xs. xs ++ c.pop_front.new.self.items) c.push_reserved.ensures.items ∙ append_assoc c.rows.rows.items (c.in-Some.row ∷ Rattle.std.proofs.Common.[]) c.pop_front.new.self.items ∙ ap (λ xs. c.rows.rows.items ++ xs) (sym popped) ∙ c.rows.invariant.moved;
      many = omega arith;
      fit = fit.1;
      column = rw c.push_reserved.ensures.items (column-more (width_of g.dim) _ c.rows.rows.items c.in-Some.row _ _ c.keep_words.ensures.front are (ap width_of fit.0) c.rows.invariant.column);
      words = omega arith;
      capacity = c.in-Some.ensures.capacity ∙ c.rows.invariant.capacity;
      row_room = omega arith;
      word_room = omega arith;
    }

pub returns-clause-rows : goal.returns-clause-rows
returns-clause-rows g c =
    let same : length c.rows.rows.items ≡ vec_len c.rows.rows = search rules in
    let long : length c.rows.rows.items ≡ 256 = omega arith in
    rw (← c.rows.invariant.moved) (sym (take_at c.rows.rows.items c.rows.latest.items 256 long))

pub returns-clause-rest : goal.returns-clause-rest
returns-clause-rest g c =
    let same : length c.rows.rows.items ≡ vec_len c.rows.rows = search rules in
    let long : length c.rows.rows.items ≡ 256 = omega arith in
    rw (← c.rows.invariant.moved) (sym (drop_at c.rows.rows.items c.rows.latest.items 256 long))
