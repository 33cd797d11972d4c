use Rattle.std.proofs.Common.{◌≡◌, ℕ, List, [], ◌≤◌, ◌*◌, arith, ap, sym, subst, ◌∙◌, vec_capacity, map}
use Rattle.std.specs.List.{AllByRecursion}
use Rattle.log_model.specs.Places.{Placed, vector_of, IsColumn, width_of}
use Rattle.growing_segment.specs.Tails.{Rows, HasDimension}
use Rattle.growing_segment.proofs.Columns.{first_dim_is, all_take}
use Rattle.growing_segment.proofs.blocks.Block.fill.Goals as goal

pub move_rows-requires : goal.move_rows-requires
move_rows-requires c =
    let dims : c.self.inside.dim ≡ c.args.self.now.dim = ap (λ (r : Rows). r.dim) c.self.view_is in
    let none : c.self.inside.rows.items ≡ [] = ap (λ (r : Rows). r.rows) c.self.view_is ∙ c.requires.empty in
    let fit = subst (λ (d : ℕ). AllByRecursion (HasDimension d) c.args.latest.now.items) (sym dims) c.requires.fit in
    let is = first_dim_is c.self.inside.dim c.args.latest.now.items (omega arith) fit in
    let empty = subst (λ (xs : List Placed). IsColumn (width_of c.self.inside.dim) (map vector_of xs) c.self.inside.words.items) none c.self.invariant.column in (
      c.requires.enough,
      (
        subst (λ (d : ℕ). AllByRecursion (HasDimension d) c.args.latest.now.items) (sym is) fit,
        (
          none,
          (
            empty,
            (
              c.self.invariant.holds_rows,
              subst (λ (d : ℕ). 256 * width_of d ≤ vec_capacity c.self.inside.words) (sym is) c.self.invariant.holds_words,
            ),
          ),
        ),
      ),
    )

pub invariant_of-self : goal.invariant_of-self
invariant_of-self c =
    let dims : c.self.inside.dim ≡ c.args.self.now.dim = ap (λ (r : Rows). r.dim) c.self.view_is in
    let fit = subst (λ (d : ℕ). AllByRecursion (HasDimension d) c.args.latest.now.items) (sym dims) c.requires.fit in
    let is = first_dim_is c.self.inside.dim c.args.latest.now.items (omega arith) fit in
    record {
      dim_fits = c.self.invariant.dim_fits;
      fit = rw c.move_rows.ensures.rows (all_take _ 256 _ fit);
      column = subst (λ (d : ℕ). IsColumn (width_of d) (map vector_of c.move_rows.new.rows.items) c.move_rows.new.words.items) is c.move_rows.ensures.column;
      holds_rows = rw c.move_rows.ensures.row_room c.self.invariant.holds_rows;
      holds_words = let least = c.self.invariant.holds_words in let more = c.move_rows.ensures.word_room in omega arith;
    }
