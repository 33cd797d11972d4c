use Rattle.std.proofs.Common.{◌≡◌, ℕ, ◌+◌, List, Bool, [], ◌∷◌, ◌++◌, length, take, slice_get, get_or, Some, sym, ap, subst, ◌∙◌, refl, arith}
use Rattle.std.proofs.lemmas.Option.{slice_get_read, get_or_from_slice_get}
use Rattle.std.proofs.lemmas.List.{take_more}
use Rattle.std.proofs.Math.Seq.{take-length}
use Rattle.row_types.specs.Bits.{AreWordsOf}
use Rattle.log_model.specs.Places.{IsColumn, width_of}
use Rattle.seg_sealed.proofs.ColumnSteps.{all_at}
use Rattle.seg_sealed.proofs.WordLaws.{column-push, words_long}
use Rattle.seg_sealed.proofs.copies.pack.Goals as goal

pub vectors-preserved : goal.vectors-preserved
vectors-preserved c =
    let vectors : List (List Bool) = c.args.vectors.now in
    let i : ℕ = c.vectors.vector-index in
    let vector : List Bool = c.vector-item.result in
    let lt = c.vectors-test.true in
    let there : slice_get vectors i ≡ Some vector = slice_get_read vectors (length vectors) i vector refl lt c.vector-item.is in
    let dim : length vector ≡ c.args.dim = all_at (λ v. length v ≡ c.args.dim) vectors i vector there c.requires.fit in
    let words : AreWordsOf vector c.words.result.now = c.words.ensures in
    let next : take i vectors ++ vector ∷ [] ≡ take (i + 1) vectors = ap (λ v. take i vectors ++ v ∷ []) (sym (get_or_from_slice_get vectors i vector [] there)) ∙ sym (take_more vectors i [] lt) in
    subst (λ vs. IsColumn (width_of c.args.dim) vs c.extend_from_slice.new.self.items) next
    (subst (λ ws. IsColumn (width_of c.args.dim) (take i vectors ++ vector ∷ []) ws) (sym c.in_ok-extend_from_slice.ensures.items)
    (column-push (width_of c.args.dim) (take i vectors) c.vectors.words.items vector c.words.result.now c.vectors.invariant words (words_long c.args.dim vector c.words.result.now dim words)))

pub returns : goal.returns
returns c =
    let end : c.vectors.vector-index ≡ length c.args.vectors.now = let a = c.vectors-test.false in let b = c.vectors.auto.vector-index-end in omega arith in
    subst (λ vs. IsColumn (width_of c.args.dim) vs c.vectors.words.items) (ap (λ n. take n c.args.vectors.now) end ∙ take-length c.args.vectors.now) c.vectors.invariant
