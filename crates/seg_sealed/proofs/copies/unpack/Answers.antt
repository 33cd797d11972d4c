use Rattle.std.proofs.Common.{◌≡◌, ◌-◌, ◌+◌, ◌∷◌, ◌++◌, [], ℕ, suc, List, Bool, take, drop, subst, sym, ap, ◌∙◌, arith, rules, refl}
use Rattle.row_types.specs.Bits.{bits_in}
use Rattle.log_model.specs.Places.{width_of}
use Rattle.seg_sealed.proofs.WordLaws.{IsUnpacked, unpacked_more, unpacked_fits}
use Rattle.seg_sealed.proofs.copies.unpack.Goals as goal

pub rows-preserved : goal.rows-preserved
rows-preserved c =
    let left : ℕ = c.args.count - (c.rows.counter + 1) in
    let lt = c.rows-test.true in
    let is : IsUnpacked c.args.dim c.args.count c.args.words.now c.rows.vectors.items (suc left) c.rows.rest.now =
    subst (λ n. IsUnpacked c.args.dim c.args.count c.args.words.now c.rows.vectors.items n c.rows.rest.now) (let e : c.args.count - c.rows.counter ≡ suc left = omega arith in e) c.rows.invariant in
    let mid : c.div_ceil-width.result ≡ width_of c.args.dim = search rules in
    let here : c.split_at.result.0.now ≡ take (width_of c.args.dim) c.rows.rest.now = c.split_at.ensures.front ∙ ap (λ n. take n c.rows.rest.now) mid in
    let behind : c.split_at.result.1.now ≡ drop (width_of c.args.dim) c.rows.rest.now = c.split_at.ensures.back ∙ ap (λ n. drop n c.rows.rest.now) mid in
    let vector : c.in_ok-vector.vector ≡ take c.args.dim (bits_in 64 (take (width_of c.args.dim) c.rows.rest.now)) = c.in_ok-vector.ensures ∙ ap (λ ws. take c.args.dim (bits_in 64 ws)) here in
    rw (c.in_ok-push.ensures.items, behind) (unpacked_more c.args.dim c.args.count c.args.words.now c.rows.vectors.items left c.rows.rest.now c.in_ok-vector.vector is vector)
