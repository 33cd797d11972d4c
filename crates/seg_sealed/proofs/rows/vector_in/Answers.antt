use Rattle.std.proofs.Common.{◌≡◌, ◌≤◌, ◌/◌, ◌*◌, ◌++◌, ℕ, length, take, get_or, subst, sym, ap, ◌∙◌, arith, rules, refl, Ok, Err, IfOk, Result}
use Rattle.std.specs.Int.{w64, to_le_bytes}
use Rattle.std.proofs.lemmas.List.{length-take}
use Rattle.std.proofs.Math.Seq.{take-length}
use Rattle.row_types.specs.Bits.{bits_in}
use Rattle.row_types.proofs.BitLists.{bytes_in}
use Rattle.seg_sealed.proofs.WordLaws.{bytes-more, vector-bytes}
use Rattle.seg_sealed.proofs.rows.vector_in.Goals as goal

pub words-preserved : goal.words-preserved
words-preserved c =
    c.in_ok-extend_from_slice.ensures.items ∙ ap (λ bs. c.words.bytes.items ++ bs) c.to_le_bytes.ensures
    ∙ bytes-more c.args.words.now c.words.word-index _ c.words.bytes.items c.words-test.true refl c.words.invariant

pub from_bytes-requires : goal.from_bytes-requires
from_bytes-requires c =
    let a : length c.as_slice.result.now ≡ length (take (c.args.dim / 8) c.words.bytes.items) = ap length (c.as_slice.ensures.value ∙ c.truncate.ensures.items) in
    let b = length-take (c.args.dim / 8) c.words.bytes.items in
    let d = c.requires.dim.most in
    omega arith

pub returns : goal.returns
returns c =
    let end : c.words.word-index ≡ length c.args.words.now = let a = c.words-test.false in let b = c.words.auto.word-index-end in omega arith in
    let bytes : c.as_slice.result.now ≡ take (c.args.dim / 8) (bytes_in c.args.words.now) =
    c.as_slice.ensures.value ∙ c.truncate.ensures.items ∙ ap (take (c.args.dim / 8)) (c.words.invariant ∙ ap bytes_in (ap (λ n. take n c.args.words.now) end ∙ take-length c.args.words.now)) in
    subst (λ bits. IfOk c.from_bytes.result (λ vector. vector ≡ bits)) (ap (bits_in 8) bytes ∙ vector-bytes c.args.dim c.args.words.now c.requires.dim.bytes) c.from_bytes.ensures
