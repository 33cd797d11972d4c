use Rattle.std.proofs.Common.{◌≡◌, ℕ, ◌+◌, ◌/◌, length, take, ◌++◌, get_or, ◌∙◌, ap, rules}
use Rattle.std.specs.Int.{w64, to_le_bytes}
use Rattle.row_types.specs.Bits.{bits_in}
use Rattle.row_types.proofs.PackedBits.{appended, appended_more}
use Rattle.row_types.proofs.vectors.BitVector.append_bytes.Goals as goal

pub words-preserved : goal.words-preserved
words-preserved c =
    let word : ℕ = get_or c.deref-word-items.result.now c.words.word-index 0 in
    let bytes : c.to_le_bytes.result ≡ to_le_bytes w64 word = c.to_le_bytes.ensures in
    let read : word ≡ get_or c.deref-word-items.result.now c.words.word-index word = search rules in
    record {
      items = c.in_ok-extend_from_slice.ensures.items ∙ ap (λ t. c.words.bytes.items ++ t) bytes
          ∙ appended_more c.args.bytes.now.items c.words.bytes.items c.deref-word-items.result.now c.words.word-index word c.words-test.true read c.words.invariant.items;
      room = search rules;
    }

pub returns-clause-ok : goal.returns-clause-ok
returns-clause-ok c =
    let had : c.len-2.result + c.self.inside.dim / 8 ≡ length c.args.bytes.now.items + c.self.inside.dim / 8 = search rules in
    let view : take c.self.inside.dim (bits_in 64 c.deref-word-items.result.now) ≡ c.args.self.now =
    ap (λ t. take c.self.inside.dim (bits_in 64 t)) c.deref-word-items.ensures.value ∙ c.self.view_is in
    c.truncate.ensures.items
    ∙ appended c.args.bytes.now.items c.words.bytes.items c.deref-word-items.result.now c.args.self.now c.self.inside.dim c.words.word-index (c.len-2.result + c.self.inside.dim / 8) c.words.invariant.items c.words-test.false had view
