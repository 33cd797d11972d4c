use Rattle.std.proofs.Common.{◌≡◌, ℕ, ◌/◌, ◌%◌, ◌<◌, length, get_or, List, [], ◌∙◌, ap, sym, rules, arith, take, drop, ◌*◌}
use Rattle.std.proofs.lemmas.Bool.{eqb-true}
use Rattle.std.specs.Int.{w64, from_le_bytes}
use Rattle.std.specs.Simd.{first_chunks}
use Rattle.hex.specs.Hex.{IsBytes}
use Rattle.row_types.proofs.PackedBits.{filled_chunk, filled_whole, filled_rest, chunk_at}
use Rattle.row_types.proofs.vectors.pack.Goals as goal
use Rattle.row_types.proofs.vectors.pack.Goals.{then-not-is_empty+in_ok-push-2, else-not-is_empty}

pub chunks-preserved : goal.chunks-preserved
chunks-preserved c =
    let bytes : IsBytes c.args.bytes.now = λ i. search rules in
    let read : c.from_le_bytes.result ≡ from_le_bytes w64 (get_or c.as_chunks.result.0.now c.chunks.chunk-index []) = c.from_le_bytes.ensures in
    let below : c.chunks.chunk-index < length c.args.bytes.now / 8 = omega (arith, c.chunks-test.true, c.as_chunks.ensures.front_len) in
    let front : c.as_chunks.result.0.now ≡ first_chunks 8 (length c.args.bytes.now / 8) c.args.bytes.now = c.as_chunks.ensures.front in
    let chunk : get_or c.as_chunks.result.0.now c.chunks.chunk-index [] ≡ take 8 (drop (c.chunks.chunk-index * 8) c.args.bytes.now) =
    ap (λ (t : List (List ℕ)). get_or t c.chunks.chunk-index []) front ∙ chunk_at 8 (length c.args.bytes.now / 8) c.chunks.chunk-index c.args.bytes.now [] below in
    rw c.in_ok-push.ensures.items
    (filled_chunk c.args.bytes.now c.chunks.words.items (get_or c.as_chunks.result.0.now c.chunks.chunk-index []) c.chunks.chunk-index c.from_le_bytes.result bytes c.chunks.invariant below chunk read)

pub returns : goal.returns
returns c =
    let count : length c.as_chunks.result.0.now ≡ length c.args.bytes.now / 8 = c.as_chunks.ensures.front_len in
    let left : length c.as_chunks.result.1.now ≡ length c.args.bytes.now % 8 = c.as_chunks.ensures.back_len in
    let all : c.chunks.chunk-index ≡ length c.args.bytes.now / 8 = omega arith in
    elim c.if-not-is_empty.branch [
      | then-not-is_empty+in_ok-push-2 w ↦
          let some : 0 < length c.as_chunks.result.1.now = search rules in
          rw (w.words-is, w.in_ok-push-2.ensures.items)
          (filled_rest c.args.bytes.now c.chunks.words.items c.as_chunks.result.1.now c.chunks.chunk-index w.last_word.result c.chunks.invariant all c.as_chunks.ensures.back some w.last_word.ensures)
      | else-not-is_empty w ↦
          let none : length c.as_chunks.result.1.now ≡ 0 = eqb-true (length c.as_chunks.result.1.now) 0 (sym w.if-not-is_empty.ensures) in
          rw w.words-is (filled_whole c.args.bytes.now c.chunks.words.items c.chunks.chunk-index c.chunks.invariant all (omega arith))
    ]
