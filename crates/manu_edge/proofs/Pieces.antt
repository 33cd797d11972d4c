-- Bytes that are handed out piece after piece.
use Rattle.std.proofs.Common.{◌≡◌, ℕ, ◌+◌, ◌-◌, ◌<◌, ◌≤◌, min, List, [], ◌++◌, length, take, drop, sym, ap, ◌∙◌, arith, length-append, length-drop}
use Rattle.std.proofs.Math.Seq.{take-append_seam}
use Rattle.std.proofs.lemmas.List.{take-append-drop, length-take-le, drop_all, drop-drop, take_all}

module _ (bytes piece into : List ℕ) (at count : ℕ) (rest : List ℕ) where
  -- the piece of the bytes left is the front of the place that it was copied to, and the others are left
  pub handed_out : rest ≡ drop at bytes → count ≡ min (length rest) (length into) → piece ≡ take count rest
      → drop at bytes ≡ take count (piece ++ drop count into) ++ drop (at + count) bytes
  handed_out left is same =
      let fits : count ≤ length rest = omega arith in
      let long : length piece ≡ count = ap length same ∙ length-take-le count rest fits in
      let front : take count (piece ++ drop count into) ≡ piece = ap (λ n. take n (piece ++ drop count into)) (sym long) ∙ take-append_seam piece (drop count into) in
      let back : drop (at + count) bytes ≡ drop count rest = sym (drop-drop count at bytes) ∙ ap (drop count) (sym left) in
      sym left ∙ sym (take-append-drop count rest) ∙ sym (ap (λ p. p ++ drop (at + count) bytes) (front ∙ same) ∙ ap (λ p. take count rest ++ p) back)

  -- where nothing was handed out to a place that is not empty, nothing was left
  pub at_end : rest ≡ drop at bytes → count ≡ min (length rest) (length into) → piece ≡ take count rest → count ≡ 0 → 0 < length (piece ++ drop count into) → drop (at + count) bytes ≡ []
  at_end left is same none room =
      let fits : count ≤ length rest = omega arith in
      let long : length piece ≡ count = ap length same ∙ length-take-le count rest fits in
      drop_all (at + count) bytes (omega (arith, length-append piece (drop count into), length-drop count into, length-drop at bytes, ap length left))

-- the tail of a slice is what is left behind its front
pub tail_left : (slice bytes : List ℕ) (at : ℕ) → slice ≡ bytes → take (length slice - at) (drop at slice) ≡ drop at bytes
tail_left slice bytes at same = take_all (length slice - at) (drop at slice) (omega (arith, length-drop at slice)) ∙ ap (drop at) same
