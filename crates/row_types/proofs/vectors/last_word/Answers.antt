use Rattle.std.proofs.Common.{◌≡◌, ℕ, ◌-◌, ◌++◌, List, length, drop, replicate, ◌∙◌, ap, ap₂, rules}
use Rattle.std.proofs.lemmas.List.{drop-replicate}
use Rattle.std.specs.Int.{w64, from_le_bytes}
use Rattle.hex.specs.Hex.{IsBytes}
use Rattle.row_types.proofs.PackedBits.{last_word_of_bytes}
use Rattle.row_types.proofs.vectors.last_word.Goals as goal

pub returns : goal.returns
returns c =
    let bytes : IsBytes c.args.bytes.now = λ i. search rules in
    let read : c.from_le_bytes.result ≡ from_le_bytes w64 (c.copy_from_slice.new.self ++ drop (length c.args.bytes.now) (replicate 8 0)) = c.from_le_bytes.ensures in
    let same : c.copy_from_slice.new.self ++ drop (length c.args.bytes.now) (replicate 8 0) ≡ c.args.bytes.now ++ replicate (8 - length c.args.bytes.now) 0 =
    ap₂ (λ (xs ys : List ℕ). xs ++ ys) c.copy_from_slice.ensures.after (drop-replicate (length c.args.bytes.now) 8 0) in
    last_word_of_bytes c.args.bytes.now c.from_le_bytes.result c.requires bytes (read ∙ ap (λ t. from_le_bytes w64 t) same)
