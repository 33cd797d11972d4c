use Rattle.std.proofs.Common.{◌≡◌, ◌++◌, ℕ, List, take, map}
use Rattle.std.specs.List.{AllByRecursion}
use Rattle.row_types.specs.declared.rows.Kind.{Kind}
use Rattle.seg_sealed.specs.Parts.{shown_rows}
use Rattle.channel_pieces.specs.Pieces.{HasShape}
use Rattle.channel_pieces.specs.Fields.{IsPiece}
use Rattle.channel_pieces.proofs.sealed_pieces.place_all.Given as goal

abbrev pub invariant-homes : goal.invariant-homes
invariant-homes l = record {
  rows : map shown_rows l.parts.items ≡ map shown_rows l.initial.parts.items ++ map (λ home. l.initial.piece.rows) (take l.index l.homes);
  shapes : (dim : ℕ) (kinds : List Kind) → IsPiece dim kinds l.initial.piece → AllByRecursion (HasShape dim kinds) l.initial.parts.items → AllByRecursion (HasShape dim kinds) l.parts.items;
  same : l.piece ≡ l.initial.piece;
}
