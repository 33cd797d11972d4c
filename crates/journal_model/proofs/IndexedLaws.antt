-- The layout of a journal by its key index, which computes: a map of live rows does not.
use Rattle.std.proofs.Common.{◌≡◌, ℕ, cond, List, [], ◌∷◌, ◌++◌, length, Option, Some, None, refl, ap, ◌∙◌}
use Rattle.std.specs.Prelude.{is_some, if◌then◌else◌}
use Rattle.std.specs.FinMap as fin
use Rattle.std.specs.Option.{option_map}
use Rattle.row_types.specs.declared.rows.Row.{Row}
use Rattle.log_model.specs.Places.{Placed, placed}
use Rattle.journal_model.specs.declared.notes.PutKind.{PutKind}
use Rattle.journal_model.specs.declared.notes.PutKind.TheVariants.{Insert, Upsert}
use Rattle.journal_model.specs.declared.notes.Kind.{Kind}
use Rattle.journal_model.specs.declared.notes.Kind.TheVariants.{Put}
use Rattle.journal_model.specs.declared.notes.Note.{Note}
use Rattle.journal_model.specs.Notes.{live_in}
use Rattle.journal_model.specs.Puts.{effective_put}
use Rattle.journal_model.specs.Tables.{index_of}
use Rattle.journal_model.specs.Layouts.{Channel, Layout, empty_layout, with_row, layout_after, next_layout, layout_of}
use Rattle.journal_model.specs.Walks.{walked_from, walked}
use Rattle.journal_model.proofs.IndexLaws.{get-index}

is_some-map : (o : Option Placed) → is_some (option_map (λ (y : Placed). y.row) o) ≡ is_some o
is_some-map None = refl
is_some-map (Some x) = refl

-- a key is live where the index has it
pub contains_key-index : (notes : List Note) (key : Row) → fin.contains_key (live_in notes) key.key.0 ≡ is_some (index_of notes key.key.0)
contains_key-index notes row = ap is_some (get-index row.key.0 notes) ∙ is_some-map (index_of notes row.key.0)

abbrev pub indexed_put : List Note → ℕ → PutKind → Row → Option Placed
indexed_put before ts Insert row = if is_some (index_of before row.key.0) then None else Some (placed (length before) ts row)
indexed_put before ts Upsert row = Some (placed (length before) ts row)

effective_put-index : (before : List Note) (ts : ℕ) (how : PutKind) (row : Row) → effective_put before ts how row ≡ indexed_put before ts how row
effective_put-index before ts Insert row = ap (λ b. cond b None (Some (placed (length before) ts row))) (contains_key-index before row)
effective_put-index before ts Upsert row = refl

abbrev pub indexed_after : Channel → List Note → ℕ → Layout → Kind → Layout
indexed_after channel before by layout (Put ts how row) = with_row channel layout (indexed_put before ts.0 how row)
indexed_after channel before by layout kind = layout_after channel before by layout kind

abbrev pub indexed_layout : Channel → List Note → Layout
indexed_layout channel notes = walked (λ before layout note. indexed_after channel before note.by layout note.kind) empty_layout notes

one_after : (channel : Channel) (before : List Note) (by : ℕ) (layout : Layout) (kind : Kind) → layout_after channel before by layout kind ≡ indexed_after channel before by layout kind
one_after channel before by layout (Put ts how row) = ap (with_row channel layout) (effective_put-index before ts.0 how row)
one_after channel before by layout _ = refl

walked_from-alike : {X S : Type 0} (f g : List X → S → X → S) → ((before : List X) (s : S) (x : X) → f before s x ≡ g before s x) → (before : List X) (s : S) (xs : List X) → walked_from f before s xs ≡ walked_from g before s xs
walked_from-alike f g same before s [] = refl
walked_from-alike f g same before s (x ∷ xs) = ap (λ t. walked_from f (before ++ x ∷ []) t xs) (same before s x) ∙ walked_from-alike f g same (before ++ x ∷ []) (g before s x) xs

pub layout_of-index : (channel : Channel) (notes : List Note) → layout_of channel notes ≡ indexed_layout channel notes
unfolding layout_of
layout_of-index channel notes = walked_from-alike (next_layout channel) (λ before layout note. indexed_after channel before note.by layout note.kind) (λ before layout note. one_after channel before note.by layout note.kind) [] empty_layout notes
