-- A tail is shorter than `seal_rows`, and no segment is longer.
use Rattle.std.proofs.Common.{◌≡◌, ℕ, ◌<◌, ◌≤◌, true, false, cond, not, List, [], ◌∷◌, ◌++◌, length, Option, Some, None, refl, sym, subst, arith}
use Rattle.std.proofs.lemmas.Bool.{eqb-false}
use Rattle.std.specs.Prelude.{nat_eq}
use Rattle.std.specs.List.{AllByRecursion}
use Rattle.std.proofs.lemmas.List.{length_push}
use Rattle.log_model.proofs.LogLaws.{each-append}
use Rattle.journal_model.specs.declared.notes.Home.{Home}
use Rattle.journal_model.specs.declared.notes.Home.TheVariants.{Node}
use Rattle.journal_model.specs.declared.notes.Kind.{Kind}
use Rattle.journal_model.specs.declared.notes.Kind.TheVariants.{Put, Seal, Number, Load, Release, Merge}
use Rattle.journal_model.specs.declared.notes.Note.{Note}
use Rattle.log_model.specs.Places.{Placed}
use Rattle.journal_model.specs.Puts.{effective_put}
use Rattle.journal_model.specs.Layouts.{Channel, Segment, BegunMerge, Layout, number_at, waiting_segment, after_boundary, with_tail, with_row, after_seal, homes_after_load, homes_after_release, with_homes, rehome, is_among, others_in, begun_merge, merged_piece, with_merged, layout_after, layout_of}
use Rattle.journal_model.specs.Lawful.{merged_rows, is_allowed, is_lawful, IsLawful}
use Rattle.journal_model.specs.Counts.{IsSized}
use Rattle.journal_model.proofs.WalkLaws.{by_each}
use Rattle.journal_model.proofs.AllowLaws.{merge_allowed}
use Rattle.journal_model.proofs.PieceLaws.{each_filter, each_with_segment}
use Rattle.journal_model.proofs.LayoutLaws.{layout-snoc}

module _ (channel : Channel) (some : 0 < channel.seal_rows) where
  close_sized : (layout : Layout) (rows : List Placed) → length rows ≤ channel.seal_rows → IsSized channel layout → IsSized channel (after_boundary channel layout rows)
  close_sized layout rows few s = record { tail = some; pieces = each-append (λ z. length z.piece ≤ channel.seal_rows) layout.segments (waiting_segment (number_at channel layout.taken) rows ∷ []) s.pieces (few, tt) }

  row_sized : (layout : Layout) (o : Option Placed) → IsSized channel layout → IsSized channel (with_row channel layout o)
  row_sized layout None s = s
  row_sized layout (Some x) s = elim (nat_eq (length (layout.tail ++ x ∷ [])) channel.seal_rows) as (λ b. nat_eq (length (layout.tail ++ x ∷ [])) channel.seal_rows ≡ b → IsSized channel (cond b (after_boundary channel layout (layout.tail ++ x ∷ [])) (with_tail layout (layout.tail ++ x ∷ [])))) [
    | true ↦ λ e. close_sized layout (layout.tail ++ x ∷ []) (let t = s.tail in omega (arith, length_push layout.tail x)) s
    | false ↦ λ e.
        let ne = eqb-false (length (layout.tail ++ x ∷ [])) channel.seal_rows e in
        let t = s.tail in
        let fewer : length (layout.tail ++ x ∷ []) < channel.seal_rows = omega (arith, length_push layout.tail x) in
        record { tail = fewer; pieces = s.pieces }
  ] refl

  seal_sized : (layout : Layout) → IsSized channel layout → IsSized channel (after_seal channel layout)
  seal_sized layout s = elim (nat_eq (length layout.tail) 0) as (λ b. IsSized channel (cond b layout (after_boundary channel layout layout.tail))) [
    | true ↦ s
    | false ↦ close_sized layout layout.tail (let t = s.tail in omega arith) s
  ]

  rehome_sized : (n : ℕ) (change : List Home → List Home) (segments : List Segment) → AllByRecursion (λ z. length z.piece ≤ channel.seal_rows) segments → AllByRecursion (λ z. length z.piece ≤ channel.seal_rows) (rehome n change segments)
  rehome_sized n change [] a = tt
  rehome_sized n change (s ∷ segments) a = elim (nat_eq s.number n) as (λ b. AllByRecursion (λ z. length z.piece ≤ channel.seal_rows) (cond b (with_homes change s ∷ segments) (s ∷ rehome n change segments))) [
    | true ↦ a
    | false ↦ (a.0, rehome_sized n change segments a.1)
  ]

  product_sized : (notes : List Note) (layout : Layout) (sources : List ℕ) (node : ℕ) (o : Option BegunMerge) → merged_rows notes layout sources o ≤ channel.seal_rows → IsSized channel layout → AllByRecursion (λ z. length z.piece ≤ channel.seal_rows) (with_merged notes layout sources node o (others_in sources layout.segments))
  product_sized notes layout sources node None few s = each_filter (λ z. length z.piece ≤ channel.seal_rows) (λ z. not (is_among sources z)) layout.segments s.pieces
  product_sized notes layout sources node (Some b) few s = each_with_segment (λ z. length z.piece ≤ channel.seal_rows) (record { number = b.number; piece = merged_piece notes layout sources b; homes = Node node ∷ [] }) (others_in sources layout.segments) few (each_filter (λ z. length z.piece ≤ channel.seal_rows) (λ z. not (is_among sources z)) layout.segments s.pieces)

  note_sized : (notes : List Note) (by : ℕ) (layout : Layout) (kind : Kind) → is_allowed channel notes by layout kind ≡ true → IsSized channel layout → IsSized channel (layout_after channel notes by layout kind)
  note_sized notes by layout (Put ts how row) ok s = row_sized layout (effective_put notes ts.0 how row) s
  note_sized notes by layout (Seal ts) ok s = seal_sized layout s
  note_sized notes by layout (Number segment floor) ok s = record { tail = s.tail; pieces = s.pieces }
  note_sized notes by layout (Load segment node) ok s = record { tail = s.tail; pieces = rehome_sized segment (homes_after_load node) layout.segments s.pieces }
  note_sized notes by layout (Release segment node) ok s = record { tail = s.tail; pieces = rehome_sized segment (homes_after_release node) layout.segments s.pieces }
  note_sized notes by layout (Merge sources None node) ok s = record { tail = s.tail; pieces = each_filter (λ z. length z.piece ≤ channel.seal_rows) (λ z. not (is_among sources z)) layout.segments s.pieces }
  note_sized notes by layout (Merge sources (Some segment) node) ok s = record { tail = s.tail; pieces = product_sized notes layout sources node (begun_merge layout by segment) (merge_allowed channel notes by layout sources (Some segment) node ok).few s }
  note_sized notes by layout _ ok s = s

  nothing_sized : IsSized channel (layout_of channel [])
  unfolding layout_of
  nothing_sized = record { tail = some; pieces = tt }

  -- in every lawful journal
  pub sizes : (notes : List Note) → IsLawful channel notes → IsSized channel (layout_of channel notes)
  sizes = by_each (λ before note. is_lawful channel before note ≡ true) (λ notes. IsSized channel (layout_of channel notes)) nothing_sized
      (λ xs note lawful ok s. subst (IsSized channel) (sym (layout-snoc channel xs note)) (note_sized xs note.by (layout_of channel xs) note.kind ok s))
