-- Each note keeps the pieces behind the journal by what is pending.
use Rattle.std.proofs.Common.{◌≡◌, ℕ, true, false, cond, List, [], ◌∷◌, ◌++◌, map, length, Option, Some, None, refl, sym, ap, ap₂, ◌∙◌}
use Rattle.std.specs.Prelude.{nat_eq}
use Rattle.std.specs.Option.{option_or}
use Rattle.std.specs.List.{AllByRecursion}
use Rattle.std.proofs.lemmas.Bool.{false≢true}
use Rattle.std.proofs.lemmas.List.{map-append}
use Rattle.log_model.specs.Places.{Placed}
use Rattle.log_model.proofs.LogLaws.{each-append, each_implied}
use Rattle.journal_model.specs.declared.notes.Kind.{Kind}
use Rattle.journal_model.specs.declared.notes.Kind.TheVariants.{Put, Seal, Load, Release, Merge}
use Rattle.journal_model.specs.declared.notes.Note.{Note}
use Rattle.journal_model.specs.Puts.{effective, effective_put, put_at, death}
use Rattle.journal_model.specs.Layouts.{Channel, Layout, after_boundary, with_tail, with_row, after_seal, number_at, layout_after, layout_of}
use Rattle.journal_model.specs.Runs.{AreCorrect, all_rows}
use Rattle.journal_model.specs.Views.{Shown, shown}
use Rattle.journal_model.proofs.PutLaws.{put_at-append, put_at-new, put_within, dead_at-new}
use Rattle.journal_model.proofs.IndexLaws.{effective_position}
use Rattle.journal_model.proofs.LayoutLaws.{layout-snoc}
use Rattle.seg_sealed.specs.Parts.{shown_as}
use Rattle.channel_pieces.specs.Pieces.{death_in, marked_by}
use Rattle.hybrid_time.specs.declared.times.Timestamp.{Timestamp}
use Rattle.shard_core.specs.declared.pending.Pending.{Pending}
use Rattle.shard_core.specs.declared.pending.Pending.TheVariants.{Row, Closed}
use Rattle.shard_core.specs.Shelves.{Shelves, shelf_of, shelves_in}
use Rattle.shard_core.specs.Steps.{with_shown, with_closed, after_pending, after_all, with_ends, closed_with, closed_full, closed_by, pending_row, pending_end, pending_of, deaths_of, is_move}
use Rattle.shard_core.specs.Lagging.{IsPut, IsBehind}
use Rattle.shard_core.proofs.MarkLaws.{death_in-append, deaths_later, once_later, no_end_new, no_end_own}
use Rattle.shard_core.proofs.ShelfLaws.{ends-append, shelves_later, all-append, all_stay, ends_shown, ends_closed, shelves_closed}

module _ (channel : Channel) (notes : List Note) (note : Note) (pending : List Pending) (deaths : List (ℕ × Timestamp)) (s : Shelves) (k : IsBehind channel notes pending deaths s) (correct : AreCorrect notes (all_rows (layout_of channel notes))) where
  -- what was pending, with the deaths and the note's own
  before : with_ends (deaths ++ deaths_of notes note.kind) (after_all notes s pending) ≡ shelves_in (notes ++ note ∷ []) (layout_of channel notes)
  before =
      ends-append deaths (deaths_of notes note.kind) (after_all notes s pending)
      ∙ ap (with_ends (deaths_of notes note.kind)) k.is
      ∙ shelves_later notes note (layout_of channel notes) correct

  -- the row that the note adds is alive
  new_row : (x : Placed) → effective notes note.kind ≡ Some x → marked_by (deaths ++ deaths_of notes note.kind) (shown_as x None) ≡ shown (notes ++ note ∷ []) x
  new_row x e =
      let at : x.position ≡ length notes = effective_position notes note.kind x e in
      ap (λ (m : Option ℕ). record { position = x.position; ts = x.ts; row = x.row; mark = m })
      (ap (death_in (deaths ++ deaths_of notes note.kind)) at
      ∙ death_in-append deaths (deaths_of notes note.kind) (length notes)
      ∙ ap₂ (λ (o p : Option ℕ). option_or o p) (no_end_new notes deaths k.died) (no_end_own notes note.kind)
      ∙ sym (ap (λ p. death (notes ++ note ∷ []) (record { position = p; ts = x.ts; row = x.row })) at ∙ dead_at-new notes note x.row.key.0))

  put_new : (x : Placed) → effective notes note.kind ≡ Some x → put_at (notes ++ note ∷ []) x.position ≡ Some x
  put_new x e = ap (put_at (notes ++ note ∷ [])) (effective_position notes note.kind x e) ∙ put_at-new notes note ∙ e

  -- the tail with that row
  with_new : (x : Placed) → effective notes note.kind ≡ Some x
      → with_ends (deaths ++ deaths_of notes note.kind) (after_pending (notes ++ note ∷ []) (after_all notes s pending) (Row x.position)) ≡ shelves_in (notes ++ note ∷ []) (with_tail (layout_of channel notes) ((layout_of channel notes).tail ++ x ∷ []))
  with_new x e =
      ap (λ o. with_ends (deaths ++ deaths_of notes note.kind) (with_shown (after_all notes s pending) o)) (put_new x e)
      ∙ ends_shown (deaths ++ deaths_of notes note.kind) (after_all notes s pending) x
      ∙ ap₂ (λ (z : Shelves) (r : Shown). record { tail = z.tail ++ r ∷ []; segments = z.segments }) before (new_row x e)
      ∙ ap (λ (l : List Shown). record { tail = l; segments = map (shelf_of (notes ++ note ∷ [])) (layout_of channel notes).segments }) (sym (map-append (shown (notes ++ note ∷ [])) (layout_of channel notes).tail (x ∷ [])))

  -- a boundary behind shelves that show the journal but for it
  then_closed : (t : Shelves) (rows : List Placed) → with_ends (deaths ++ deaths_of notes note.kind) t ≡ shelves_in (notes ++ note ∷ []) (with_tail (layout_of channel notes) rows)
      → with_ends (deaths ++ deaths_of notes note.kind) (with_closed t (number_at channel (layout_of channel notes).taken)) ≡ shelves_in (notes ++ note ∷ []) (after_boundary channel (layout_of channel notes) rows)
  then_closed t rows is =
      ends_closed (deaths ++ deaths_of notes note.kind) t (number_at channel (layout_of channel notes).taken)
      ∙ ap (λ z. with_closed z (number_at channel (layout_of channel notes).taken)) is
      ∙ sym (shelves_closed channel (notes ++ note ∷ []) (layout_of channel notes) rows)

  abbrev Now : List Pending → Layout → Type 0
  Now new layout = with_ends (deaths ++ deaths_of notes note.kind) (after_all (notes ++ note ∷ []) (after_all notes s pending) new) ≡ shelves_in (notes ++ note ∷ []) layout

  row_now : (o : Option Placed) → effective notes note.kind ≡ o → Now (pending_row o ++ pending_end (closed_with channel (layout_of channel notes) o)) (with_row channel (layout_of channel notes) o)
  row_now None e = before
  row_now (Some x) e = elim (nat_eq (length ((layout_of channel notes).tail ++ x ∷ [])) channel.seal_rows) as
      (λ b. Now (Row x.position ∷ pending_end (cond b (Some (number_at channel (layout_of channel notes).taken)) None)) (cond b (after_boundary channel (layout_of channel notes) ((layout_of channel notes).tail ++ x ∷ [])) (with_tail (layout_of channel notes) ((layout_of channel notes).tail ++ x ∷ [])))) [
        | true ↦ then_closed (after_pending (notes ++ note ∷ []) (after_all notes s pending) (Row x.position)) ((layout_of channel notes).tail ++ x ∷ []) (with_new x e)
        | false ↦ with_new x e
      ]

  seal_now : Now (pending_end (closed_full channel (layout_of channel notes))) (after_seal channel (layout_of channel notes))
  seal_now = elim (nat_eq (length (layout_of channel notes).tail) 0) as
      (λ b. Now (pending_end (cond b None (Some (number_at channel (layout_of channel notes).taken)))) (cond b (layout_of channel notes) (after_boundary channel (layout_of channel notes) (layout_of channel notes).tail))) [
        | true ↦ before
        | false ↦ then_closed (after_all notes s pending) (layout_of channel notes).tail before
      ]

  kind_now : (kind : Kind) → note.kind ≡ kind → is_move kind ≡ false → Now (pending_of channel notes kind) (layout_after channel notes note.by (layout_of channel notes) kind)
  kind_now (Put ts how row) e stays = row_now (effective_put notes ts.0 how row) (ap (effective notes) e)
  kind_now (Seal ts) e stays = seal_now
  kind_now (Load segment node) e stays = absurd (false≢true (sym stays))
  kind_now (Release segment node) e stays = absurd (false≢true (sym stays))
  kind_now (Merge sources segment node) e stays = absurd (false≢true (sym stays))
  kind_now _ e stays = before

  -- what is pending then was put
  rows_then : AllByRecursion (IsPut (notes ++ note ∷ [])) (pending ++ pending_of channel notes note.kind)
  rows_then = each-append (IsPut (notes ++ note ∷ [])) pending (pending_of channel notes note.kind)
      (each_implied (IsPut notes) (IsPut (notes ++ note ∷ [])) old pending k.rows)
      (each-append (IsPut (notes ++ note ∷ [])) (pending_row (effective notes note.kind)) (pending_end (closed_by channel notes note.kind)) (new (effective notes note.kind) refl) (end (closed_by channel notes note.kind)))
    where
      old : (p : Pending) → IsPut notes p → IsPut (notes ++ note ∷ []) p
      old (Row position) h = (h.0, put_at-append notes (note ∷ []) position (put_within notes h.0 position h.1) ∙ h.1)
      old (Closed number) h = tt

      new : (o : Option Placed) → effective notes note.kind ≡ o → AllByRecursion (IsPut (notes ++ note ∷ [])) (pending_row o)
      new None e = tt
      new (Some x) e = ((x, put_new x e), tt)

      end : (o : Option ℕ) → AllByRecursion (IsPut (notes ++ note ∷ [])) (pending_end o)
      end None = tt
      end (Some number) = (tt, tt)

  -- a note that moves no segment leaves its row and its boundary pending, and its death open
  pub noted : is_move note.kind ≡ false → IsBehind channel (notes ++ note ∷ []) (pending ++ pending_of channel notes note.kind) (deaths ++ deaths_of notes note.kind) s
  noted stays = record {
    rows = rows_then;
    died = deaths_later notes note deaths k.died;
    once = once_later notes note deaths k.died k.once;
    is =
        ap (with_ends (deaths ++ deaths_of notes note.kind)) (all-append (notes ++ note ∷ []) pending (pending_of channel notes note.kind) s
        ∙ ap (λ z. after_all (notes ++ note ∷ []) z (pending_of channel notes note.kind)) (all_stay notes (note ∷ []) pending s k.rows))
        ∙ kind_now note.kind refl stays
        ∙ ap (shelves_in (notes ++ note ∷ [])) (sym (layout-snoc channel notes note));
  }
