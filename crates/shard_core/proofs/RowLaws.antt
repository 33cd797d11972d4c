-- The rows of pieces that are brought up are rows of the collection.
use Rattle.std.proofs.Common.{◌≡◌, ℕ, List, [], ◌∷◌, map, take, suc, Option, Some, None, refl, sym, ap, subst, ◌∙◌}
use Rattle.std.specs.Prelude.{slice_get}
use Rattle.std.specs.List.{AllByRecursion}
use Rattle.std.specs.Option.{option_and_then}
use Rattle.log_model.specs.Places.{Placed}
use Rattle.log_model.proofs.LogLaws.{each-append}
use Rattle.coarse_lists.specs.declared.collections.Collection.{Collection}
use Rattle.coarse_lists.specs.Collections.{IsRowOf}
use Rattle.journal_model.specs.declared.notes.Home.{Home}
use Rattle.journal_model.specs.declared.notes.Kind.{Kind}
use Rattle.journal_model.specs.declared.notes.Kind.TheVariants.{Put}
use Rattle.journal_model.specs.declared.notes.Note.{Note}
use Rattle.journal_model.specs.Lists.{IsIn}
use Rattle.journal_model.specs.Puts.{effective, put_at}
use Rattle.journal_model.specs.Layouts.{Channel, Segment, rows_in, layout_of}
use Rattle.journal_model.specs.Runs.{AreCorrect, all_rows}
use Rattle.journal_model.specs.Views.{Shown, shown}
use Rattle.journal_model.proofs.CutLaws.{each_get}
use Rattle.journal_model.proofs.ListLaws.{in_left, in_right, all_from}
use Rattle.seg_sealed.specs.Parts.{SegmentPart, shown_from, shown_rows}
use Rattle.channel_pieces.specs.Pieces.{placed_of, places_of}
use Rattle.channel_view.specs.Views.{AreRowsOf}
use Rattle.shard_core.specs.Shelves.{shelf_of}
use Rattle.shard_core.specs.Keys.{IsPutIn}
use Rattle.shard_core.proofs.FrontLaws.{places_back}
use Rattle.shard_core.proofs.SourceLaws.{put_is, each_unmapped}

-- ---- rows without their marks

pub rows_shown : (deaths : List (ℕ × ℕ)) (i : ℕ) (rows : List Placed) → map placed_of (shown_from deaths i rows) ≡ rows
rows_shown deaths i [] = refl
rows_shown deaths i (x ∷ rows) = ap (λ l. x ∷ l) (rows_shown deaths (suc i) rows)

-- ---- a put row is one of the collection

kind_row : (collection : Collection) (before : List Note) (kind : Kind) (x : Placed) → IsPutIn collection kind → effective before kind ≡ Some x → IsRowOf collection x.row
kind_row collection before (Put ts how row) x h e = subst (λ (y : Placed). IsRowOf collection y.row) (sym (put_is before ts.0 how row x e)) h
kind_row collection before _ x h e = cc

pub put_in : (collection : Collection) (notes : List Note) (p : ℕ) (x : Placed) → AllByRecursion (λ n. IsPutIn collection n.kind) notes → put_at notes p ≡ Some x → IsRowOf collection x.row
put_in collection notes p x puts put = go (slice_get notes p) refl put
  where
    go : (o : Option Note) → slice_get notes p ≡ o → option_and_then (λ (note : Note). effective (take p notes) note.kind) o ≡ Some x → IsRowOf collection x.row
    go None e h = cc
    go (Some note) e h = kind_row collection (take p notes) note.kind x (each_get (λ n. IsPutIn collection n.kind) notes p note puts e) h

module _ (collection : Collection) (notes : List Note) (puts : AllByRecursion (λ n. IsPutIn collection n.kind) notes) where
  rows_in_collection : (xs : List Placed) → ((x : Placed) → IsIn x xs → put_at notes x.position ≡ Some x) → AreRowsOf collection xs
  rows_in_collection xs f = all_from (λ x. IsRowOf collection x.row) xs (λ x i. put_in collection notes x.position x puts (f x i))

  pub tail_rows : (channel : Channel) (deaths : List (ℕ × ℕ)) (rows : List Placed) → AreCorrect notes (all_rows (layout_of channel notes)) → shown_from deaths 0 rows ≡ map (shown notes) (layout_of channel notes).tail → AreRowsOf collection rows
  tail_rows channel deaths rows correct is =
      let same : (layout_of channel notes).tail ≡ rows = sym (places_back notes (layout_of channel notes).tail) ∙ ap (map placed_of) (sym is) ∙ rows_shown deaths 0 rows in
      subst (AreRowsOf collection) same (rows_in_collection (layout_of channel notes).tail (λ x i. correct x (in_right x (rows_in (layout_of channel notes).segments) (layout_of channel notes).tail i)))

  abbrev Good : List Shown → Type 0
  Good rows = AreRowsOf collection (map placed_of rows)

  copies_good : (rows : List Shown) (homes : List Home) → Good rows → AllByRecursion Good (map (λ home. rows) homes)
  copies_good rows [] g = tt
  copies_good rows (home ∷ homes) g = (g, copies_good rows homes g)

  places_good : (segments : List Segment) → ((x : Placed) → IsIn x (rows_in segments) → put_at notes x.position ≡ Some x) → AllByRecursion Good (places_of (map (shelf_of notes) segments))
  places_good [] f = tt
  places_good (s ∷ segments) f = each-append Good (map (λ home. map (shown notes) s.piece) s.homes) (places_of (map (shelf_of notes) segments))
      (copies_good (map (shown notes) s.piece) s.homes (subst (AreRowsOf collection) (sym (places_back notes s.piece)) (rows_in_collection s.piece (λ x i. f x (in_left x s.piece (rows_in segments) i)))))
      (places_good segments (λ x i. f x (in_right x s.piece (rows_in segments) i)))

  parts_good : (parts : List SegmentPart) → AllByRecursion (λ part. Good (shown_rows part)) parts → AllByRecursion (λ part. AreRowsOf collection part.sealed.rows) parts
  parts_good [] a = tt
  parts_good (part ∷ parts) a = (subst (AreRowsOf collection) (rows_shown part.deaths 0 part.sealed.rows) a.0, parts_good parts a.1)

  pub part_rows : (channel : Channel) (parts : List SegmentPart) → AreCorrect notes (all_rows (layout_of channel notes)) → map shown_rows parts ≡ places_of (map (shelf_of notes) (layout_of channel notes).segments)
      → AllByRecursion (λ part. AreRowsOf collection part.sealed.rows) parts
  part_rows channel parts correct is =
      parts_good parts (each_unmapped Good shown_rows parts (subst (AllByRecursion Good) (sym is)
      (places_good (layout_of channel notes).segments (λ x i. correct x (in_left x (rows_in (layout_of channel notes).segments) (layout_of channel notes).tail i)))))
