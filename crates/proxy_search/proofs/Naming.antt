-- Rows with the names of their columns.
use Rattle.std.proofs.Common.{◌≡◌, ◌⊎◌, ⊎_elim, inl, inr, ℕ, ℤ, suc, Bool, true, false, ◌&&◌, List, [], ◌∷◌, ◌++◌, map, true≢false, append-nil, Ok, Err, refl, sym, subst, ◌∙◌}
use Rattle.std.specs.Prelude.{Option, Some, None, IfOk, IfSome}
use Rattle.std.specs.Option.{option_map}
use Rattle.std.specs.FinMap as fin
use Rattle.std.specs.declared.result.Result.{Result}
use Rattle.std.specs.List.{AllByRecursion, AllZip}
use Rattle.row_types.specs.declared.rows.Key.{Key}
use Rattle.row_types.specs.declared.rows.Row.{Row}
use Rattle.row_types.specs.declared.rows.Field.{Field}
use Rattle.row_types.specs.Schemas.{Columns, is_kind}
use Rattle.log_model.specs.Logs.{live}
use Rattle.log_model.specs.Places.{Placed}
use Rattle.answer_lines.specs.declared.answers.Named.{Named}
use Rattle.journal_model.specs.declared.notes.Note.{Note}
use Rattle.journal_model.specs.Notes.{log_of}
use Rattle.journal_model.specs.Journals.{IsJournal}
use Rattle.coarse_lists.specs.declared.collections.Collection.{Collection}
use Rattle.coarse_lists.specs.Schemas.{is_short, are_values}
use Rattle.coarse_lists.specs.Collections.{IsRowOf}
use Rattle.journal_model.specs.Lists.{IsIn, joined}
use Rattle.journal_model.specs.Views.{Shown, IsExact}
use Rattle.journal_model.proofs.ListLaws.{in_cases}
use Rattle.seg_sealed.specs.Parts.{SegmentPart, shown_from, shown_rows}
use Rattle.channel_view.specs.Views.{ChannelView, view_in, AreRowsOf, IsChannelView}
use Rattle.view_scan.specs.Lookups.{IsRowSeen}
use Rattle.proxy_search.specs.Rounds.{IsFoundIn}

both : (a b : Bool) → a && b ≡ true → (a ≡ true) × (b ≡ true)
both true b e = (refl, e)
both false b e = absurd (true≢false (sym e))

-- the values of a row are of the kinds of the columns
pub kinds_of : (columns : Columns) (fields : List Field) → are_values columns fields ≡ true → AllZip (λ column value. is_kind column.1 value ≡ true) columns fields
kinds_of [] [] e = tt
kinds_of [] (value ∷ values) e = absurd (true≢false (sym e))
kinds_of (column ∷ columns) [] e = absurd (true≢false (sym e))
kinds_of (column ∷ columns) (value ∷ values) e =
    let one = both (is_kind column.1 value && is_short value) (are_values columns values) e in
    let two = both (is_kind column.1 value) (is_short value) one.0 in
    (two.0, kinds_of columns values one.1)

module _ (collection : Collection) where
  in_shown : (deaths : List (ℕ × ℕ)) (i : ℕ) (rows : List Placed) (s : Shown) → AreRowsOf collection rows → IsIn s (shown_from deaths i rows) → IsRowOf collection s.row
  in_shown deaths i [] s all h = absurd h
  in_shown deaths i (x ∷ rows) s all (inl e) = subst (λ (t : Shown). IsRowOf collection t.row) (sym e) all.0
  in_shown deaths i (x ∷ rows) s all (inr h) = in_shown deaths (suc i) rows s all.1 h

  in_parts : (parts : List SegmentPart) (s : Shown) → AllByRecursion (λ part. AreRowsOf collection part.sealed.rows) parts → IsIn s (joined (map shown_rows parts)) → IsRowOf collection s.row
  in_parts [] s all h = absurd h
  in_parts (part ∷ parts) s all h =
      ⊎_elim (λ (h : IsIn s (shown_rows part)). in_shown part.deaths 0 part.sealed.rows s all.0 h) (λ (h : IsIn s (joined (map shown_rows parts))). in_parts parts s all.1 h)
      (in_cases s (shown_rows part) (joined (map shown_rows parts)) h)

-- a row that a view shows is one of the collection
pub row_in_view : (view : ChannelView) (ts : ℕ) (key : ℤ) (row : Row) → IsChannelView view → IsRowSeen ts key (joined (view_in view).parts) (Some row) → IsRowOf view.collection row
row_in_view view ts key row is seen =
    let s : Shown = seen.1.0 in
    subst (IsRowOf view.collection) seen.1.3 (by s (in_cases s (shown_from view.deaths 0 view.tail.rows) (joined (map shown_rows view.parts)) seen.1.1))
  where
    by : (s : Shown) → IsIn s (shown_from view.deaths 0 view.tail.rows) ⊎ IsIn s (joined (map shown_rows view.parts)) → IsRowOf view.collection s.row
    by s (inl h) = in_shown view.collection view.deaths 0 view.tail.rows s is.tail h
    by s (inr h) = in_parts view.collection view.parts s is.parts h

pub fits_seen : (view : ChannelView) (collection : Collection) (ts : ℕ) (key : ℤ) (found : Option Row) → IsChannelView view → view.collection ≡ collection → IsRowSeen ts key (joined (view_in view).parts) found → IfSome found (IsRowOf collection)
fits_seen view collection ts key None is same seen = tt
fits_seen view collection ts key (Some row) is same seen = subst (λ (c : Collection). IsRowOf c row) same (row_in_view view ts key row is seen)

-- ---- the row of a key

pub row_found : {E : Type 0} (key : Key) (ts : ℕ) (view : ChannelView) (found : Option Row) (result : Result (Option Named) E) → IfOk result (λ named. option_map (λ n. n.row) named ≡ found)
    → ((notes more : List Note) → IsExact notes (view_in view) → IsJournal (notes ++ more) → fin.get (live (log_of (notes ++ more)) ts) key.0 ≡ found) → IfOk result (IsFoundIn key ts view)
row_found key ts view found (Ok named) same shows = λ notes exact journal.
    same ∙ sym (subst (λ (l : List Note). fin.get (live (log_of l) ts) key.0 ≡ found) (append-nil notes) (shows notes [] exact (subst IsJournal (sym (append-nil notes)) journal)))
row_found key ts view found (Err failed) same shows = tt
