-- What is found in a view that shows the live rows is the scan of the log.
use Rattle.std.proofs.Common.{◌≡◌, ◌≢◌, ◌↔◌, ℕ, ℤ, Option, Some, None, IfSome, ◌≤◌, true, List, ◌++◌, refl, sym, ap, subst, ◌∙◌}
use Rattle.std.specs.List.{filter}
use Rattle.std.specs.FinMap as fin
use Rattle.row_types.specs.declared.rows.Row.{Row}
use Rattle.log_model.specs.declared.queries.Query.{Query}
use Rattle.log_model.specs.declared.queries.Plan.{Plan}
use Rattle.log_model.specs.Logs.{live, IsAbove}
use Rattle.log_model.specs.Scans.{passes_filter, scan}
use Rattle.journal_model.specs.declared.notes.Note.{Note}
use Rattle.journal_model.specs.Notes.{log_of, tick_of}
use Rattle.journal_model.specs.Journals.{IsJournal}
use Rattle.journal_model.specs.Lists.{IsIn, joined}
use Rattle.journal_model.specs.Views.{Shown, View, is_visible, IsSeen, ShowsLive, IsExact, view_of}
use Rattle.journal_model.specs.Layouts.{Channel}
use Rattle.journal_model.specs.Runs.{State, IsSound}
use Rattle.journal_model.proofs.RunLaws.{look_exact, look_stays}
use Rattle.journal_model.proofs.ListLaws.{in_map, out_map, in_filter, out_filter}
use Rattle.journal_model.proofs.ViewLaws.{view_stays, goes_on}
use Rattle.view_laws.specs.Found.{rows_seen, found_in}
use Rattle.view_laws.specs.Wholes.{ServesAt}
use Rattle.view_laws.proofs.Members.{found-members}
use Rattle.view_laws.proofs.Values.{value_of_get, get_of_value, keyed_live}

in_seen : (t : ℕ) (rows : List Shown) (s : Shown) → IsIn s rows → is_visible t s ≡ true → IsIn s.row (rows_seen t rows)
in_seen t rows s h v = in_map (λ (x : Shown). x.row) s (filter (is_visible t) rows) (in_filter (is_visible t) s rows h v)

out_seen : (t : ℕ) (rows : List Shown) (row : Row) → IsIn row (rows_seen t rows) → (s : Shown) × IsIn s rows × (is_visible t s ≡ true) × (s.row ≡ row)
out_seen t rows row h =
    let o = out_map (λ (x : Shown). x.row) row (filter (is_visible t) rows) h in
    let f = out_filter (is_visible t) o.0 rows o.1 in
    (o.0, f.0, f.1, sym o.2)

pub view_scan : (notes : List Note) (view : View) (t : ℕ) (plan : Plan) (query : Query) → ShowsLive notes view → view.floor ≤ t → t ≤ view.tick
    → found_in view t plan query ≡ scan (log_of notes) t plan query
unfolding scan
view_scan notes view t plan query shows low high =
    found-members (passes_filter query.filter) plan query (rows_seen t (joined view.parts)) (fin.values (live (log_of notes) t))
    (λ row h. value_of_get (live (log_of notes) t) row.key.0 row ((shows t low high row).0 (out_seen t (joined view.parts) row h)))
    (λ row h.
    let seen = (shows t low high row).1 (get_of_value (log_of notes) t row h) in
    subst (λ r. IsIn r (rows_seen t (joined view.parts))) seen.3 (in_seen t (joined view.parts) seen.0 seen.1 seen.2))

pub exact_stays : (notes more : List Note) (view : View) → IsExact notes view → IsJournal (notes ++ more) → ShowsLive (notes ++ more) view
exact_stays notes more view exact journal =
    view_stays notes more view (subst (λ n. IsAbove n (log_of more)) (sym exact.tick_is) (goes_on notes more journal).above) exact.shows

pub exact_scan : (notes more : List Note) (view : View) (t : ℕ) (plan : Plan) (query : Query) → IsExact notes view → IsJournal (notes ++ more)
    → view.floor ≤ t → t ≤ view.tick → found_in view t plan query ≡ scan (log_of (notes ++ more)) t plan query
exact_scan notes more view t plan query exact journal = view_scan (notes ++ more) view t plan query (exact_stays notes more view exact journal)

pub looked_scan : (channel : Channel) (s : State) (more : List Note) (t : ℕ) (plan : Plan) (query : Query) → IsSound channel s → IsJournal (s.notes ++ more)
    → s.floor ≤ t → t ≤ tick_of s.notes → found_in (view_of channel s.floor s.notes) t plan query ≡ scan (log_of (s.notes ++ more)) t plan query
looked_scan channel s more t plan query sound journal =
    view_scan (s.notes ++ more) (view_of channel s.floor s.notes) t plan query (look_stays channel s more sound journal)

pub is_live : (notes : List Note) (view : View) (t : ℕ) (row : Row) → ShowsLive notes view → view.floor ≤ t → t ≤ view.tick
    → IsSeen view t row → fin.get (live (log_of notes) t) row.key.0 ≡ Some row
is_live notes view t row shows low high = (shows t low high row).0

-- a key that no visible row has is not live
pub not_live : (notes : List Note) (view : View) (t : ℕ) (key : ℤ) → ShowsLive notes view → view.floor ≤ t → t ≤ view.tick
    → ((row : Row) → IsSeen view t row → row.key.0 ≢ key) → fin.get (live (log_of notes) t) key ≡ None
not_live notes view t key shows low high none = go (fin.get (live (log_of notes) t) key) refl (keyed_live (log_of notes) t key)
  where
    go : (o : Option Row) → fin.get (live (log_of notes) t) key ≡ o → IfSome o (λ row. row.key.0 ≡ key) → o ≡ None
    go None e own = refl
    go (Some row) e own = absurd (none row ((shows t low high row).1 (ap (fin.get (live (log_of notes) t)) own ∙ e)) own)

seen_more : (t : ℕ) (rows others : List Shown) → ((s : Shown) → IsIn s rows → IsIn s others) → (row : Row) → IsIn row (rows_seen t rows) → IsIn row (rows_seen t others)
seen_more t rows others f row h =
    let o = out_seen t rows row h in
    subst (λ r. IsIn r (rows_seen t others)) o.3 (in_seen t others o.0 (f o.0 o.1) o.2)

-- views whose parts have the same rows
pub members_found : (view other : View) (t : ℕ) (plan : Plan) (query : Query) → ((s : Shown) → IsIn s (joined view.parts) ↔ IsIn s (joined other.parts))
    → found_in view t plan query ≡ found_in other t plan query
members_found view other t plan query same =
    found-members (passes_filter query.filter) plan query (rows_seen t (joined view.parts)) (rows_seen t (joined other.parts))
    (seen_more t (joined view.parts) (joined other.parts) (λ s. (same s).0))
    (seen_more t (joined other.parts) (joined view.parts) (λ s. (same s).1))

-- a look at a sound state
pub look_serves : (channel : Channel) (s : State) (more : List Note) (t : ℕ) → IsSound channel s → IsJournal (s.notes ++ more) → s.floor ≤ t → t ≤ tick_of s.notes
    → ServesAt t (record { notes = s.notes; more = more; view = view_of channel s.floor s.notes })
look_serves channel s more t sound journal low high = record { exact = look_exact channel s sound; journal = journal; from_floor = low; to_tick = high }
