-- A journal cut at a timestamp: the live rows there are those after the notes up to it.
use Rattle.std.proofs.Common.{◌≡◌, ℕ, ℤ, zero, suc, ◌+◌, ◌<◌, ◌≤◌, true, false, cond, ◌&&◌, List, [], ◌∷◌, ◌++◌, length, Option, Some, None, refl, sym, ap, subst, ◌∙◌, ⊎_elim, arith, append_assoc, append-nil, ltb-true, leb-true, leb-false}
use Rattle.std.specs.Prelude.{slice_get}
use Rattle.std.specs.Option.{option_map, option_or, option_and_then}
use Rattle.std.specs.List.{list_all, AllByRecursion}
use Rattle.std.specs.FinMap as fin
use Rattle.std.proofs.lemmas.Bool.{and_parts, or_cases, cases_lt, false≢true, lt-leb}
use Rattle.std.proofs.lemmas.Option.{same_Some}
use Rattle.row_types.specs.declared.rows.Row.{Row}
use Rattle.log_model.specs.Logs.{live, rows_of, IsAbove}
use Rattle.log_model.proofs.LogLaws.{each-append, each_implied, up_to-all, live-more}
use Rattle.journal_model.specs.declared.notes.PutKind.TheVariants.{Insert, Upsert}
use Rattle.journal_model.specs.declared.notes.Kind.{Kind}
use Rattle.journal_model.specs.declared.notes.Kind.TheVariants.{Put, Remove, Tick}
use Rattle.journal_model.specs.declared.notes.Note.{Note}
use Rattle.journal_model.specs.Notes.{ts_of, changed_key, entries_of, log_of, live_in, tick_after, tick_from, tick_of}
use Rattle.journal_model.specs.Journals.{UpTo, AreUpTo, is_below, is_same, is_other_key, shares_batch, may_follow, is_dated, is_next, IsJournal}
use Rattle.journal_model.specs.Puts.{effective, put_at, ended, first_end, dead_at, death, is_dead_by, IsAlive}
use Rattle.journal_model.specs.Tables.{index_of}
use Rattle.journal_model.specs.Views.{IsLiveAt}
use Rattle.log_model.specs.Places.{Placed, placed}
use Rattle.journal_model.proofs.WalkLaws.{by_each}
use Rattle.journal_model.proofs.NoteLaws.{log_of-append}
use Rattle.journal_model.proofs.OrderLaws.{follow_up_to, next_follows}
use Rattle.journal_model.proofs.PutLaws.{put_at-append, put_within, dead_at-append}
use Rattle.journal_model.proofs.IndexLaws.{index_stands, get-index}
use Rattle.std.proofs.Common.{take}
use Rattle.std.proofs.Common.{drop}
use Rattle.std.specs.Ordering.{int_eq}
use Rattle.std.proofs.Common.{eqb}

-- a timestamp, if it is there, is above another
abbrev pub Above : ℕ → Option ℕ → Type 0
Above t None = Unit {0}
Above t (Some ts) = t < ts

abbrev pub AreAbove : ℕ → List Note → Type 0
AreAbove t notes = AllByRecursion (λ note. Above t (ts_of note.kind)) notes

-- ---- the cut

pub record Cut (t : ℕ) (notes : List Note) : Type 0 where
  pub before : List Note
  pub rest : List Note
  pub is : notes ≡ before ++ rest
  pub low : AreUpTo t before
  pub high : AreAbove t rest

cut_step : (t : ℕ) (xs : List Note) (note : Note) → may_follow xs note ≡ true → Cut t xs → (ts : Option ℕ) → ts_of note.kind ≡ ts → Cut t (xs ++ note ∷ [])
cut_step t xs note follows c None e = record {
  before = c.before;
  rest = c.rest ++ note ∷ [];
  is = ap (λ l. l ++ note ∷ []) c.is ∙ append_assoc c.before c.rest (note ∷ []);
  low = c.low;
  high = each-append (λ n. Above t (ts_of n.kind)) c.rest (note ∷ []) c.high (subst (Above t) (sym e) tt, tt);
}
cut_step t xs note follows c (Some ts) e = ⊎_elim
    (λ above. record {
      before = c.before;
      rest = c.rest ++ note ∷ [];
      is = ap (λ l. l ++ note ∷ []) c.is ∙ append_assoc c.before c.rest (note ∷ []);
      low = c.low;
      high = each-append (λ n. Above t (ts_of n.kind)) c.rest (note ∷ []) c.high (subst (Above t) (sym e) above, tt);
    })
    (λ upto. record {
      before = xs ++ note ∷ [];
      rest = [];
      is = sym (append-nil (xs ++ note ∷ []));
      low = each-append (λ n. UpTo t (ts_of n.kind)) xs (note ∷ []) (each_implied _ _ (λ n h. weaker ts t (ts_of n.kind) upto h) xs (follow_up_to ts xs note e follows)) (subst (UpTo t) (sym e) upto, tt);
      high = tt;
    })
    (cases_lt t ts)
  where
    weaker : (a b : ℕ) (o : Option ℕ) → a ≤ b → UpTo a o → UpTo b o
    weaker a b None h u = tt
    weaker a b (Some x) h u = omega arith

pub cut : (t : ℕ) (notes : List Note) → IsJournal notes → Cut t notes
cut t = by_each (λ before note. is_next before note ≡ true) (Cut t)
    (record { before = []; rest = []; is = refl; low = tt; high = tt })
    (λ xs note each next c. cut_step t xs note (next_follows xs note next) c (ts_of note.kind) refl)

-- ---- the log of a cut journal

entries_up_to : (t : ℕ) (kind : Kind) → UpTo t (ts_of kind) → AllByRecursion (λ entry. entry.ts.0 ≤ t) (entries_of kind)
entries_up_to t (Put ts how row) h = (h, tt)
entries_up_to t (Remove ts key) h = (h, tt)
entries_up_to t _ h = tt

entries_above : (t : ℕ) (kind : Kind) → Above t (ts_of kind) → AllByRecursion (λ entry. t < entry.ts.0) (entries_of kind)
entries_above t (Put ts how row) h = (h, tt)
entries_above t (Remove ts key) h = (h, tt)
entries_above t _ h = tt

log_up_to : (t : ℕ) (notes : List Note) → AreUpTo t notes → AllByRecursion (λ entry. entry.ts.0 ≤ t) (log_of notes)
log_up_to t [] h = tt
log_up_to t (note ∷ notes) h = each-append (λ entry. entry.ts.0 ≤ t) (entries_of note.kind) (log_of notes) (entries_up_to t note.kind h.0) (log_up_to t notes h.1)

log_above : (t : ℕ) (notes : List Note) → AreAbove t notes → IsAbove t (log_of notes)
log_above t [] h = tt
log_above t (note ∷ notes) h = each-append (λ entry. t < entry.ts.0) (entries_of note.kind) (log_of notes) (entries_above t note.kind h.0) (log_above t notes h.1)

-- the live rows at the timestamp are those after the notes up to it
pub live-cut : (t : ℕ) (notes : List Note) (c : Cut t notes) → live (log_of notes) t ≡ live_in c.before
live-cut t notes c =
    ap (λ l. live (log_of l) t) c.is
    ∙ ap (λ l. live l t) (log_of-append c.before c.rest)
    ∙ live-more (log_of c.before) (log_of c.rest) t (log_above t c.rest c.high)
    ∙ ap rows_of (up_to-all (log_of c.before) t (log_up_to t c.before c.low))

-- ---- places against the cut

pub each_get : {X : Type 0} (P : X → Type 0) (xs : List X) (i : ℕ) (x : X) → AllByRecursion P xs → slice_get xs i ≡ Some x → P x
each_get P [] i x a e = cc
each_get P (y ∷ ys) zero x a e = let same : y ≡ x = cc in subst P same a.0
each_get P (y ∷ ys) (suc i) x a e = each_get P ys i x a.1 e

each_get_past : {X : Type 0} (P : X → Type 0) (xs ys : List X) (i : ℕ) (x : X) → AllByRecursion P ys → length xs ≤ i → slice_get (xs ++ ys) i ≡ Some x → P x
each_get_past P [] ys i x a h e = each_get P ys i x a e
each_get_past P (z ∷ xs) ys zero x a h e = absurd (omega arith)
each_get_past P (z ∷ xs) ys (suc i) x a h e = each_get_past P xs ys i x a (omega arith) e

pub effective_ts : (before : List Note) (kind : Kind) (x : Placed) → effective before kind ≡ Some x → ts_of kind ≡ Some x.ts
effective_ts before (Put ts Insert row) x e = elim (fin.contains_key (live_in before) row.key.0) as (λ b. cond b None (Some (placed (length before) ts.0 row)) ≡ Some x → Some ts.0 ≡ Some x.ts) [
  | true ↦ λ h. cc
  | false ↦ λ h. let same : placed (length before) ts.0 row ≡ x = cc in ap (λ y. Some y.ts) same
] e
effective_ts before (Put ts Upsert row) x e = let same : placed (length before) ts.0 row ≡ x = cc in ap (λ y. Some y.ts) same
effective_ts before _ x e = cc

pub record PutNote (notes : List Note) (x : Placed) : Type 0 where
  pub note : Note
  pub there : slice_get notes x.position ≡ Some note
  pub dated : ts_of note.kind ≡ Some x.ts

pub put_note : (notes : List Note) (x : Placed) → put_at notes x.position ≡ Some x → PutNote notes x
put_note notes x h = elim (slice_get notes x.position) as (λ o. slice_get notes x.position ≡ o → option_and_then (λ note. effective (take x.position notes) note.kind) o ≡ Some x → PutNote notes x) [
  | None ↦ λ e g. absurd (cc)
  | Some note ↦ λ e g. record { note = note; there = e; dated = effective_ts (take x.position notes) note.kind x g }
] refl h

ended_dated : (key : ℤ) (kind : Kind) (d : ℕ) → ended key kind ≡ Some d → ts_of kind ≡ Some d
ended_dated key (Put ts Insert row) d e = absurd (elim (int_eq key row.key.0) as (λ b. cond b None None ≡ Some d → ⊥) [ true ↦ λ h. cc | false ↦ λ h. cc ] e)
ended_dated key (Put ts Upsert row) d e = elim (int_eq key row.key.0) as (λ b. cond b (Some ts.0) None ≡ Some d → Some ts.0 ≡ Some d) [ true ↦ λ h. h | false ↦ λ h. cc ] e
ended_dated key (Remove ts removed) d e = elim (int_eq key removed.0) as (λ b. cond b (Some ts.0) None ≡ Some d → Some ts.0 ≡ Some d) [ true ↦ λ h. h | false ↦ λ h. cc ] e
ended_dated key _ d e = cc

ended_up_to : (t : ℕ) (key : ℤ) (notes : List Note) → AreUpTo t notes → UpTo t (first_end key notes)
ended_up_to t key [] h = tt
ended_up_to t key (note ∷ notes) h = elim (ended key note.kind) as (λ o. ended key note.kind ≡ o → UpTo t (option_or o (first_end key notes))) [
  | None ↦ λ e. ended_up_to t key notes h.1
  | Some d ↦ λ e. subst (UpTo t) (ended_dated key note.kind d e) h.0
] refl

pub ended_above : (t : ℕ) (key : ℤ) (notes : List Note) → AreAbove t notes → Above t (first_end key notes)
ended_above t key [] h = tt
ended_above t key (note ∷ notes) h = elim (ended key note.kind) as (λ o. ended key note.kind ≡ o → Above t (option_or o (first_end key notes))) [
  | None ↦ λ e. ended_above t key notes h.1
  | Some d ↦ λ e. subst (Above t) (ended_dated key note.kind d e) h.0
] refl

each_drop : {X : Type 0} (P : X → Type 0) (n : ℕ) (xs : List X) → AllByRecursion P xs → AllByRecursion P (drop n xs)
each_drop P zero xs a = a
each_drop P (suc n) [] a = tt
each_drop P (suc n) (x ∷ xs) a = each_drop P n xs a.1

pub dead_up_to : (t : ℕ) (notes : List Note) (p : ℕ) (key : ℤ) → AreUpTo t notes → UpTo t (dead_at notes p key)
dead_up_to t notes p key h = ended_up_to t key (drop (p + 1) notes) (each_drop (λ n. UpTo t (ts_of n.kind)) (p + 1) notes h)

-- dead at or before the timestamp in the whole journal, or at all in what was cut
not_dead : (t : ℕ) (o p : Option ℕ) → UpTo t o → Above t p → is_dead_by t (option_or o p) ≡ false → o ≡ None
not_dead t None p u a h = refl
not_dead t (Some d) p u a h = absurd (let gt : t < d = leb-false d t h in omega arith)

dead_not : (t : ℕ) (o p : Option ℕ) → o ≡ None → Above t p → is_dead_by t (option_or o p) ≡ false
dead_not t None None e a = refl
dead_not t None (Some d) e a = lt-leb d t a
dead_not t (Some d) p e a = cc

-- a row is alive at the timestamp in a journal exactly where it is a put that nothing ends in what is cut
pub record Cuts (t : ℕ) (before : List Note) (x : Placed) : Type 0 where
  pub put : put_at before x.position ≡ Some x
  pub alive : death before x ≡ None

pub alive_cut : (t : ℕ) (before rest : List Note) (x : Placed) → AreUpTo t before → AreAbove t rest → IsAlive (before ++ rest) t x → Cuts t before x
alive_cut t before rest x low high a = ⊎_elim
    (λ lt. record {
      put = sym (put_at-append before rest x.position lt) ∙ a.put;
      alive = not_dead t (death before x) (first_end x.row.key.0 rest) (dead_up_to t before x.position x.row.key.0 low) (ended_above t x.row.key.0 rest high) (ap (is_dead_by t) (sym (dead_at-append before rest x.position x.row.key.0 lt)) ∙ a.alive);
    })
    (λ ge.
    let n = put_note (before ++ rest) x a.put in
    let above : Above t (ts_of n.note.kind) = each_get_past (λ note. Above t (ts_of note.kind)) before rest x.position n.note high ge n.there in
    let late : t < x.ts = subst (Above t) n.dated above in
    let old = a.old in
    absurd (omega arith))
    (cases_lt x.position (length before))

cut_alive : (t : ℕ) (before rest : List Note) (x : Placed) → AreUpTo t before → AreAbove t rest → Cuts t before x → IsAlive (before ++ rest) t x
cut_alive t before rest x low high c =
    let within : x.position < length before = put_within before x x.position c.put in
    let n = put_note before x c.put in
    record {
      put = put_at-append before rest x.position within ∙ c.put;
      old = subst (UpTo t) n.dated (each_get (λ note. UpTo t (ts_of note.kind)) before x.position n.note low n.there);
      alive = ap (is_dead_by t) (dead_at-append before rest x.position x.row.key.0 within) ∙ dead_not t (death before x) (first_end x.row.key.0 rest) c.alive (ended_above t x.row.key.0 rest high);
    }

found_row : (o : Option Placed) (row : Row) → option_map (λ (y : Placed). y.row) o ≡ Some row → (x : Placed) × (o ≡ Some x) × (x.row ≡ row)
found_row None row e = cc
found_row (Some x) row e = (x, refl, same_Some x.row row e)

-- the rows that are live at a timestamp are the puts up to it that are not dead at it
pub live_alive : (notes : List Note) → IsJournal notes → (t : ℕ) (row : Row) → IsLiveAt notes t row → (x : Placed) × IsAlive notes t x × (x.row ≡ row)
live_alive notes journal t row h =
    let c = cut t notes journal in
    let got : fin.get (live_in c.before) row.key.0 ≡ Some row = ap (λ rows. fin.get rows row.key.0) (sym (live-cut t notes c)) ∙ h in
    let found = found_row (index_of c.before row.key.0) row (sym (get-index row.key.0 c.before) ∙ got) in
    let here = (index_stands row.key.0 c.before).here found.0 found.1 in
    (found.0, subst (λ l. IsAlive l t found.0) (sym c.is) (cut_alive t c.before c.rest found.0 c.low c.high (record { put = here.0; alive = ap (dead_at c.before found.0.position) here.1 ∙ here.2 })), found.2)

pub alive_live : (notes : List Note) → IsJournal notes → (t : ℕ) (x : Placed) → IsAlive notes t x → IsLiveAt notes t x.row
alive_live notes journal t x a =
    let c = cut t notes journal in
    let at = alive_cut t c.before c.rest x c.low c.high (subst (λ l. IsAlive l t x) c.is a) in
    ap (λ rows. fin.get rows x.row.key.0) (live-cut t notes c)
    ∙ get-index x.row.key.0 c.before
    ∙ ap (option_map (λ (y : Placed). y.row)) ((index_stands x.row.key.0 c.before).alive x.position x at.put refl at.alive)

-- ---- stability: later changes are above the tick

mates_tick : (low : ℕ) (before : List Note) (note : Note) → list_all (shares_batch note) before ≡ true → tick_from low before ≡ low
mates_tick low [] note h = refl
mates_tick low (first ∷ before) note h =
    let parts = and_parts (shares_batch note first) (list_all (shares_batch note) before) h in
    ap (λ t. tick_from t before) (no_tick (changed_key note.kind) first.kind (mate_changes note first parts.0)) ∙ mates_tick low before note parts.1
  where
    mate_changes : (note earlier : Note) → shares_batch note earlier ≡ true → is_other_key (changed_key earlier.kind) (changed_key note.kind) ≡ true
    mate_changes note earlier h =
        let parts = and_parts (eqb earlier.by note.by && eqb earlier.line note.line) (is_same (ts_of earlier.kind) (ts_of note.kind) && is_other_key (changed_key earlier.kind) (changed_key note.kind)) h in
        (and_parts (is_same (ts_of earlier.kind) (ts_of note.kind)) (is_other_key (changed_key earlier.kind) (changed_key note.kind)) parts.1).1

    no_tick : (later : Option ℤ) (kind : Kind) → is_other_key (changed_key kind) later ≡ true → tick_after low kind ≡ low
    no_tick later (Tick ts) d = absurd (false≢true d)
    no_tick later _ d = refl

follow_tick : (low t : ℕ) (before : List Note) (note : Note) → ts_of note.kind ≡ Some t → low < t → may_follow before note ≡ true → tick_from low before < t
follow_tick low t [] note e lt h = lt
follow_tick low t (first ∷ before) note e lt h =
    ⊎_elim
    (λ l. let parts = and_parts (is_below (ts_of first.kind) (ts_of note.kind)) (may_follow before note) l in
    follow_tick (tick_after low first.kind) t before note e (after_below first.kind parts.0) parts.1)
    (λ r. subst (λ n. n < t) (sym (mates_tick low (first ∷ before) note r)) lt)
    (or_cases (is_below (ts_of first.kind) (ts_of note.kind) && may_follow before note) (list_all (shares_batch note) (first ∷ before)) h)
  where
    after_below : (kind : Kind) → is_below (ts_of kind) (ts_of note.kind) ≡ true → tick_after low kind < t
    after_below (Tick ts) b = ltb-true ts.0 t (subst (λ o. is_below (Some ts.0) o ≡ true) e b)
    after_below _ b = lt

-- what a note that may follow adds to the log is above the tick
pub entries_follow : (before : List Note) (note : Note) → is_next before note ≡ true → IsAbove (tick_of before) (entries_of note.kind)
entries_follow before note h =
    let parts = and_parts (is_dated note.kind) (may_follow before note) h in
    go note.kind refl parts.0 parts.1
  where
    go : (kind : Kind) → note.kind ≡ kind → is_dated kind ≡ true → may_follow before note ≡ true → IsAbove (tick_of before) (entries_of kind)
    go (Put ts how row) e d f = (follow_tick 0 ts.0 before note (ap ts_of e) (let one : 1 ≤ ts.0 = leb-true 1 ts.0 d in omega arith) f, tt)
    go (Remove ts key) e d f = (follow_tick 0 ts.0 before note (ap ts_of e) (let one : 1 ≤ ts.0 = leb-true 1 ts.0 d in omega arith) f, tt)
    go _ e d f = tt
