-- A view whose parts stand for rows that are correct and cover shows the live rows, now and in every later journal.
use Rattle.std.proofs.Common.{◌≡◌, ℕ, ◌<◌, ◌≤◌, true, false, not, List, [], ◌∷◌, ◌++◌, map, Option, Some, None, refl, sym, ap, subst, ◌∙◌, arith, append_assoc, append-nil, leb-true, le-leb, leb-false}
use Rattle.std.specs.Prelude.{nat_le}
use Rattle.std.specs.FinMap as fin
use Rattle.std.proofs.lemmas.Bool.{and_parts, and_from, not-true, not_from_false, lt-leb}
use Rattle.log_model.specs.Logs.{live, IsAbove}
use Rattle.log_model.proofs.LogLaws.{each-append, each_implied, live-more}
use Rattle.journal_model.specs.declared.notes.Kind.{Kind}
use Rattle.journal_model.specs.declared.notes.Kind.TheVariants.{Tick}
use Rattle.journal_model.specs.declared.notes.Note.{Note}
use Rattle.journal_model.specs.Notes.{ts_of, entries_of, log_of, tick_after, tick_from, tick_of}
use Rattle.journal_model.specs.Journals.{UpTo, AreUpTo, is_next, IsJournal}
use Rattle.journal_model.specs.Puts.{death, is_dead_by, IsAlive}
use Rattle.journal_model.specs.Lists.{IsIn, joined}
use Rattle.journal_model.specs.Views.{Shown, View, shown, is_visible, IsLiveAt, ShowsLive}
use Rattle.journal_model.specs.Runs.{AreCorrect, Cover}
use Rattle.log_model.specs.Places.{Placed}
use Rattle.journal_model.proofs.WalkLaws.{by_snoc, each-parts}
use Rattle.journal_model.proofs.NoteLaws.{log_of-append, log_of-snoc, tick_of-snoc}
use Rattle.journal_model.proofs.OrderLaws.{follow_up_to, next_follows}
use Rattle.journal_model.proofs.CutLaws.{live_alive, alive_live, entries_follow}
use Rattle.journal_model.proofs.ListLaws.{in_map, out_map}

pub dead_weaker : (floor t : ℕ) (o : Option ℕ) → floor ≤ t → is_dead_by t o ≡ false → is_dead_by floor o ≡ false
dead_weaker floor t None h e = refl
dead_weaker floor t (Some d) h e = let gt : t < d = leb-false d t e in lt-leb d floor (omega arith)

-- rows that are correct and cover are all that a view has to show
pub view_shows : (notes : List Note) (view : View) (rows : List Placed) → IsJournal notes → AreCorrect notes rows → Cover notes view.floor rows
    → joined view.parts ≡ map (shown notes) rows → ShowsLive notes view
view_shows notes view rows journal correct cover is t low high row = (
  λ seen.
      let s : Shown = seen.0 in
      let at = out_map (shown notes) s rows (subst (IsIn s) is seen.1) in
      let x : Placed = at.0 in
      let sees = and_parts (nat_le x.ts t) (not (is_dead_by t (death notes x))) (ap (is_visible t) (sym at.2) ∙ seen.2) in
      let alive : IsAlive notes t x = record { put = correct x at.1; old = leb-true x.ts t sees.0; alive = not-true (is_dead_by t (death notes x)) sees.1 } in
      subst (IsLiveAt notes t) (ap (λ y. y.row) (sym at.2) ∙ seen.3) (alive_live notes journal t x alive),
  λ live.
      let a = live_alive notes journal t row live in
      let x : Placed = a.0 in (
        shown notes x,
        subst (IsIn (shown notes x)) (sym is) (in_map (shown notes) x rows (cover x a.1.put (dead_weaker view.floor t (death notes x) low a.1.alive))),
        and_from (nat_le x.ts t) (not (is_dead_by t (death notes x))) (le-leb x.ts t a.1.old) (not_from_false (is_dead_by t (death notes x)) a.1.alive),
        a.2,
      ),
)

-- what is written above the tick of a view changes nothing that it shows
pub view_stays : (notes more : List Note) (view : View) → IsAbove view.tick (log_of more) → ShowsLive notes view → ShowsLive (notes ++ more) view
view_stays notes more view above shows t low high row =
    let same : live (log_of (notes ++ more)) t ≡ live (log_of notes) t =
    ap (λ l. live l t) (log_of-append notes more) ∙ live-more (log_of notes) (log_of more) t (each_implied _ _ (λ entry h. omega arith) (log_of more) above) in
    let both = shows t low high row in
    (λ seen. ap (λ rows. fin.get rows row.key.0) same ∙ both.0 seen, λ live. both.1 (ap (λ rows. fin.get rows row.key.0) (sym same) ∙ live))

tick_up_to : (low t : ℕ) (notes : List Note) → low ≤ t → AreUpTo t notes → tick_from low notes ≤ t
tick_up_to low t [] h u = h
tick_up_to low t (note ∷ notes) h u = tick_up_to (tick_after low note.kind) t notes (after_up_to note.kind u.0) u.1
  where
    after_up_to : (kind : Kind) → UpTo t (ts_of kind) → tick_after low kind ≤ t
    after_up_to (Tick ts) u = u
    after_up_to _ u = h

-- the tick never falls
pub tick_follows : (before : List Note) (note : Note) → is_next before note ≡ true → tick_of before ≤ tick_after (tick_of before) note.kind
tick_follows before note h = go note.kind refl
  where
    go : (kind : Kind) → note.kind ≡ kind → tick_of before ≤ tick_after (tick_of before) kind
    go (Tick ts) e = tick_up_to 0 ts.0 before (omega arith) (follow_up_to ts.0 before note (ap ts_of e) (next_follows before note h))
    go _ e = omega arith

pub record Goes (notes more : List Note) : Type 0 where
  pub tick : tick_of notes ≤ tick_of (notes ++ more)
  pub above : IsAbove (tick_of notes) (log_of more)

-- a journal that goes on writes above its tick, which never falls
pub goes_on : (notes more : List Note) → IsJournal (notes ++ more) → Goes notes more
goes_on notes = by_snoc (λ more. IsJournal (notes ++ more) → Goes notes more)
    (λ j. record { tick = subst (λ l. tick_of notes ≤ tick_of l) (sym (append-nil notes)) (omega arith); above = tt })
    (λ xs note g j.
    let parts = each-parts (λ before n. is_next before n ≡ true) (notes ++ xs) note (subst IsJournal (sym (append_assoc notes xs (note ∷ []))) j) in
    let old = g parts.0 in
    let tick : tick_of (notes ++ xs) ≤ tick_of (notes ++ (xs ++ note ∷ [])) =
    subst (λ l. tick_of (notes ++ xs) ≤ tick_of l) (append_assoc notes xs (note ∷ []))
    (subst (λ n. tick_of (notes ++ xs) ≤ n) (sym (tick_of-snoc (notes ++ xs) note)) (tick_follows (notes ++ xs) note parts.1)) in
    let was : tick_of notes ≤ tick_of (notes ++ xs) = old.tick in
    record {
      tick = omega arith;
      above = subst (IsAbove (tick_of notes)) (sym (log_of-snoc xs note))
          (each-append (λ entry. tick_of notes < entry.ts.0) (log_of xs) (entries_of note.kind) old.above
          (each_implied _ _ (λ entry h. omega arith) (entries_of note.kind) (entries_follow (notes ++ xs) note parts.1)));
    })
