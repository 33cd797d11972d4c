-- A row that is pending is read from its note, and fits the pieces; a number that was taken is low.
use Rattle.std.proofs.Common.{◌≡◌, ℕ, ◌+◌, ◌*◌, ◌^◌, ◌<◌, ◌≤◌, true, false, cond, List, [], ◌∷◌, ◌++◌, map, length, take, drop, zero, suc, Option, Result, Ok, Err, Some, None, refl, sym, ap, subst, ◌∙◌, inl, arith}
use Rattle.std.specs.Prelude.{slice_get, nat_eq, is_err, OnOk, OnErr}
use Rattle.std.specs.List.{AllByRecursion}
use Rattle.std.specs.Option.{option_and_then}
use Rattle.std.specs.FinMap as fin
use Rattle.std.proofs.lemmas.Bool.{false≢true}
use Rattle.std.proofs.lemmas.List.{length-take-le, length_push}
use Rattle.log_model.specs.Places.{Placed, placed, PlacedBefore}
use Rattle.row_types.specs.declared.rows.Row.{Row}
use Rattle.row_types.specs.declared.rows.Kind.{Kind as ColumnKind}
use Rattle.journal_model.specs.declared.notes.PutKind.{PutKind}
use Rattle.journal_model.specs.declared.notes.PutKind.TheVariants.{Insert, Upsert}
use Rattle.journal_model.specs.declared.notes.Kind.{Kind}
use Rattle.journal_model.specs.declared.notes.Kind.TheVariants.{Put, Seal, Merge}
use Rattle.journal_model.specs.declared.notes.Note.{Note}
use Rattle.journal_model.specs.Notes.{live_in}
use Rattle.journal_model.specs.Journals.{IsJournal}
use Rattle.journal_model.specs.Lists.{IsIn}
use Rattle.journal_model.specs.Puts.{effective, effective_put, put_at}
use Rattle.journal_model.specs.Layouts.{Channel, Layout, layout_after, layout_of, with_row, after_boundary, with_tail}
use Rattle.journal_model.specs.Invariants.{IsTaken}
use Rattle.journal_model.specs.Runs.{Rise}
use Rattle.journal_model.proofs.WalkLaws.{by_snoc}
use Rattle.journal_model.proofs.PutLaws.{put_within}
use Rattle.journal_model.proofs.CutLaws.{each_get}
use Rattle.journal_model.proofs.PlaceLaws.{ts_rises}
use Rattle.journal_model.proofs.LayoutLaws.{layout-snoc}
use Rattle.journal_model.proofs.ListLaws.{all_in, in_right}
use Rattle.hybrid_time.specs.declared.times.Timestamp.{Timestamp}
use Rattle.channel_journal.specs.Notes.{ChannelJournal}
use Rattle.channel_pieces.specs.Pieces.{MarkedLayout}
use Rattle.shard_core.specs.declared.pending.Pending.{Pending}
use Rattle.shard_core.specs.declared.pending.Pending.TheVariants.{Row as PendingRow, Closed}
use Rattle.shard_core.specs.Shelves.{Shelves, shelves_in_pieces}
use Rattle.shard_core.specs.Steps.{after_all, with_ends}
use Rattle.shard_core.specs.Lagging.{IsPut, IsBehind}
use Rattle.shard_core.specs.Kept.{IsPutOf, ArePutsOf, IsShapedAs, IsSource, Pends, IsNext}
use Rattle.shard_core.proofs.FrontLaws.{row_fits, end_fits}

-- ---- results

pub err_holds : {T E : Type 0} {P : Type 0} (r : Result T E) → is_err r ≡ true → OnErr r P → P
err_holds (Ok a) h p = absurd (false≢true h)
err_holds (Err e) h p = p

pub ok_holds : {T E : Type 0} {P : Type 0} (r : Result T E) → is_err r ≡ false → OnOk r P → P
ok_holds (Ok a) h p = p
ok_holds (Err e) h p = absurd (false≢true (sym h))

-- ---- the note of a row

pub put_is : (before : List Note) (ts : ℕ) (how : PutKind) (row : Row) (x : Placed) → effective_put before ts how row ≡ Some x → x ≡ placed (length before) ts row
put_is before ts Insert row x e = elim (fin.contains_key (live_in before) row.key.0) as (λ b. cond b None (Some (placed (length before) ts row)) ≡ Some x → x ≡ placed (length before) ts row) [
  | true ↦ λ h. cc
  | false ↦ λ h. cc
] e
put_is before ts Upsert row x e = cc

pub row_of_note : (notes : List Note) (position : ℕ) (note : Note) (ts : ℕ) (how : PutKind) (row : Row) (x : Placed) → slice_get notes position ≡ Some note → effective_put (take position notes) ts how row ≡ effective (take position notes) note.kind
    → put_at notes position ≡ Some x → x ≡ placed position ts row
row_of_note notes position note ts how row x there kind put =
    let within : position < length notes = put_within notes x position put in
    put_is (take position notes) ts how row x (kind ∙ ap (option_and_then (λ n. effective (take position notes) n.kind)) (sym there) ∙ put)
    ∙ ap (λ n. placed n ts row) (length-take-le position notes (omega arith))

pub puts_row : (dim : ℕ) (kinds : List ColumnKind) (notes : List Note) (position : ℕ) (note : Note) → ArePutsOf dim kinds notes → slice_get notes position ≡ Some note → IsPutOf dim kinds note.kind
puts_row dim kinds notes position note puts there = each_get (λ n. IsPutOf dim kinds n.kind) notes position note puts there

-- ---- rows before a row

pub last_before : (notes : List Note) → IsJournal notes → (rows : List Placed) (x : Placed) → Rise (rows ++ x ∷ []) → AllByRecursion (λ y. put_at notes y.position ≡ Some y) (rows ++ x ∷ []) → AllByRecursion (λ y. PlacedBefore y x) rows
last_before notes journal [] x r p = tt
last_before notes journal (y ∷ rows) x r p =
    let at : IsIn x (rows ++ x ∷ []) = in_right x rows (x ∷ []) (inl refl) in
    let lt : y.position < x.position = all_in (λ z. y.position < z.position) (rows ++ x ∷ []) x r.0 at in
    (record { lower = lt; not_later = ts_rises notes journal y x p.0 (all_in (λ z. put_at notes z.position ≡ Some z) (rows ++ x ∷ []) x p.1 at) lt }, last_before notes journal rows x r.1 p.1)

pub each_unmapped : {X Y : Type 0} (P : Y → Type 0) (f : X → Y) (xs : List X) → AllByRecursion P (map f xs) → AllByRecursion (λ x. P (f x)) xs
each_unmapped P f [] a = tt
each_unmapped P f (x ∷ xs) a = (a.0, each_unmapped P f xs a.1)

-- ---- numbers that were taken

taken_after : (channel : Channel) (before : List Note) (by : ℕ) (layout : Layout) (kind : Kind) → (layout_after channel before by layout kind).taken ≤ layout.taken + 1
taken_after channel before by layout (Put ts how row) = go (effective_put before ts.0 how row)
  where
    go : (o : Option Placed) → (with_row channel layout o).taken ≤ layout.taken + 1
    go None = omega arith
    go (Some x) = elim (nat_eq (length (layout.tail ++ x ∷ [])) channel.seal_rows) as (λ b. (cond b (after_boundary channel layout (layout.tail ++ x ∷ [])) (with_tail layout (layout.tail ++ x ∷ []))).taken ≤ layout.taken + 1) [
      | true ↦ omega arith
      | false ↦ omega arith
    ]
taken_after channel before by layout (Seal ts) = elim (nat_eq (length layout.tail) 0) as (λ b. (cond b layout (after_boundary channel layout layout.tail)).taken ≤ layout.taken + 1) [
  | true ↦ omega arith
  | false ↦ omega arith
]
taken_after channel before by layout (Merge sources None node) = omega arith
taken_after channel before by layout (Merge sources (Some number) node) = omega arith
taken_after channel before by layout _ = omega arith

none_taken : (channel : Channel) → (layout_of channel []).taken ≤ 0
unfolding layout_of
none_taken channel = omega arith

pub few_taken : (channel : Channel) (notes : List Note) → (layout_of channel notes).taken ≤ length notes
few_taken channel = by_snoc (λ notes. (layout_of channel notes).taken ≤ length notes) (none_taken channel)
    (λ xs note h.
    let one : (layout_after channel xs note.by (layout_of channel xs) note.kind).taken ≤ (layout_of channel xs).taken + 1 = taken_after channel xs note.by (layout_of channel xs) note.kind in
    let least : (layout_of channel (xs ++ note ∷ [])).taken ≤ (layout_of channel xs).taken + 1 = subst (λ (l : Layout). l.taken ≤ (layout_of channel xs).taken + 1) (sym (layout-snoc channel xs note)) one in
    omega (arith, length_push xs note))

pub number_low : (channel : Channel) (notes : List Note) (number : ℕ) → IsTaken channel (layout_of channel notes).taken number → length notes < 2 ^ 56 → channel.number < 16 → number < 2 ^ 60
number_low channel notes number t few low =
    let n : ℕ = t.0 in
    let under : n < (layout_of channel notes).taken = t.1 in
    let taken : (layout_of channel notes).taken ≤ length notes = few_taken channel notes in
    let is : number ≡ n * 16 + channel.number = t.2 in
    omega arith

-- ---- sources

pub source_shaped : (journal : ChannelJournal) (pieces other : MarkedLayout) → IsSource journal pieces → IsShapedAs pieces other → IsSource journal other
source_shaped journal pieces other s h = record {
  sound = s.sound;
  channel = s.channel;
  few = s.few;
  puts = rw (h.dim_is, h.kinds_are) s.puts;
}

pub next_of : (journal : ChannelJournal) (pieces : MarkedLayout) (p : Pending) (pending : List Pending) → IsSource journal pieces → Pends journal.channel journal.state.notes (p ∷ pending) (shelves_in_pieces pieces)
    → IsNext journal.channel journal.state.notes (shelves_in_pieces pieces) p
next_of journal pieces (PendingRow position) pending s k =
    let least : 1 ≤ journal.channel.seal_rows = s.channel.least in
    let h = k.behind.rows.0 in
    (h.0, h.1, row_fits journal.channel journal.state (omega arith) s.sound position pending k.deaths (shelves_in_pieces pieces) h.0 k.behind h.1)
next_of journal pieces (Closed number) pending s k = end_fits journal.channel journal.state s.sound number pending k.deaths (shelves_in_pieces pieces) k.behind

each_dropped : {X : Type 0} (P : X → Type 0) (n : ℕ) (xs : List X) → AllByRecursion P xs → AllByRecursion P (drop n xs)
each_dropped P zero xs a = a
each_dropped P (suc n) [] a = a
each_dropped P (suc n) (x ∷ xs) a = each_dropped P n xs a.1

-- the pieces are behind by what is left
pub behind_rest : (channel : Channel) (notes : List Note) (pending : List Pending) (deaths : List (ℕ × Timestamp)) (s t : Shelves) (n : ℕ) → IsBehind channel notes pending deaths s
    → after_all notes t (drop n pending) ≡ after_all notes s pending → IsBehind channel notes (drop n pending) deaths t
behind_rest channel notes pending deaths s t n k same = record {
  rows = each_dropped (IsPut notes) n pending k.rows;
  died = k.died;
  once = k.once;
  is = ap (with_ends deaths) same ∙ k.is;
}
