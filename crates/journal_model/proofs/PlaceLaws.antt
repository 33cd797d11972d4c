-- What readers of places rest on: timestamps do not fall by position, one row of a key at a timestamp, and how many rows a merge keeps.
use Rattle.std.proofs.Common.{◌≡◌, ℕ, ◌+◌, ◌<◌, ◌≤◌, true, cond, List, [], ◌∷◌, length, Some, None, refl, sym, ap, subst, ◌∙◌, ⊎_elim, arith}
use Rattle.std.specs.Prelude.{nat_le, false}
use Rattle.std.specs.List.{filter, count_by, sum_by}
use Rattle.std.proofs.lemmas.List.Sums.{length-filter, sum_by-cons}
use Rattle.journal_model.specs.declared.notes.Note.{Note}
use Rattle.journal_model.specs.Groups.{kept_rows}
use Rattle.journal_model.specs.Notes.{ts_of}
use Rattle.journal_model.specs.Journals.{UpTo, AreUpTo, is_next, IsJournal}
use Rattle.journal_model.specs.Puts.{put_at, IsAlive}
use Rattle.journal_model.specs.Tables.{index_of}
use Rattle.journal_model.specs.Layouts.{Channel, Segment, rows_in, put_in, by_position, is_kept, kept_in}
use Rattle.journal_model.specs.Runs.{IsSound}
use Rattle.log_model.specs.Places.{Placed}
use Rattle.journal_model.proofs.WalkLaws.{by_each}
use Rattle.journal_model.proofs.OrderLaws.{follow_up_to, next_follows}
use Rattle.journal_model.proofs.PutLaws.{put_at_past}
use Rattle.journal_model.proofs.IndexLaws.{put_cases, index_stands}
use Rattle.journal_model.proofs.CutLaws.{cut, alive_cut, put_note, each_get, effective_ts}
use Rattle.journal_model.proofs.ListLaws.{count-append}
use Rattle.journal_model.proofs.LayoutLaws.{nothing_held}

-- a row that was put behind another has no lower timestamp
pub ts_rises : (notes : List Note) → IsJournal notes → (x y : Placed) → put_at notes x.position ≡ Some x → put_at notes y.position ≡ Some y → x.position < y.position → x.ts ≤ y.ts
ts_rises = by_each (λ before note. is_next before note ≡ true) (λ notes. (x y : Placed) → put_at notes x.position ≡ Some x → put_at notes y.position ≡ Some y → x.position < y.position → x.ts ≤ y.ts)
    (λ x y p q lt. absurd (let none : put_at [] x.position ≡ None = put_at_past [] x.position (omega arith) in let bad : None ≡ Some x = sym none ∙ p in cc))
    (λ xs note journal next f x y p q lt. ⊎_elim
    (λ old. ⊎_elim
    (λ first. f x y first.1 old.1 lt)
    (λ last. absurd (let a = old.0 in let b = last.0 in omega arith))
    (put_cases xs note x.position x p))
    (λ new. ⊎_elim
    (λ first.
    let n = put_note xs x first.1 in
    let up : AreUpTo y.ts xs = follow_up_to y.ts xs note (effective_ts xs note.kind y new.1) (next_follows xs note next) in
    subst (UpTo y.ts) n.dated (each_get (λ m. UpTo y.ts (ts_of m.kind)) xs x.position n.note up n.there))
    (λ last. absurd (let a = new.0 in let b = last.0 in omega arith))
    (put_cases xs note x.position x p))
    (put_cases xs note y.position y q))

-- at a timestamp at most one row of a key is alive
pub one_alive_at : (notes : List Note) → IsJournal notes → (t : ℕ) (x y : Placed) → IsAlive notes t x → IsAlive notes t y → y.row.key.0 ≡ x.row.key.0 → y ≡ x
one_alive_at notes journal t x y a b same =
    let c = cut t notes journal in
    let at = alive_cut t c.before c.rest x c.low c.high (subst (λ l. IsAlive l t x) c.is a) in
    let bt = alive_cut t c.before c.rest y c.low c.high (subst (λ l. IsAlive l t y) c.is b) in
    let first : index_of c.before x.row.key.0 ≡ Some x = (index_stands x.row.key.0 c.before).alive x.position x at.put refl at.alive in
    let second : index_of c.before y.row.key.0 ≡ Some y = (index_stands y.row.key.0 c.before).alive y.position y bt.put refl bt.alive in
    let both : Some y ≡ Some x = sym second ∙ ap (index_of c.before) same ∙ first in
    cc

length-put_in : (x : Placed) (xs : List Placed) → length (put_in x xs) ≡ 1 + length xs
length-put_in x [] = omega arith
length-put_in x (y ∷ ys) =
    let rest : length (put_in x ys) ≡ 1 + length ys = length-put_in x ys in
    elim (nat_le x.position y.position) as (λ b. length (cond b (x ∷ y ∷ ys) (y ∷ put_in x ys)) ≡ 1 + length (y ∷ ys)) [
      | true ↦ omega arith
      | false ↦ omega arith
    ]

length-by_position : (xs : List Placed) → length (by_position xs) ≡ length xs
length-by_position [] = refl
length-by_position (x ∷ xs) = let rest : length (by_position xs) ≡ length xs = length-by_position xs in let one : length (put_in x (by_position xs)) ≡ 1 + length (by_position xs) = length-put_in x (by_position xs) in omega arith

count_rows : (notes : List Note) (floor : ℕ) (segments : List Segment) → count_by (is_kept notes floor) (rows_in segments) ≡ sum_by (kept_rows notes floor) segments
count_rows notes floor [] = refl
count_rows notes floor (s ∷ segments) =
    count-append (is_kept notes floor) s.piece (rows_in segments)
    ∙ ap (λ n. count_by (is_kept notes floor) s.piece + n) (count_rows notes floor segments)
    ∙ sym (sum_by-cons (kept_rows notes floor) s segments)

-- a merge has as many rows as its sources keep
pub length-kept : (notes : List Note) (floor : ℕ) (segments : List Segment) → length (kept_in notes floor segments) ≡ sum_by (kept_rows notes floor) segments
length-kept notes floor segments =
    length-by_position (filter (is_kept notes floor) (rows_in segments))
    ∙ length-filter (is_kept notes floor) (rows_in segments)
    ∙ count_rows notes floor segments

-- a channel with no notes is sound
pub start_sound : (channel : Channel) → IsSound channel (record { notes = []; floor = 0 })
start_sound channel =
    let h = nothing_held channel 0 in
    record { journal = tt; lawful = tt; floors = tt; floor = omega arith; rows = h.rows; segments = h.segments; tail = h.tail }
