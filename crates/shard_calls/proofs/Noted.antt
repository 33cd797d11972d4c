-- Notes of a call, and timestamps above those of a journal.
use Rattle.std.proofs.Common.{◌≡◌, ℕ, ◌+◌, ◌<◌, ◌≤◌, ◌==◌, cond, Bool, true, List, [], ◌∷◌, ◌++◌, All, ◌↔◌, Option, Some, None, refl, ap, sym, ◌∙◌, subst, arith, lt-ltb, append_assoc, append-nil}
use Rattle.std.proofs.lemmas.List.Elements.{All-cons, All-nil, All-weaker, All-append}
use Rattle.hybrid_time.specs.declared.times.Timestamp.{Timestamp}
use Rattle.turn_facts.specs.Counts.{count, Among}
use Rattle.turn_facts.specs.Notes.{times, with_time, IsOwn}
use Rattle.turn_facts.proofs.Counts.{count-here, count-append}
use Rattle.turn_table.specs.Seats.{SeatView}
use Rattle.seat_walks.specs.Walks.{Puts}
use Rattle.seat_walks.proofs.Turning.{own_note}
use Rattle.journal_model.specs.declared.notes.Kind.{Kind}
use Rattle.journal_model.specs.declared.notes.Kind.TheVariants.{Look}
use Rattle.journal_model.specs.declared.notes.Note.{Note}
use Rattle.journal_model.specs.Notes.{note_of, ts_of, log_of, tick_of}
use Rattle.journal_model.specs.Journals.{is_below, AreBelow}
use Rattle.journal_model.specs.Views.{View, IsSeen, IsExact}
use Rattle.journal_model.specs.Runs.{State}
use Rattle.std.specs.FinMap as fin
use Rattle.row_types.specs.declared.rows.Row.{Row}
use Rattle.log_model.specs.Logs.{live}
use Rattle.journal_model.proofs.NoteLaws.{log_of-snoc, tick_of-snoc}
use Rattle.log_model.specs.declared.logs.Entry.{Entry}
use Rattle.shard_core.specs.Shards.{ChannelShard, ChannelBase, Steps, base_of}
use Rattle.call_model.specs.Turns.{by_of, time_of}

-- ---- timestamps

with_here : (ts : ℕ) (o : Option ℕ) (l : List ℕ) → ((x : ℕ) → Among x (with_time o l) → x < ts) → (is_below o (Some ts) ≡ true) × ((x : ℕ) → Among x l → x < ts)
unfolding count
with_here ts None l h = (refl, h)
with_here ts (Some s) l h =
    let here : count s (s ∷ l) ≡ 1 + count s l = count-here s l in (
      lt-ltb s ts (h s (omega arith)),
      λ x a. let more : count x (s ∷ l) ≡ cond (s == x) 1 0 + count x l = refl in h x (omega arith),
    )

-- a number above all timestamps of a journal
pub below_times : (ts : ℕ) (notes : List Note) → ((x : ℕ) → Among x (times time_of notes) → x < ts) → AreBelow ts notes
unfolding times
below_times ts [] h = tt
below_times ts (note ∷ notes) h = let parts = with_here ts (ts_of note.kind) (times time_of notes) h in (parts.0, below_times ts notes parts.1)

-- ---- notes of the seat

here : (x : ℕ) → Among x (x ∷ [])
here x = let c : count x (x ∷ []) ≡ 1 + count x [] = count-here x [] in omega arith

pub all_one : (P : Note → Type 0) (x : Note) → P x → All P (x ∷ [])
all_one P x p = All-cons P x [] p (All-nil P)

-- a note at the number ts
pub own_at : (n line ts : ℕ) (kind : Kind) → ts_of kind ≡ Some ts → All (IsOwn by_of time_of n (ts ∷ [])) (note_of n line kind ∷ [])
own_at n line ts kind e =
    all_one (IsOwn by_of time_of n (ts ∷ [])) (note_of n line kind)
    (own_note by_of time_of n (ts ∷ []) (note_of n line kind) refl (λ t q. let same : ts ≡ t = cc in subst (λ (y : ℕ). Among y (ts ∷ [])) same (here ts)))

-- a look has no number
pub own_look : (n line : ℕ) (guarantee : Timestamp) → All (IsOwn by_of time_of n []) (note_of n line (Look guarantee) ∷ [])
own_look n line guarantee =
    all_one (IsOwn by_of time_of n []) (note_of n line (Look guarantee))
    (own_note by_of time_of n [] (note_of n line (Look guarantee)) refl (λ t q. absurd (let z : ⊥ = cc in z)))

own_more : (n : ℕ) (numbers : List ℕ) (notes : List Note) → All (IsOwn by_of time_of n []) notes → All (IsOwn by_of time_of n numbers) notes
unfolding count
own_more n numbers notes own =
    All-weaker (IsOwn by_of time_of n []) (IsOwn by_of time_of n numbers) (λ x o. record { by = o.by; at = λ t q. let none : Among t [] = o.at t q in absurd (omega arith) }) notes own

-- ---- what was done under the turn

module _ {B : Type 0} where
  -- notes without numbers, behind others
  pub puts_more : (s e : SeatView Note B) (before middle later notes more : List Note) (numbers : List ℕ) → Puts by_of time_of s e before middle notes numbers → later ≡ middle ++ more → All (IsOwn by_of time_of s.number []) more → Puts by_of time_of s e before later (notes ++ more) numbers
  puts_more s e before middle later notes more numbers p is own = record {
    seat = p.seat;
    journal = is ∙ ap (λ (l : List Note). l ++ more) p.journal ∙ append_assoc before notes more;
    own = All-append (IsOwn by_of time_of s.number numbers) notes more p.own (own_more s.number numbers more own);
    enough = p.enough;
    above = p.above;
    rises = p.rises;
  }

-- a step leaves the base as it is
pub base_stays : (old new : ChannelShard) (note : Note) → Steps old new note → base_of new ≡ base_of old
base_stays old new note s =
    let floor : new.state.floor ≡ old.state.floor = ap (λ (st : State). st.floor) s.state in
    let channel : new.channel ≡ old.channel = s.channel in
    let collection : new.collection ≡ old.collection = s.collection in
    cc

-- ---- views

-- a look changes nothing of what a view has to show
pub exact_look : (notes : List Note) (view : View) (by line : ℕ) (guarantee : Timestamp) → IsExact notes view → IsExact (notes ++ note_of by line (Look guarantee) ∷ []) view
exact_look notes view by line guarantee e =
    let note : Note = note_of by line (Look guarantee) in
    let log : log_of notes ≡ log_of (notes ++ note ∷ []) = sym (log_of-snoc notes note ∙ append-nil (log_of notes)) in record {
      tick_is = e.tick_is ∙ sym (tick_of-snoc notes note);
      shows = subst (λ (l : List Entry). (t : ℕ) → view.floor ≤ t → t ≤ view.tick → (row : Row) → IsSeen view t row ↔ (fin.get (live l t) row.key.0 ≡ Some row)) log e.shows;
    }
