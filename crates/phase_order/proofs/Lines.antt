-- The lines of a phase, each with what it did in the journals at the end, and each note with its line.
use Rattle.std.proofs.Common.{◌≡◌, ◌≢◌, ◌⊎◌, ℕ, suc, ◌+◌, ◌<◌, ◌≤◌, Bool, true, false, cond, Option, Some, None, List, [], ◌∷◌, ◌++◌, length, map, inl, inr, ⊎_elim, refl, sym, ap, subst, ◌∙◌, arith, append-nil, eq-eqb}
use Rattle.std.specs.List.{AllByRecursion as Each}
use Rattle.turn_facts.specs.Counts.{count, Among, total}
use Rattle.turn_facts.specs.Notes.{of, times}
use Rattle.turn_facts.specs.Prefixes.{StartsWith, IsAt}
use Rattle.turn_facts.proofs.Counts.{count-nil, count-here, count-else, count-append}
use Rattle.turn_facts.proofs.Places.{same_or, at_below, at_some}
use Rattle.turn_facts.proofs.Strangers.{own_rest}
use Rattle.turn_facts.proofs.Totals.{total_le, total_below}
use Rattle.turn_table.specs.Knowledge.{at_slot}
use Rattle.turn_table.specs.Seats.{SeatView}
use Rattle.seat_walks.specs.Walks.{Turned, Step, Took, all_drawn, all_notes, Walked}
use Rattle.seat_walks.specs.Gathers.{number_in}
use Rattle.seat_walks.specs.Closes.{Stands}
use Rattle.seat_walks.proofs.Walking.{walks_append, walked}
use Rattle.coarse_lists.specs.declared.collections.Collection.{Collection}
use Rattle.answer_lines.specs.declared.answers.Answer.{Answer}
use Rattle.request_lines.specs.declared.requests.Request.{Request}
use Rattle.legal_output.specs.Lines.{Asked, Bad, Given, Finish, Line, caller_of, drawn}
use Rattle.legal_output.specs.Printed.{lines_of, is_caller, all_drawn as all_told}
use Rattle.legal_output.specs.Legal.{Differ}
use Rattle.journal_model.specs.declared.notes.Note.{Note}
use Rattle.journal_model.specs.Lists.{IsIn}
use Rattle.journal_model.proofs.ListLaws.{all_in, all_from, in_filter, out_filter}
use Rattle.call_model.specs.Turns.{by_of, time_of}
use Rattle.call_model.specs.Calls.{IsCall}
use Rattle.call_model.specs.Walks.{Did, Ran}
use Rattle.phase_model.specs.Rests.{Rest, AreJournals}
use Rattle.phase_model.specs.Phases.{IsQuiet, IsBackground, IsRefused, HasSeat, IsLineOf, Minds, IsPhase}
use Rattle.phase_order.proofs.Places.{in_at, all_at, in_own_notes}
use Rattle.phase_order.proofs.Steps.{WasTaken, turn_in}
use Rattle.phase_order.proofs.Stamps.{in_among}
use Rattle.phase_order.proofs.Served.{CallIn, OfLine, steps_of, served_did, IsUnder, call_in, note_of_line, told_few}

-- a turn as it stands in the journals at the end
pub record Settled (old new : List (List Note)) (t : Turned Note) : Type 0 where
  pub slot : t.slot < length new
  pub older : StartsWith t.before (at_slot old t.slot)
  pub stands : StartsWith (at_slot new t.slot) (t.before ++ t.notes)
  pub above : (x y : ℕ) → Among x t.drawn → Among y (times time_of t.before) → y < x

-- a line that was served, without its seat
pub record LineDone (collection : Collection) (least : ℕ) (old new : Rest) (line : Line) : Type 0 where
  pub by : ℕ
  pub mine : ℕ
  pub request : Request
  pub steps : List (Step Note)
  pub asked : line.asked ≡ Given request
  pub call : IsCall collection by line.number mine request.what line.answer steps
  pub settled : (t : Turned Note) → IsIn (Took t) steps → Settled old.journals new.journals t
  pub within : (x : ℕ) → Among x (all_drawn steps) → (old.clock ≤ x) × (x < new.clock)
  pub low : (x : ℕ) → Among x (all_drawn steps) → mine < x
  pub late : (x : ℕ) → Among x (all_drawn steps) → least ≤ x

-- a note of a line of the block
pub record NoteOf (collection : Collection) (least : ℕ) (old new : Rest) (block : List Line) (k : ℕ) (note : Note) : Type 0 where
  pub line : Line
  pub among : IsIn line block
  pub done : LineDone collection least old new line
  pub noted : IsIn note (all_notes k done.steps)

-- what a phase did, without its seats
pub record PhaseDone (collection : Collection) (least : ℕ) (old new : Rest) (block : List Line) : Type 0 where
  pub grown : (k : ℕ) → StartsWith (at_slot new.journals k) (at_slot old.journals k)
  pub lines : (line : Line) → IsIn line block → IsRefused line.asked line.answer ⊎ LineDone collection least old new line
  pub notes : (k : ℕ) (note : Note) → IsIn note (grown k).rest → IsQuiet note.kind ⊎ NoteOf collection least old new block k note
  pub once : (x : ℕ) → count x (all_told block) ≤ 1
  pub later : old.clock ≤ new.clock

-- ---- numbers that are drawn once

pub differ_once : (ns : List ℕ) → ((x : ℕ) → count x ns ≤ 1) → Differ ns
differ_once [] once = tt
differ_once (n ∷ ns) once = (
  all_from (λ m. n ≢ m) ns (λ m h. λ same.
      let a : Among n ns = subst (λ (z : ℕ). Among z ns) (sym same) (in_among m ns h) in
      let c : count n (n ∷ ns) ≡ 1 + count n ns = count-here n ns in
      let o : count n (n ∷ ns) ≤ 1 = once n in omega arith),
  differ_once ns (λ x. let c : count x (n ∷ ns) ≡ count x (n ∷ []) + count x ns = count-append x (n ∷ []) ns in let o : count x (n ∷ ns) ≤ 1 = once x in omega arith),
)

-- what is less at each place is less in all
pub total_places : {A B : Type 0} (f : A → ℕ) (g : B → ℕ) (l : List A) (m : List B) → length l ≡ length m → ((i : ℕ) (a : A) (b : B) → IsAt l i a → IsAt m i b → f a ≤ g b) → total f l ≤ total g m
unfolding total
total_places f g [] [] e h = omega arith
total_places f g [] (b ∷ m) e h = absurd (omega arith)
total_places f g (a ∷ l) [] e h = absurd (omega arith)
total_places f g (a ∷ l) (b ∷ m) e h = let p : f a ≤ g b = h 0 a b refl refl in let r : total f l ≤ total g m = total_places f g l m (omega arith) (λ i. h (suc i)) in omega arith

-- ---- the lines of each seat

abbrev pub lines_for : Option ℕ → List Line → List Line
lines_for None block = []
lines_for (Some caller) block = lines_of (Some caller) block

abbrev told_for : ℕ → List Line → Option ℕ → ℕ
told_for x block who = count x (all_told (lines_for who block))

kept_told : (x : ℕ) (line : Line) (lines : List Line) (b : Bool) → count x (all_told lines) ≤ count x (all_told (cond b (line ∷ lines) lines))
kept_told x line lines true = let c : count x (drawn line.answer ++ all_told lines) ≡ count x (drawn line.answer) + count x (all_told lines) = count-append x (drawn line.answer) (all_told lines) in omega arith
kept_told x line lines false = omega arith

told_more : (x : ℕ) (line : Line) (block : List Line) (who : Option ℕ) → told_for x block who ≤ told_for x (line ∷ block) who
told_more x line block None = omega arith
told_more x line block (Some caller) = kept_told x line (lines_of (Some caller) block) (is_caller caller (caller_of line.asked))

told_here : (x caller : ℕ) (line : Line) (block : List Line) → caller_of line.asked ≡ Some caller → told_for x (line ∷ block) (Some caller) ≡ count x (drawn line.answer) + told_for x block (Some caller)
told_here x caller line block is =
    ap (λ (b : Bool). count x (all_told (cond b (line ∷ lines_of (Some caller) block) (lines_of (Some caller) block)))) (ap (is_caller caller) is ∙ eq-eqb caller caller refl)
    ∙ count-append x (drawn line.answer) (all_told (lines_of (Some caller) block))

told_line : (x : ℕ) (line : Line) (block : List Line) (whose : List (Option ℕ)) (who : Option ℕ) → caller_of line.asked ≡ who → HasSeat whose who
    → count x (drawn line.answer) + total (told_for x block) whose ≤ total (told_for x (line ∷ block)) whose
told_line x line block whose None is has = absurd has
told_line x line block whose (Some caller) is has =
    let r = in_at (Some caller) whose has in
    let t : total (told_for x block) whose + told_for x (line ∷ block) (Some caller) ≤ total (told_for x (line ∷ block)) whose + told_for x block (Some caller) =
    total_below (told_for x block) (told_for x (line ∷ block)) (told_more x line block) whose r.0 (Some caller) r.1 in
    let e : told_for x (line ∷ block) (Some caller) ≡ count x (drawn line.answer) + told_for x block (Some caller) = told_here x caller line block is in omega arith

refused_draws : (x : ℕ) (asked : Asked) (answer : Answer) → IsRefused asked answer → count x (drawn answer) ≡ 0
refused_draws x (Bad reason) answer is = ap (λ (a : Answer). count x (drawn a)) is ∙ count-nil x
refused_draws x (Given request) answer is = absurd is
refused_draws x Finish answer is = absurd is

-- each line is told by a seat
covered : (x : ℕ) (whose : List (Option ℕ)) (block : List Line) → Each (IsLineOf whose) block → count x (all_told block) ≤ total (told_for x block) whose
covered x whose [] all = let z : count x [] ≡ 0 = count-nil x in omega arith
covered x whose (line ∷ block) all =
    let c : count x (drawn line.answer ++ all_told block) ≡ count x (drawn line.answer) + count x (all_told block) = count-append x (drawn line.answer) (all_told block) in
    let r : count x (all_told block) ≤ total (told_for x block) whose = covered x whose block all.1 in
    ⊎_elim
    (λ (refused : IsRefused line.asked line.answer).
    let z : count x (drawn line.answer) ≡ 0 = refused_draws x line.asked line.answer refused in
    let m : total (told_for x block) whose ≤ total (told_for x (line ∷ block)) whose = total_le (told_for x block) (told_for x (line ∷ block)) (told_more x line block) whose in omega arith)
    (λ (has : HasSeat whose (caller_of line.asked)).
    let m : count x (drawn line.answer) + total (told_for x block) whose ≤ total (told_for x (line ∷ block)) whose = told_line x line block whose (caller_of line.asked) refl has in omega arith)
    all.0

-- a number of these seats is that of one of them
among_seats : {B : Type 0} (n : ℕ) (ps : List (SeatView Note B)) → Among n (map number_in ps) → (i : ℕ) × (p : SeatView Note B) × IsAt ps i p × (p.number ≡ n)
among_seats n [] h = let z : count n [] ≡ 0 = count-nil n in absurd (omega arith)
among_seats {B = B} n (p ∷ ps) h =
    ⊎_elim (λ (e : p.number ≡ n). (0, p, refl, e))
    (λ (e : p.number ≢ n). let c : count n (p.number ∷ map number_in ps) ≡ count n (map number_in ps) = count-else n p.number (map number_in ps) e in
    let r = among_seats {B = B} n ps (omega arith) in (suc r.0, r.1, r.2, r.3)) (same_or p.number n)

module _ (B : Type 0) (collection : Collection) (least : ℕ) (old new : Rest) (block : List Line) (rest : AreJournals collection old) (ph : IsPhase B collection least old new block) where
  -- ---- a caller's seat

  module _ (i caller : ℕ) (a p : SeatView Note B) (at_w : IsAt ph.whose i (Some caller)) (at_a : IsAt ph.starts i a) (at_p : IsAt ph.ends i p) where
    pub ran : Ran collection least (old.mine caller) a (lines_of (Some caller) block) [] p
    ran = ph.worked i (Some caller) a p at_w at_a at_p

    abbrev pub seat_steps : List (Step Note)
    seat_steps = steps_of collection least (old.mine caller) a (lines_of (Some caller) block) ran.middle ran.served

    pub seat_did : Did a seat_steps p
    seat_did = subst (λ (xs : List (Step Note)). Did a xs p) (append-nil seat_steps)
        (walks_append by_of time_of a ran.middle p seat_steps [] (served_did collection least (old.mine caller) a (lines_of (Some caller) block) ran.middle ran.served) ran.left)

    pub seat_stands : Stands by_of time_of old.clock new.clock old.journals new.journals a seat_steps p
    seat_stands = ph.closed.each i a p seat_steps at_a at_p seat_did

    under : IsUnder collection least a (old.mine caller)
    under x above = let f : a.table.first ≤ x = above.first in let e : a.table.first ≡ old.clock = seat_stands.begins.2 in let m : old.mine caller < old.clock = rest.mine caller in omega arith

    settled_turn : (t : Turned Note) → IsIn (Took t) seat_steps → Settled old.journals new.journals t
    settled_turn t h =
        let r = in_at (Took t) seat_steps h in
        let w : Walked by_of time_of a seat_steps p = walked by_of time_of a seat_steps p seat_did in
        let taken : WasTaken time_of (length a.seen) t = turn_in by_of time_of a seat_steps p seat_did t h in
        record {
          slot = let s : t.slot < length a.seen = taken.slot in let e : length a.seen ≡ length old.journals = ap length seat_stands.begins.0 in let l : length new.journals ≡ length old.journals = ph.closed.long in omega arith;
          older = subst (λ (js : List (List Note)). StartsWith t.before (at_slot js t.slot)) seat_stands.begins.0 (w.behind r.0 t r.1);
          stands = seat_stands.turns r.0 t r.1;
          above = taken.above;
        }

    within : (x : ℕ) → Among x (all_drawn seat_steps) → (old.clock ≤ x) × (x < new.clock)
    within x h = seat_stands.within x (subst (Among x) (sym seat_stands.drawn) h)

    done_line : (line : Line) → CallIn collection least a.number seat_steps line → LineDone collection least old new line
    done_line line c = record {
      by = a.number;
      mine = c.mine;
      request = c.request;
      steps = c.steps;
      asked = c.asked;
      call = c.call;
      settled = λ t h. settled_turn t (c.inside (Took t) h);
      within = λ x h. within x (c.drew x h);
      low = c.low;
      late = c.late;
    }

    line_of_seat : (line : Line) → IsIn line (lines_of (Some caller) block) → LineDone collection least old new line
    line_of_seat line h = done_line line (call_in collection least (old.mine caller) a (lines_of (Some caller) block) ran.middle ran.served under line h)

    own_notes : (k : ℕ) → of by_of p.number (ph.closed.grown k).rest ≡ all_notes k seat_steps
    own_notes k = own_rest by_of p.number (all_notes k seat_steps) (ph.closed.grown k) (seat_stands.own k)

    note_of_seat : (k : ℕ) (note : Note) → IsIn note (all_notes k seat_steps) → NoteOf collection least old new block k note
    unfolding done_line
    note_of_seat k note h =
        let o : OfLine collection least a.number k seat_steps (lines_of (Some caller) block) note = note_of_line collection least k (old.mine caller) a (lines_of (Some caller) block) ran.middle ran.served under note h in
        record {
          line = o.line;
          among = (out_filter (λ line. is_caller caller (caller_of line.asked)) o.line block o.among).0;
          done = done_line o.line o.call;
          noted = o.noted;
        }

    told_by_seat : (x : ℕ) → count x (all_told (lines_of (Some caller) block)) ≤ count x p.drawn
    told_by_seat x =
        let f : count x (all_told (lines_of (Some caller) block)) ≤ count x (all_drawn seat_steps) = told_few collection least (old.mine caller) a (lines_of (Some caller) block) ran.middle ran.served x in
        let e : count x p.drawn ≡ count x (all_drawn seat_steps) = ap (count x) seat_stands.drawn in omega arith

  -- ---- all seats

  pub start_at : (i : ℕ) (p : SeatView Note B) → IsAt ph.ends i p → (a : SeatView Note B) × IsAt ph.starts i a
  start_at i p at = at_some ph.starts i (let h : i < length ph.ends = at_below ph.ends i p at in let e : length ph.starts ≡ length ph.ends = ph.seats.1 in omega arith)

  whose_at : (i : ℕ) (p : SeatView Note B) → IsAt ph.ends i p → (who : Option ℕ) × IsAt ph.whose i who
  whose_at i p at = at_some ph.whose i (let h : i < length ph.ends = at_below ph.ends i p at in let e : length ph.whose ≡ length ph.ends = ph.seats.0 in omega arith)

  pub end_at : (i : ℕ) (who : Option ℕ) → IsAt ph.whose i who → (p : SeatView Note B) × IsAt ph.ends i p
  end_at i who at = at_some ph.ends i (let h : i < length ph.whose = at_below ph.whose i who at in let e : length ph.whose ≡ length ph.ends = ph.seats.0 in omega arith)

  line_of_caller : (line : Line) (who : Option ℕ) → caller_of line.asked ≡ who → HasSeat ph.whose who → IsIn line block → LineDone collection least old new line
  line_of_caller line None is has h = absurd has
  line_of_caller line (Some caller) is has h =
      let r = in_at (Some caller) ph.whose has in
      let e = end_at r.0 (Some caller) r.1 in
      let s = start_at r.0 e.0 e.1 in
      line_of_seat r.0 caller s.0 e.0 r.1 s.1 e.1 line
      (in_filter (λ line. is_caller caller (caller_of line.asked)) line block h (ap (is_caller caller) is ∙ eq-eqb caller caller refl))

  note_of_whom : (k : ℕ) (note : Note) (i : ℕ) (who : Option ℕ) (a p : SeatView Note B) → IsAt ph.whose i who → IsAt ph.starts i a → IsAt ph.ends i p
      → IsIn note (of by_of p.number (ph.closed.grown k).rest) → IsQuiet note.kind ⊎ NoteOf collection least old new block k note
  note_of_whom k note i None a p at_w at_a at_p h =
      let m : Minds a p = ph.worked i None a p at_w at_a at_p in
      let s : Stands by_of time_of old.clock new.clock old.journals new.journals a m.steps p = ph.closed.each i a p m.steps at_a at_p m.did in
      let o : of by_of p.number (ph.closed.grown k).rest ≡ all_notes k m.steps = own_rest by_of p.number (all_notes k m.steps) (ph.closed.grown k) (s.own k) in
      inl (all_in IsBackground (all_notes k m.steps) note (m.background k) (subst (IsIn note) o h)).quiet
  note_of_whom k note i (Some caller) a p at_w at_a at_p h = inr (note_of_seat i caller a p at_w at_a at_p k note (subst (IsIn note) (own_notes i caller a p at_w at_a at_p k) h))

  note_of_block : (k : ℕ) (note : Note) → IsIn note (ph.closed.grown k).rest → IsQuiet note.kind ⊎ NoteOf collection least old new block k note
  note_of_block k note h =
      let known : Among note.by (map number_in ph.ends) = all_at (λ (x : Note). Among x.by (map number_in ph.ends)) (ph.closed.grown k).rest note (ph.closed.noted k) h in
      let r = among_seats {B = B} note.by ph.ends known in
      let w = whose_at r.0 r.1 r.2 in
      let s = start_at r.0 r.1 r.2 in
      note_of_whom k note r.0 w.0 s.0 r.1 w.1 s.1 r.2 (subst (λ (n : ℕ). IsIn note (of by_of n (ph.closed.grown k).rest)) (sym r.3) (in_own_notes by_of (ph.closed.grown k).rest note h))

  told_for_seat : (x i : ℕ) (who : Option ℕ) (p : SeatView Note B) → IsAt ph.whose i who → IsAt ph.ends i p → told_for x block who ≤ count x p.drawn
  told_for_seat x i None p at_w at_p = let z : count x [] ≡ 0 = count-nil x in omega arith
  told_for_seat x i (Some caller) p at_w at_p = let s = start_at i p at_p in told_by_seat i caller s.0 p at_w s.1 at_p x

  once : (x : ℕ) → count x (all_told block) ≤ 1
  once x =
      let c : count x (all_told block) ≤ total (told_for x block) ph.whose = covered x ph.whose block ph.lines in
      let t : total (told_for x block) ph.whose ≤ total (λ (p : SeatView Note B). count x p.drawn) ph.ends =
      total_places (told_for x block) (λ (p : SeatView Note B). count x p.drawn) ph.whose ph.ends ph.seats.0 (told_for_seat x) in
      let o : total (λ (p : SeatView Note B). count x p.drawn) ph.ends ≤ 1 = ph.closed.once x in omega arith

  pub phase_done : PhaseDone collection least old new block
  phase_done = record {
    grown = ph.closed.grown;
    lines = λ line h. ⊎_elim (λ (r : IsRefused line.asked line.answer). inl r) (λ (has : HasSeat ph.whose (caller_of line.asked)). inr (line_of_caller line (caller_of line.asked) refl has h)) (all_in (IsLineOf ph.whose) block line ph.lines h);
    notes = note_of_block;
    once = once;
    later = ph.closed.later;
  }
