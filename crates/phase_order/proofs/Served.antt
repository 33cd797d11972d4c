-- What a seat did for its caller as one list of steps, with the call of each line in it.
use Rattle.std.proofs.Common.{◌≡◌, ℕ, ◌+◌, ◌<◌, ◌≤◌, List, [], ◌∷◌, ◌++◌, max, inl, inr, ⊎_elim, refl, sym, ap, subst, arith}
use Rattle.coarse_lists.specs.declared.collections.Collection.{Collection}
use Rattle.answer_lines.specs.declared.answers.Answer.{Answer}
use Rattle.answer_lines.specs.declared.answers.Answer.TheVariants as answers
use Rattle.request_lines.specs.declared.requests.Request.{Request}
use Rattle.request_lines.specs.declared.requests.Ask.{Ask}
use Rattle.legal_output.specs.Lines.{Given, Line, written_of, drawn}
use Rattle.legal_output.specs.Printed.{write_or, all_drawn as all_told}
use Rattle.journal_model.specs.declared.notes.Note.{Note}
use Rattle.journal_model.specs.Lists.{IsIn}
use Rattle.journal_model.proofs.ListLaws.{in_left, in_right, in_cases}
use Rattle.turn_facts.specs.Counts.{count, Among}
use Rattle.turn_facts.proofs.Counts.{count-append}
use Rattle.turn_table.specs.Seats.{SeatView}
use Rattle.seat_walks.specs.Walks.{Step, Lift, after, IsAbove, Walked, all_drawn, all_notes}
use Rattle.seat_walks.proofs.Walking.{walks_append, walks_same, above_before, walked}
use Rattle.call_model.specs.Turns.{by_of, time_of}
use Rattle.call_model.specs.Calls.{IsCall}
use Rattle.call_model.specs.Walks.{Did, Serves, IsServed}
use Rattle.phase_order.proofs.Steps.{among_left, among_right, among_here, all_drawn-append, all_notes-append}
use Rattle.phase_order.proofs.Drawn.{drawn_few}

-- the call of a line, among the steps xs of the seat `by`: its numbers are above the caller's last write, and not below `least`
pub record CallIn (collection : Collection) (least by : ℕ) (xs : List (Step Note)) (line : Line) : Type 0 where
  pub mine : ℕ
  pub request : Request
  pub steps : List (Step Note)
  pub asked : line.asked ≡ Given request
  pub call : IsCall collection by line.number mine request.what line.answer steps
  pub inside : (x : Step Note) → IsIn x steps → IsIn x xs
  pub drew : (x : ℕ) → Among x (all_drawn steps) → Among x (all_drawn xs)
  pub low : (x : ℕ) → Among x (all_drawn steps) → mine < x
  pub late : (x : ℕ) → Among x (all_drawn steps) → least ≤ x

module _ (collection : Collection) (least : ℕ) where
  call_behind : (by : ℕ) (xs ys : List (Step Note)) (line : Line) → CallIn collection least by ys line → CallIn collection least by (xs ++ ys) line
  call_behind by xs ys line c = record {
    mine = c.mine;
    request = c.request;
    steps = c.steps;
    asked = c.asked;
    call = c.call;
    inside = λ x h. in_right x xs ys (c.inside x h);
    drew = λ x h. subst (Among x) (sym (all_drawn-append xs ys)) (among_right x (all_drawn xs) (all_drawn ys) (c.drew x h));
    low = c.low;
    late = c.late;
  }

  -- a note of the steps is of the call of a line
  pub record OfLine (by k : ℕ) (xs : List (Step Note)) (lines : List Line) (note : Note) : Type 0 where
    pub line : Line
    pub among : IsIn line lines
    pub call : CallIn collection least by xs line
    pub noted : IsIn note (all_notes k call.steps)

  of_later : (by k : ℕ) (xs ys : List (Step Note)) (first : Line) (lines : List Line) (note : Note) → OfLine by k ys lines note → OfLine by k (xs ++ ys) (first ∷ lines) note
  unfolding call_behind
  of_later by k xs ys first lines note o = record { line = o.line; among = inr o.among; call = call_behind by xs ys o.line o.call; noted = o.noted }

  module _ {B : Type 0} where
    abbrev pub steps_of : (mine : ℕ) (s : SeatView Note B) (lines : List Line) (e : SeatView Note B) → IsServed collection least mine s lines e → List (Step Note)
    steps_of mine s [] e v = []
    steps_of mine s (line ∷ lines) e v = (Lift v.1.moment ∷ v.1.steps) ++ steps_of (write_or mine (written_of line.answer)) v.0 lines e v.2

    pub served_did : (mine : ℕ) (s : SeatView Note B) (lines : List Line) (e : SeatView Note B) (v : IsServed collection least mine s lines e) → Did s (steps_of mine s lines e v) e
    served_did mine s [] e v = walks_same by_of time_of s e v
    served_did mine s (line ∷ lines) e v =
        walks_append by_of time_of s v.0 e (Lift v.1.moment ∷ v.1.steps) (steps_of (write_or mine (written_of line.answer)) v.0 lines e v.2) v.1.did
        (served_did (write_or mine (written_of line.answer)) v.0 lines e v.2)

    -- each number that is above all that the seat has is above its caller's last write
    abbrev pub IsUnder : SeatView Note B → ℕ → Type 0
    IsUnder s y = (x : ℕ) → IsAbove time_of s x → y < x

    -- what is above the seat later is above it before
    pub above_earlier : (s : SeatView Note B) (xs : List (Step Note)) (m : SeatView Note B) → Did s xs m → (x : ℕ) → IsAbove time_of m x → IsAbove time_of s x
    above_earlier s xs m d x a =
        let w : Walked by_of time_of s xs m = walked by_of time_of s xs m d in
        above_before by_of time_of s m x w.table w.least (λ n h. subst (Among n) (sym w.drawn) (among_left n s.drawn (all_drawn xs) h)) w.more a

    pub still_under : (s : SeatView Note B) (xs : List (Step Note)) (m : SeatView Note B) → Did s xs m → (y : ℕ) → IsUnder s y → IsUnder m y
    still_under s xs m d y u x a = u x (above_earlier s xs m d x a)

    pub drawn_under : (s : SeatView Note B) (xs : List (Step Note)) (m : SeatView Note B) → Did s xs m → (y : ℕ) → Among y (all_drawn xs) → IsUnder m y
    drawn_under s xs m d y h x a =
        let w : Walked by_of time_of s xs m = walked by_of time_of s xs m d in
        a.drawn y (subst (Among y) (sym w.drawn) (among_right y s.drawn (all_drawn xs) h))

    pub written_under : (by line mine : ℕ) (ask : Ask) (answer : Answer) (s : SeatView Note B) (steps : List (Step Note)) (moment : ℕ) (m : SeatView Note B) → Did s (Lift moment ∷ steps) m
        → IsCall collection by line mine ask answer steps → IsUnder s mine → IsUnder m (write_or mine (written_of answer))
    written_under by line mine ask (answers.Wrote reply) s steps moment m d c u =
        drawn_under s (Lift moment ∷ steps) m d reply.ts.0
        (let f : count reply.ts.0 (drawn (answers.Wrote reply)) ≤ count reply.ts.0 (all_drawn steps) = drawn_few collection by line mine ask (answers.Wrote reply) steps c reply.ts.0 in
        let h : Among reply.ts.0 (reply.ts.0 ∷ []) = among_here reply.ts.0 [] in omega arith)
    written_under by line mine ask answer s steps moment m d c u = still_under s (Lift moment ∷ steps) m d mine u

    first_call : (mine : ℕ) (s : SeatView Note B) (line : Line) (m : SeatView Note B) (ys : List (Step Note)) (v : Serves collection least mine s line m) → IsUnder s mine
        → CallIn collection least s.number ((Lift v.moment ∷ v.steps) ++ ys) line
    first_call mine s line m ys v u =
        let w : Walked by_of time_of s (Lift v.moment ∷ v.steps) m = walked by_of time_of s (Lift v.moment ∷ v.steps) m v.did in
        let l : Walked by_of time_of (after s (Lift v.moment)) v.steps m = walked by_of time_of (after s (Lift v.moment)) v.steps m v.did.1 in
        record {
          mine = mine;
          request = v.request;
          steps = v.steps;
          asked = v.asked;
          call = v.call;
          inside = λ x h. inr (in_left x v.steps ys h);
          drew = λ x h. subst (Among x) (sym (all_drawn-append (Lift v.moment ∷ v.steps) ys)) (among_left x (all_drawn v.steps) (all_drawn ys) h);
          low = λ x h. u x (w.above x h);
          late = λ x h. let a : max s.least v.moment ≤ x = (l.above x h).least in let b : least ≤ v.moment = v.later in omega arith;
        }

    next_number : (s : SeatView Note B) (xs : List (Step Note)) (m : SeatView Note B) → Did s xs m → m.number ≡ s.number
    next_number s xs m d = (walked by_of time_of s xs m d).named

    -- the call of a line
    pub call_in : (mine : ℕ) (s : SeatView Note B) (lines : List Line) (e : SeatView Note B) (v : IsServed collection least mine s lines e) → IsUnder s mine
        → (line : Line) → IsIn line lines → CallIn collection least s.number (steps_of mine s lines e v) line
    call_in mine s [] e v u line h = absurd h
    call_in mine s (first ∷ lines) e v u line (inl p) =
        subst (CallIn collection least s.number (steps_of mine s (first ∷ lines) e v)) (sym p)
        (first_call mine s first v.0 (steps_of (write_or mine (written_of first.answer)) v.0 lines e v.2) v.1 u)
    call_in mine s (first ∷ lines) e v u line (inr h) =
        let rest : List (Step Note) = steps_of (write_or mine (written_of first.answer)) v.0 lines e v.2 in
        call_behind s.number (Lift v.1.moment ∷ v.1.steps) rest line
        (subst (λ (n : ℕ). CallIn collection least n rest line) (next_number s (Lift v.1.moment ∷ v.1.steps) v.0 v.1.did)
        (call_in (write_or mine (written_of first.answer)) v.0 lines e v.2 (written_under s.number first.number mine v.1.request.what first.answer s v.1.steps v.1.moment v.0 v.1.did v.1.call u) line h))

    pub note_of_line : (k mine : ℕ) (s : SeatView Note B) (lines : List Line) (e : SeatView Note B) (v : IsServed collection least mine s lines e) → IsUnder s mine
        → (note : Note) → IsIn note (all_notes k (steps_of mine s lines e v)) → OfLine s.number k (steps_of mine s lines e v) lines note
    unfolding first_call
    note_of_line k mine s [] e v u note h = absurd h
    note_of_line k mine s (first ∷ lines) e v u note h =
        let front : List (Step Note) = Lift v.1.moment ∷ v.1.steps in
        let rest : List (Step Note) = steps_of (write_or mine (written_of first.answer)) v.0 lines e v.2 in
        ⊎_elim
        (λ (l : IsIn note (all_notes k front)). record { line = first; among = inl refl; call = first_call mine s first v.0 rest v.1 u; noted = l })
        (λ (r : IsIn note (all_notes k rest)). of_later s.number k front rest first lines note
        (subst (λ (n : ℕ). OfLine n k rest lines note) (next_number s front v.0 v.1.did)
        (note_of_line k (write_or mine (written_of first.answer)) v.0 lines e v.2 (written_under s.number first.number mine v.1.request.what first.answer s v.1.steps v.1.moment v.0 v.1.did v.1.call u) note r)))
        (in_cases note (all_notes k front) (all_notes k rest) (subst (IsIn note) (all_notes-append k front rest) h))

    -- the numbers of the answers are among those that were drawn
    pub told_few : (mine : ℕ) (s : SeatView Note B) (lines : List Line) (e : SeatView Note B) (v : IsServed collection least mine s lines e) (x : ℕ)
        → count x (all_told lines) ≤ count x (all_drawn (steps_of mine s lines e v))
    told_few mine s [] e v x = omega arith
    told_few mine s (line ∷ lines) e v x =
        let rest : List (Step Note) = steps_of (write_or mine (written_of line.answer)) v.0 lines e v.2 in
        let a : count x (drawn line.answer ++ all_told lines) ≡ count x (drawn line.answer) + count x (all_told lines) = count-append x (drawn line.answer) (all_told lines) in
        let b : count x (all_drawn ((Lift v.1.moment ∷ v.1.steps) ++ rest)) ≡ count x (all_drawn v.1.steps ++ all_drawn rest) = ap (count x) (all_drawn-append (Lift v.1.moment ∷ v.1.steps) rest) in
        let c : count x (all_drawn v.1.steps ++ all_drawn rest) ≡ count x (all_drawn v.1.steps) + count x (all_drawn rest) = count-append x (all_drawn v.1.steps) (all_drawn rest) in
        let f : count x (drawn line.answer) ≤ count x (all_drawn v.1.steps) = drawn_few collection s.number line.number mine v.1.request.what line.answer v.1.steps v.1.call x in
        let g : count x (all_told lines) ≤ count x (all_drawn rest) = told_few (write_or mine (written_of line.answer)) v.0 lines e v.2 x in omega arith
