-- What the tails grew by: the events of the lines.
use Rattle.std.proofs.Common.{◌≡◌, ℕ, zero, suc, ◌+◌, ◌<◌, ◌≤◌, Bool, true, false, true≢false, cond, Some, None, List, [], ◌∷◌, ◌++◌, length, map, count_by, nat_eq, if◌then◌else◌, inl, inr, ⊎_elim, refl, sym, ap, subst, ◌∙◌, append-nil, arith, eqb-true, eq-eqb}
use Rattle.std.specs.List.{AllByRecursion as Each, filter, flat_map, zip}
use Rattle.std.specs.FinMap as fin
use mathlib.Core.Option.{some-injective, some-ne-none}
use Rattle.turn_facts.specs.Counts.{count}
use Rattle.turn_facts.specs.Prefixes.{StartsWith, IsAt}
use Rattle.turn_facts.proofs.Counts.{count-nil, count-append}
use Rattle.turn_table.specs.Knowledge.{at_slot}
use Rattle.seat_walks.specs.Walks.{Step}
use Rattle.hybrid_time.specs.declared.times.Timestamp.{Timestamp}
use Rattle.row_types.specs.declared.rows.Row.{Row}
use Rattle.log_model.specs.declared.logs.Write.{Write}
use Rattle.log_model.specs.declared.logs.Write.TheVariants as writes
use Rattle.log_model.specs.Logs.{key_of}
use Rattle.log_model.specs.Places.{Placed, placed}
use Rattle.coarse_lists.specs.declared.collections.Collection.{Collection}
use Rattle.answer_lines.specs.declared.answers.Wrote.{Wrote}
use Rattle.answer_lines.specs.declared.answers.Wrote.TheVariants.{Inserted, Exists}
use Rattle.answer_lines.specs.declared.answers.WriteReply.{WriteReply}
use Rattle.answer_lines.specs.declared.answers.Answer.{Answer}
use Rattle.answer_lines.specs.declared.answers.Answer.TheVariants as answers
use Rattle.request_lines.specs.declared.requests.Ask.{Ask}
use Rattle.request_lines.specs.declared.requests.Ask.TheVariants as asks
use Rattle.legal_output.specs.Lines.{Asked, Bad, Given, Finish, Line, channel_of, changes_in, changes_of, written_of, seals_of, drawn}
use Rattle.legal_output.specs.Printed.{Event, Adds, brings, event_if, write_event, seal_event, events_of, only_at, all_drawn as all_told}
use Rattle.legal_output.specs.Legal.{told_of}
use Rattle.legal_output.specs.Members.{Rises, GrewByEvents}
use Rattle.journal_model.specs.declared.notes.Kind.{Kind}
use Rattle.journal_model.specs.declared.notes.Kind.TheVariants.{Put, Remove, Seal}
use Rattle.journal_model.specs.declared.notes.Note.{Note}
use Rattle.journal_model.specs.Notes.{note_of, ts_of, live_in}
use Rattle.journal_model.specs.Lists.{IsIn}
use Rattle.journal_model.proofs.ListLaws.{in_left, in_right, in_cases, all_in, all_from, count-cons, count_none}
use Rattle.call_model.specs.Turns.{kind_of, stamp}
use Rattle.call_model.specs.Calls.{WritesOnce, SealsAll, IsCall}
use Rattle.phase_model.specs.Rests.{Rest, AreJournals}
use Rattle.phase_model.specs.Phases.{IsQuiet, IsRefused}
use Rattle.phase_order.proofs.Lines.{LineDone, NoteOf, PhaseDone, differ_once}
use Rattle.phase_logs.specs.Events.{rows_in, events_at, events_from}
use Rattle.phase_logs.proofs.Growing.{events_from-append, events_dated, events_all}
use Rattle.phase_logs.proofs.Lists.{From, out_flat, in_flat, flat_few}
use Rattle.phase_logs.proofs.Standing.{Stood, stood_new}
use Rattle.phase_logs.proofs.Replies.{write_stood}
use Rattle.phase_logs.proofs.Origins.{FromWrite, FromSeal, Origin, Quiet, Written, Sealed, origin}
use Rattle.phase_logs.proofs.Entries.{call_writes}
use Rattle.phase_logs.proofs.Strict.{Strict, kind_ts, strict}
use Rattle.phase_logs.proofs.SealTurns.{SealAt, seal_stood}

-- ---- order

rises_kind : (before : List Note) (kind : Kind) (rest : List Event) → ((s : ℕ) → ts_of kind ≡ Some s → Each (λ e. s < e.ts) rest) → Rises (λ e. e.ts) rest → Rises (λ e. e.ts) (events_at before kind ++ rest)
rises_kind before (Put ts how row) rest f r = (f ts.0 refl, r)
rises_kind before (Remove ts key) rest f r = (f ts.0 refl, r)
rises_kind before (Seal ts) rest f r = (f ts.0 refl, r)
rises_kind before kind rest f r = r

rises_events : (before notes : List Note) → Strict notes → Rises (λ e. e.ts) (events_from before notes)
rises_events before [] s = tt
rises_events before (note ∷ notes) s =
    rises_kind before note.kind (events_from (before ++ note ∷ []) notes) (λ t dated. events_all (λ n. t < n) (before ++ note ∷ []) notes (s.0 t dated)) (rises_events (before ++ note ∷ []) notes s.1)

apart_ts : (m n : ℕ) → m < n → m ≡ n → ⊥
apart_ts m n low same = omega arith

one_at_ts : (xs : List Event) (x y : Event) → Rises (λ e. e.ts) xs → IsIn x xs → IsIn y xs → x.ts ≡ y.ts → x ≡ y
one_at_ts [] x y r h g same = absurd h
one_at_ts (z ∷ xs) x y r (inl p) (inl q) same = p ∙ sym q
one_at_ts (z ∷ xs) x y r (inl p) (inr g) same = absurd (apart_ts z.ts y.ts (all_in (λ e. z.ts < e.ts) xs y r.0 g) (sym (ap (λ (e : Event). e.ts) p) ∙ same))
one_at_ts (z ∷ xs) x y r (inr h) (inl q) same = absurd (apart_ts z.ts x.ts (all_in (λ e. z.ts < e.ts) xs x r.0 h) (sym (ap (λ (e : Event). e.ts) q) ∙ sym same))
one_at_ts (z ∷ xs) x y r (inr h) (inr g) same = one_at_ts xs x y r.1 h g same

-- ---- the event of a note

pub record EventOf (notes : List Note) (e : Event) : Type 0 where
  pub note : Note
  pub among : IsIn note notes
  pub before : List Note
  pub here : IsIn e (events_at before note.kind)

event_of : (before notes : List Note) (e : Event) → IsIn e (events_from before notes) → EventOf notes e
event_of before [] e h = absurd h
event_of before (note ∷ notes) e h = ⊎_elim
    (λ (l : IsIn e (events_at before note.kind)). record { note = note; among = inl refl; before = before; here = l })
    (λ (r : IsIn e (events_from (before ++ note ∷ []) notes)). let o : EventOf notes e = event_of (before ++ note ∷ []) notes e r in record { note = o.note; among = inr o.among; before = o.before; here = o.here })
    (in_cases e (events_at before note.kind) (events_from (before ++ note ∷ []) notes) h)

quiet_events : (before : List Note) (kind : Kind) → IsQuiet kind → events_at before kind ≡ []
quiet_events before (Put ts how row) q = absurd q
quiet_events before (Remove ts key) q = absurd q
quiet_events before (Seal ts) q = absurd q
quiet_events before kind q = refl

event_ts : (before : List Note) (kind : Kind) (e : Event) (t : ℕ) → ts_of kind ≡ Some t → IsIn e (events_at before kind) → e.ts ≡ t
event_ts before kind e t dated h = all_in (λ (x : Event). x.ts ≡ t) (events_at before kind) e (events_dated (λ n. n ≡ t) before kind (λ s is. (let q : Some s ≡ Some t = sym is ∙ dated in let q' : s ≡ t = cc in q'))) h

stood_event : (old new before : List Note) (note : Note) (grown : StartsWith new old) (s : Stood old new before note) (e : Event) → IsIn e (events_at before note.kind) → IsIn e (events_from old grown.rest)
stood_event old new before note grown s e h =
    subst (λ (l : List Note). IsIn e (events_from old l)) (sym (stood_new old new before note grown s))
    (subst (IsIn e) (sym (events_from-append old s.older.rest (note ∷ s.rest)))
    (in_right e (events_from old s.older.rest) (events_from (old ++ s.older.rest) (note ∷ s.rest))
    (in_left e (events_at (old ++ s.older.rest) note.kind) (events_from ((old ++ s.older.rest) ++ note ∷ []) s.rest)
    (subst (λ (l : List Note). IsIn e (events_at l note.kind)) s.older.is h))))

-- ---- the event of a write

abbrev pub the_event : ℕ → Write → Wrote → Event
the_event ts write what = record { ts = ts; deed = Adds (count_by (λ (change : Write × Wrote). brings change.0 change.1) ((write, what) ∷ [])) }

one_count : (write : Write) (what : Wrote) → count_by (λ (change : Write × Wrote). brings change.0 change.1) ((write, what) ∷ []) ≡ cond (brings write what) 1 0
one_count write what =
    let c : count_by (λ (change : Write × Wrote). brings change.0 change.1) ((write, what) ∷ []) ≡ cond (brings write what) 1 0 + count_by (λ (change : Write × Wrote). brings change.0 change.1) [] = count-cons (λ (change : Write × Wrote). brings change.0 change.1) (write, what) [] in
    let z : count_by (λ (change : Write × Wrote). brings change.0 change.1) [] ≡ 0 = count_none (λ (change : Write × Wrote). brings change.0 change.1) [] (λ x h. absurd h) in omega arith

insert_rows : (b : Bool) (x : Placed) (row : Row) → rows_in (if b then None else Some x) ≡ cond (brings (writes.Insert row) (cond b Exists Inserted)) 1 0
insert_rows true x row = refl
insert_rows false x row = refl

write_rows : (before : List Note) (ts : Timestamp) (write : Write) → events_at before (kind_of ts write) ≡ record { ts = ts.0; deed = Adds (cond (brings write (told_of write (fin.contains_key (live_in before) (key_of write)))) 1 0) } ∷ []
write_rows before ts (writes.Insert row) =
    ap (λ (n : ℕ). record { ts = ts.0; deed = Adds n } ∷ []) (insert_rows (fin.contains_key (live_in before) row.key.0) (placed (length before) ts.0 row) row)
write_rows before ts (writes.Upsert row) = refl
write_rows before ts (writes.Delete key) = refl

write_events : (before : List Note) (ts : Timestamp) (write : Write) (what : Wrote) → what ≡ told_of write (fin.contains_key (live_in before) (key_of write)) → events_at before (kind_of ts write) ≡ the_event ts.0 write what ∷ []
write_events before ts write what is =
    write_rows before ts write ∙ ap (λ (w : Wrote). record { ts = ts.0; deed = Adds (cond (brings write w) 1 0) } ∷ []) (sym is)
    ∙ ap (λ (n : ℕ). record { ts = ts.0; deed = Adds n } ∷ []) (sym (one_count write what))

-- ---- the events of a line

written_here : (ts k : ℕ) (write : Write) (what : Wrote) (home : ℕ) (b : Bool) → nat_eq home k ≡ b → home ≡ k → IsIn (the_event ts write what) (event_if ts (cond b ((write, what) ∷ []) []))
written_here ts k write what home true is same = inl refl
written_here ts k write what home false is same = absurd (true≢false (sym (eq-eqb home k same) ∙ is))

written_out : (ts k : ℕ) (write : Write) (what : Wrote) (home : ℕ) (b : Bool) (e : Event) → nat_eq home k ≡ b → IsIn e (event_if ts (cond b ((write, what) ∷ []) [])) → (home ≡ k) × (e ≡ the_event ts write what)
written_out ts k write what home true e is (inl p) = (eqb-true home k is, p)
written_out ts k write what home true e is (inr h) = absurd h
written_out ts k write what home false e is h = absurd h

-- an event of a line: of its write, or of its seal
pub data LineEvent (channels k : ℕ) (ask : Ask) (answer : Answer) (e : Event) : Type 0 where
  OfWrite : (write : Write) (said : WriteReply) → ask ≡ asks.Write write → answer ≡ answers.Wrote said → channel_of channels (key_of write) ≡ k → e ≡ the_event said.ts.0 write said.what → LineEvent channels k ask answer e
  OfSeal : (seals : List (Timestamp × ℕ)) (seal : Timestamp × ℕ) → answer ≡ answers.Sealed seals → IsAt seals k seal → e ≡ seal_event seal → LineEvent channels k ask answer e

only_out : (seals : List (Timestamp × ℕ)) (k : ℕ) (e : Event) → IsIn e (map seal_event (only_at seals k)) → (seal : Timestamp × ℕ) × IsAt seals k seal × (e ≡ seal_event seal)
only_out [] k e h = absurd h
only_out (seal ∷ seals) zero e (inl p) = (seal, refl, p)
only_out (seal ∷ seals) zero e (inr h) = absurd h
only_out (seal ∷ seals) (suc k) e h = only_out seals k e h

only_in : (seals : List (Timestamp × ℕ)) (k : ℕ) (seal : Timestamp × ℕ) → IsAt seals k seal → IsIn (seal_event seal) (map seal_event (only_at seals k))
only_in [] k seal at = absurd (some-ne-none seal (sym at))
only_in (first ∷ seals) zero seal at = inl (ap seal_event (sym (some-injective first seal at)))
only_in (first ∷ seals) (suc k) seal at = only_in seals k seal at

-- the events of a line that changes `changes`
abbrev events_with : ℕ → ℕ → List Write → Answer → List Event
events_with channels k changes answer = write_event channels k changes (written_of answer) ++ map seal_event (only_at (seals_of answer) k)

line_event : (channels k : ℕ) (ask : Ask) (answer : Answer) (e : Event) → IsIn e (events_with channels k (changes_in ask) answer) → LineEvent channels k ask answer e
line_event channels k (asks.Write write) (answers.Wrote said) e h =
    let at : IsIn e (event_if said.ts.0 (cond (nat_eq (channel_of channels (key_of write)) k) ((write, said.what) ∷ []) [])) = subst (IsIn e) (append-nil (event_if said.ts.0 (cond (nat_eq (channel_of channels (key_of write)) k) ((write, said.what) ∷ []) []))) h in
    let o = written_out said.ts.0 k write said.what (channel_of channels (key_of write)) (nat_eq (channel_of channels (key_of write)) k) e refl at in
    OfWrite write said refl refl o.0 o.1
line_event channels k ask (answers.Sealed seals) e h = let o = only_out seals k e h in OfSeal seals o.0 refl o.1 o.2
line_event channels k (asks.Search query level wait) (answers.Wrote said) e h = absurd h
line_event channels k (asks.Get key level wait) (answers.Wrote said) e h = absurd h
line_event channels k asks.Tick (answers.Wrote said) e h = absurd h
line_event channels k asks.Seal (answers.Wrote said) e h = absurd h
line_event channels k asks.Meet (answers.Wrote said) e h = absurd h
line_event channels k ask answer e h = absurd h

refused_event : (channels k : ℕ) (asked : Asked) (answer : Answer) (e : Event) → IsRefused asked answer → IsIn e (events_with channels k (changes_of asked) answer) → ⊥
refused_event channels k (Bad reason) answer e is h = subst (λ (a : Answer). IsIn e (events_with channels k [] a)) is h
refused_event channels k (Given request) answer e is h = is
refused_event channels k Finish answer e is h = is

-- at most the numbers of its answer
event_few : (n ts : ℕ) (pairs : List (Write × Wrote)) → count n (map (λ (e : Event). e.ts) (event_if ts pairs ++ [])) ≤ count n (ts ∷ [])
event_few n ts [] = let z : count n [] ≡ 0 = count-nil n in omega arith
event_few n ts (pair ∷ pairs) = omega arith

only_few : (n : ℕ) (seals : List (Timestamp × ℕ)) (k : ℕ) → count n (map (λ (e : Event). e.ts) (map seal_event (only_at seals k))) ≤ count n (map (λ (seal : Timestamp × ℕ). seal.0.0) seals)
only_few n [] k = omega arith
only_few n (seal ∷ seals) zero =
    let c : count n (seal.0.0 ∷ map (λ (s : Timestamp × ℕ). s.0.0) seals) ≡ count n (seal.0.0 ∷ []) + count n (map (λ (s : Timestamp × ℕ). s.0.0) seals) = count-append n (seal.0.0 ∷ []) (map (λ (s : Timestamp × ℕ). s.0.0) seals) in omega arith
only_few n (seal ∷ seals) (suc k) =
    let c : count n (seal.0.0 ∷ map (λ (s : Timestamp × ℕ). s.0.0) seals) ≡ count n (seal.0.0 ∷ []) + count n (map (λ (s : Timestamp × ℕ). s.0.0) seals) = count-append n (seal.0.0 ∷ []) (map (λ (s : Timestamp × ℕ). s.0.0) seals) in
    let r : count n (map (λ (e : Event). e.ts) (map seal_event (only_at seals k))) ≤ count n (map (λ (s : Timestamp × ℕ). s.0.0) seals) = only_few n seals k in omega arith

events_few : (n channels k : ℕ) (changes : List Write) (answer : Answer) → count n (map (λ (e : Event). e.ts) (events_with channels k changes answer)) ≤ count n (drawn answer)
events_few n channels k changes (answers.Wrote said) = event_few n said.ts.0 (filter (λ (change : Write × Wrote). nat_eq (channel_of channels (key_of change.0)) k) (zip changes (said.what ∷ [])))
events_few n channels k changes (answers.Sealed seals) = only_few n seals k
events_few n channels k changes answer = let z : count n [] ≡ 0 = count-nil n in omega arith

-- ---- what the tails grew by

call_seals : (collection : Collection) (by line mine : ℕ) (ask : Ask) (answer : Answer) (steps : List (Step Note)) (seals : List (Timestamp × ℕ)) → IsCall collection by line mine ask answer steps → answer ≡ answers.Sealed seals → SealsAll collection by line seals steps
call_seals collection by line mine ask answer steps seals c told = seals_call ask (subst (λ (a : Answer). IsCall collection by line mine ask a steps) told c)
  where
    seals_call : (ask : Ask) → IsCall collection by line mine ask (answers.Sealed seals) steps → SealsAll collection by line seals steps
    seals_call asks.Seal c = c
    seals_call ask c = absurd c

module _ (collection : Collection) (least : ℕ) (old new : Rest) (block : List Line) (done : PhaseDone collection least old new block) (next : AreJournals collection new) (k : ℕ) where
  abbrev pub events_more : List Event
  events_more = events_from (at_slot old.journals k) (done.grown k).rest

  abbrev told : List Event
  told = flat_map (events_of collection.channels k) block

  rises_more : Rises (λ e. e.ts) events_more
  rises_more = rises_events (at_slot old.journals k) (done.grown k).rest (strict collection least old new block done next k)

  write_there : (line : Line) (d : LineDone collection least old new line) (write : Write) (said : WriteReply) → d.request.what ≡ asks.Write write → line.answer ≡ answers.Wrote said
      → channel_of collection.channels (key_of write) ≡ k → IsIn (the_event said.ts.0 write said.what) events_more
  write_there line d write said is answer home =
      let c : WritesOnce collection d.by line.number write said d.steps = call_writes collection d.by line.number d.mine d.request.what line.answer d.steps write said d.call is answer in
      let note : Note = note_of d.by line.number (kind_of said.ts write) in
      let s : Stood (at_slot old.journals k) (at_slot new.journals k) c.turn.before note =
      subst (λ (j : ℕ). Stood (at_slot old.journals j) (at_slot new.journals j) c.turn.before note) home (write_stood collection old.journals new.journals d.by line.number write said d.steps d.settled c) in
      stood_event (at_slot old.journals k) (at_slot new.journals k) c.turn.before note (done.grown k) s (the_event said.ts.0 write said.what)
      (subst (IsIn (the_event said.ts.0 write said.what)) (sym (write_events c.turn.before said.ts write said.what c.writes.told)) (inl refl))

  seal_there : (line : Line) (d : LineDone collection least old new line) (seals : List (Timestamp × ℕ)) (seal : Timestamp × ℕ) → line.answer ≡ answers.Sealed seals → IsAt seals k seal → IsIn (seal_event seal) events_more
  seal_there line d seals seal answer at =
      let c : SealsAll collection d.by line.number seals d.steps = call_seals collection d.by line.number d.mine d.request.what line.answer d.steps seals d.call answer in
      let s : SealAt collection old.journals new.journals d.by line.number k seal = seal_stood collection old.journals new.journals d.by line.number seals d.steps d.settled c k seal at in
      stood_event (at_slot old.journals k) (at_slot new.journals k) s.before (note_of d.by line.number (Seal (stamp seal.0.0))) (done.grown k) s.stood (seal_event seal) (inl refl)

  event_there : (line : Line) (d : LineDone collection least old new line) (e : Event) → LineEvent collection.channels k d.request.what line.answer e → IsIn e events_more
  event_there line d e (OfWrite write said is answer home same) = subst (λ (x : Event). IsIn x events_more) (sym same) (write_there line d write said is answer home)
  event_there line d e (OfSeal seals seal answer at same) = subst (λ (x : Event). IsIn x events_more) (sym same) (seal_there line d seals seal answer at)

  event_written : (e : Event) → IsIn e told → IsIn e events_more
  event_written e h =
      let f : From (events_of collection.channels k) block e = out_flat (events_of collection.channels k) block e h in
      ⊎_elim (λ (refused : IsRefused f.item.asked f.item.answer). absurd (refused_event collection.channels k f.item.asked f.item.answer e refused f.here))
      (λ (d : LineDone collection least old new f.item).
      event_there f.item d e (line_event collection.channels k d.request.what f.item.answer e (subst (λ (changes : List Write). IsIn e (events_with collection.channels k changes f.item.answer)) (ap changes_of d.asked) f.here)))
      (done.lines f.item f.among)

  -- an event of the lines at the timestamp of a note
  told_write : (note : Note) (n : NoteOf collection least old new block k note) (w : FromWrite collection n.done.by n.line.number k n.done.request.what n.line.answer note) → IsIn (the_event w.said.ts.0 w.write w.said.what) told
  told_write note n w =
      in_flat (events_of collection.channels k) block n.line (the_event w.said.ts.0 w.write w.said.what) n.among
      (subst (λ (a : Answer). IsIn (the_event w.said.ts.0 w.write w.said.what) (events_with collection.channels k (changes_of n.line.asked) a)) (sym w.told)
      (subst (λ (changes : List Write). IsIn (the_event w.said.ts.0 w.write w.said.what) (events_with collection.channels k changes (answers.Wrote w.said))) (sym (ap changes_of n.done.asked ∙ ap changes_in w.asked))
      (in_left (the_event w.said.ts.0 w.write w.said.what) (event_if w.said.ts.0 (cond (nat_eq (channel_of collection.channels (key_of w.write)) k) ((w.write, w.said.what) ∷ []) [])) []
      (written_here w.said.ts.0 k w.write w.said.what (channel_of collection.channels (key_of w.write)) (nat_eq (channel_of collection.channels (key_of w.write)) k) refl w.home))))

  told_seal : (note : Note) (n : NoteOf collection least old new block k note) (s : FromSeal n.done.by n.line.number k n.done.request.what n.line.answer note) → IsIn (seal_event s.seal) told
  told_seal note n s =
      in_flat (events_of collection.channels k) block n.line (seal_event s.seal) n.among
      (subst (λ (a : Answer). IsIn (seal_event s.seal) (events_with collection.channels k (changes_of n.line.asked) a)) (sym s.told)
      (in_right (seal_event s.seal) (write_event collection.channels k (changes_of n.line.asked) None) (map seal_event (only_at s.seals k)) (only_in s.seals k s.seal s.there)))

  same_event : (e other : Event) → IsIn e events_more → IsIn other told → e.ts ≡ other.ts → IsIn e told
  same_event e other h g same = subst (λ (x : Event). IsIn x told) (sym (one_at_ts events_more e other rises_more h (event_written other g) same)) g

  event_noted : (e : Event) → IsIn e events_more → IsIn e told
  event_noted e h = from_note (event_of (at_slot old.journals k) (done.grown k).rest e h)
    where
      from_origin : (o : EventOf (done.grown k).rest e) (n : NoteOf collection least old new block k o.note) → Origin collection n.done.by n.line.number k n.done.request.what n.line.answer o.note → IsIn e told
      from_origin o n (Quiet quiet) = absurd (subst (IsIn e) (quiet_events o.before o.note.kind quiet) o.here)
      from_origin o n (Written w) =
          same_event e (the_event w.said.ts.0 w.write w.said.what) h (told_write o.note n w)
          (event_ts o.before o.note.kind e w.said.ts.0 (ap (λ (x : Note). ts_of x.kind) w.is ∙ kind_ts w.said.ts w.write) o.here)
      from_origin o n (Sealed s) = same_event e (seal_event s.seal) h (told_seal o.note n s) (event_ts o.before o.note.kind e s.seal.0.0 (ap (λ (x : Note). ts_of x.kind) s.is) o.here)

      from_note : EventOf (done.grown k).rest e → IsIn e told
      from_note o = ⊎_elim (λ (quiet : IsQuiet o.note.kind). absurd (subst (IsIn e) (quiet_events o.before o.note.kind quiet) o.here))
          (λ (n : NoteOf collection least old new block k o.note). from_origin o n (origin collection n.done.by n.line.number n.done.mine k n.done.request.what n.line.answer n.done.steps o.note n.done.call n.noted))
          (done.notes k o.note o.among)

  pub grew_by_events : GrewByEvents events_more told
  grew_by_events = record {
    rises = rises_more;
    differ = differ_once (map (λ (e : Event). e.ts) told) (λ n.
        let a : count n (map (λ (e : Event). e.ts) told) ≤ count n (all_told block) =
        flat_few (events_of collection.channels k) (λ (line : Line). drawn line.answer) (λ (e : Event). e.ts) n (λ line. events_few n collection.channels k (changes_of line.asked) line.answer) block in
        let b : count n (all_told block) ≤ 1 = done.once n in omega arith);
    noted = all_from (λ e. IsIn e told) events_more event_noted;
    written = all_from (λ e. IsIn e events_more) told event_written;
  }
