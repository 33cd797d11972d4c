-- The tail that events leave is that of the journal's layout, and of its boundaries no more wait than there were.
use Rattle.std.proofs.Common.{◌≡◌, ℕ, zero, suc, ◌+◌, ◌<◌, ◌≤◌, Bool, true, false, true≢false, cond, not, ◌||◌, Option, Some, None, List, [], ◌∷◌, ◌++◌, length, nat_eq, nat_le, nat_lt, if◌then◌else◌, refl, sym, ap, subst, ◌∙◌, append-nil, arith, length-append, eqb-true, eq-eqb, leb-true, le-leb}
use Rattle.std.specs.List.{filter, list_any}
use Rattle.log_model.specs.Places.{Placed}
use Rattle.legal_output.specs.Printed.{Tail, Adds, add_row, seal_tail, after_events, walk}
use Rattle.journal_model.specs.declared.notes.Home.{Home}
use Rattle.journal_model.specs.declared.notes.Home.TheVariants.{Leader, Node}
use Rattle.journal_model.specs.declared.notes.Kind.{Kind}
use Rattle.journal_model.specs.declared.notes.Kind.TheVariants.{Put, Remove, Tick, Seal, Look, Number, Load, Release, Lists, Merge}
use Rattle.journal_model.specs.declared.notes.Note.{Note}
use Rattle.journal_model.specs.Puts.{effective_put}
use Rattle.journal_model.specs.Layouts.{Channel, Layout, Segment, BegunMerge, after_boundary, waiting_segment, number_at, with_tail, with_row, is_home, homes_after_load, homes_after_release, with_homes, rehome, is_among, others_in, begun_merge, merged_piece, with_segment, with_merged, layout_after, layout_of}
use Rattle.journal_model.specs.Lawful.{is_lawful, IsLawful}
use Rattle.journal_model.specs.Counts.{is_waiting, waiting_in}
use Rattle.journal_model.proofs.WalkLaws.{by_each}
use Rattle.journal_model.proofs.LayoutLaws.{layout-snoc}
use Rattle.journal_model.proofs.SizeLaws.{sizes}
use Rattle.phase_logs.specs.Events.{rows_in, events_at, events_in}
use Rattle.phase_logs.proofs.Growing.{events_from-append, after_events-append}

-- ---- how many segments wait

abbrev waiting : List Segment → ℕ
waiting segments = length (waiting_in segments)

kept_length : (s : Segment) (segments : List Segment) (b : Bool) → length (cond b (s ∷ segments) segments) ≡ cond b 1 0 + length segments
kept_length s segments true = omega arith
kept_length s segments false = omega arith

waiting-cons : (s : Segment) (segments : List Segment) → waiting (s ∷ segments) ≡ cond (is_waiting s) 1 0 + waiting segments
waiting-cons s segments = kept_length s (waiting_in segments) (is_waiting s)

waiting_push : (segments : List Segment) (s : Segment) → waiting (segments ++ s ∷ []) ≤ waiting segments + 1
waiting_push [] s = let c : waiting (s ∷ []) ≡ cond (is_waiting s) 1 0 + waiting [] = waiting-cons s [] in let b : cond (is_waiting s) 1 0 ≤ 1 = bit_small (is_waiting s) in omega arith
  where
    bit_small : (b : Bool) → cond b 1 0 ≤ 1
    bit_small true = omega arith
    bit_small false = omega arith
waiting_push (first ∷ segments) s =
    let c : waiting ((first ∷ segments) ++ s ∷ []) ≡ cond (is_waiting first) 1 0 + waiting (segments ++ s ∷ []) = waiting-cons first (segments ++ s ∷ []) in
    let d : waiting (first ∷ segments) ≡ cond (is_waiting first) 1 0 + waiting segments = waiting-cons first segments in
    let r : waiting (segments ++ s ∷ []) ≤ waiting segments + 1 = waiting_push segments s in omega arith

bit_le : (a b : Bool) → (a ≡ true → b ≡ true) → cond a 1 0 ≤ cond b 1 0
bit_le true true f = omega arith
bit_le true false f = absurd (true≢false (sym (f refl)))
bit_le false true f = omega arith
bit_le false false f = omega arith

rehome_one : (change : List Home → List Home) → ((homes : List Home) → list_any (is_home Leader) (change homes) ≡ true → list_any (is_home Leader) homes ≡ true) → (s : Segment) (others changed : List Segment) (b : Bool) → waiting changed ≤ waiting others
    → waiting (if b then with_homes change s ∷ others else s ∷ changed) ≤ waiting (s ∷ others)
rehome_one change f s others changed true low =
    let c : waiting (with_homes change s ∷ others) ≡ cond (is_waiting (with_homes change s)) 1 0 + waiting others = waiting-cons (with_homes change s) others in
    let d : waiting (s ∷ others) ≡ cond (is_waiting s) 1 0 + waiting others = waiting-cons s others in
    let e : cond (is_waiting (with_homes change s)) 1 0 ≤ cond (is_waiting s) 1 0 = bit_le (is_waiting (with_homes change s)) (is_waiting s) (f s.homes) in omega arith
rehome_one change f s others changed false low =
    let c : waiting (s ∷ changed) ≡ cond (is_waiting s) 1 0 + waiting changed = waiting-cons s changed in
    let d : waiting (s ∷ others) ≡ cond (is_waiting s) 1 0 + waiting others = waiting-cons s others in omega arith

rehome_few : (number : ℕ) (change : List Home → List Home) → ((homes : List Home) → list_any (is_home Leader) (change homes) ≡ true → list_any (is_home Leader) homes ≡ true) → (segments : List Segment)
    → waiting (rehome number change segments) ≤ waiting segments
rehome_few number change f [] = omega arith
rehome_few number change f (s ∷ segments) = rehome_one change f s segments (rehome number change segments) (nat_eq s.number number) (rehome_few number change f segments)

any_kept : (p : Home → Bool) (home : Home) (kept homes : List Home) (b : Bool) → (list_any (is_home Leader) kept ≡ true → list_any (is_home Leader) homes ≡ true) → list_any (is_home Leader) (cond b (home ∷ kept) kept) ≡ true
    → (is_home Leader home || list_any (is_home Leader) homes) ≡ true
any_kept p Leader kept homes b f h = refl
any_kept p (Node node) kept homes true f h = f h
any_kept p (Node node) kept homes false f h = f h

any_filter : (p : Home → Bool) (homes : List Home) → list_any (is_home Leader) (filter p homes) ≡ true → list_any (is_home Leader) homes ≡ true
any_filter p [] h = h
any_filter p (home ∷ homes) h = any_kept p home (filter p homes) homes (p home) (any_filter p homes) h

no_leader : (homes : List Home) (node : ℕ) → list_any (is_home Leader) (homes_after_load node homes) ≡ false
no_leader [] node = refl
no_leader (Leader ∷ homes) node = no_leader homes node
no_leader (Node other ∷ homes) node = no_leader homes node

load_few : (node : ℕ) (homes : List Home) → list_any (is_home Leader) (homes_after_load node homes) ≡ true → list_any (is_home Leader) homes ≡ true
load_few node homes h = absurd (true≢false (sym h ∙ no_leader homes node))

others_one : (s : Segment) (kept segments : List Segment) (b : Bool) → waiting kept ≤ waiting segments → waiting (cond b (s ∷ kept) kept) ≤ waiting (s ∷ segments)
others_one s kept segments true low =
    let c : waiting (s ∷ kept) ≡ cond (is_waiting s) 1 0 + waiting kept = waiting-cons s kept in
    let d : waiting (s ∷ segments) ≡ cond (is_waiting s) 1 0 + waiting segments = waiting-cons s segments in omega arith
others_one s kept segments false low = let d : waiting (s ∷ segments) ≡ cond (is_waiting s) 1 0 + waiting segments = waiting-cons s segments in omega arith

others_few : (numbers : List ℕ) (segments : List Segment) → waiting (others_in numbers segments) ≤ waiting segments
others_few numbers [] = omega arith
others_few numbers (s ∷ segments) = others_one s (others_in numbers segments) segments (not (is_among numbers s)) (others_few numbers segments)

no_bit : (b : Bool) → b ≡ false → cond b 1 0 ≤ 0
no_bit true is = absurd (true≢false is)
no_bit false is = omega arith

place_one : (s other : Segment) (others placed : List Segment) (b : Bool) → is_waiting s ≡ false → waiting placed ≡ waiting others → waiting (if b then s ∷ other ∷ others else other ∷ placed) ≡ waiting (other ∷ others)
place_one s other others placed true is same =
    let c : waiting (s ∷ other ∷ others) ≡ cond (is_waiting s) 1 0 + waiting (other ∷ others) = waiting-cons s (other ∷ others) in
    let z : cond (is_waiting s) 1 0 ≤ 0 = no_bit (is_waiting s) is in omega arith
place_one s other others placed false is same =
    let c : waiting (other ∷ placed) ≡ cond (is_waiting other) 1 0 + waiting placed = waiting-cons other placed in
    let d : waiting (other ∷ others) ≡ cond (is_waiting other) 1 0 + waiting others = waiting-cons other others in omega arith

placed_same : (s : Segment) (others : List Segment) → is_waiting s ≡ false → waiting (with_segment s others) ≡ waiting others
placed_same s [] is = let c : waiting (s ∷ []) ≡ cond (is_waiting s) 1 0 + waiting [] = waiting-cons s [] in let z : cond (is_waiting s) 1 0 ≤ 0 = no_bit (is_waiting s) is in omega arith
placed_same s (other ∷ others) is = place_one s other others (with_segment s others) (nat_lt s.number other.number) is (placed_same s others is)

merged_same : (before : List Note) (layout : Layout) (sources : List ℕ) (node : ℕ) (o : Option BegunMerge) (others : List Segment) → waiting (with_merged before layout sources node o others) ≡ waiting others
merged_same before layout sources node None others = refl
merged_same before layout sources node (Some b) others = placed_same (record { number = b.number; piece = merged_piece before layout sources b; homes = Node node ∷ [] }) others refl

-- ---- the tail, note by note

pub record TailOf (layout : Layout) (tail : Tail) : Type 0 where
  pub rows : tail.rows ≡ length layout.tail
  pub waits : length (waiting_in layout.segments) ≤ tail.segments

module _ (channel : Channel) (some : 0 < channel.seal_rows) where
  closed : (layout : Layout) (rows : List Placed) (tail : Tail) → TailOf layout tail → TailOf (after_boundary channel layout rows) (record { rows = 0; segments = tail.segments + 1 })
  closed layout rows tail t = record {
    rows = refl;
    waits = let p : waiting (layout.segments ++ waiting_segment (number_at channel layout.taken) rows ∷ []) ≤ waiting layout.segments + 1 = waiting_push layout.segments (waiting_segment (number_at channel layout.taken) rows) in
        let w : waiting layout.segments ≤ tail.segments = t.waits in omega arith;
  }

  grown_by : (layout : Layout) (x : Placed) (tail : Tail) → TailOf layout tail → length layout.tail < channel.seal_rows → (b : Bool) → nat_eq (length (layout.tail ++ x ∷ [])) channel.seal_rows ≡ b
      → TailOf (if b then after_boundary channel layout (layout.tail ++ x ∷ []) else with_tail layout (layout.tail ++ x ∷ [])) (add_row channel.seal_rows tail)
  grown_by layout x tail t short true is =
      let n : length (layout.tail ++ x ∷ []) ≡ channel.seal_rows = eqb-true (length (layout.tail ++ x ∷ [])) channel.seal_rows is in
      let m : length (layout.tail ++ x ∷ []) ≡ length layout.tail + 1 = length-append layout.tail (x ∷ []) in
      let r : tail.rows ≡ length layout.tail = t.rows in
      let full : channel.seal_rows ≤ tail.rows + 1 = omega arith in
      subst (λ (b : Bool). TailOf (after_boundary channel layout (layout.tail ++ x ∷ [])) (if b then record { rows = 0; segments = tail.segments + 1 } else record { rows = tail.rows + 1; segments = tail.segments })) (sym (le-leb channel.seal_rows (tail.rows + 1) full))
      (closed layout (layout.tail ++ x ∷ []) tail t)
  grown_by layout x tail t short false is =
      let m : length (layout.tail ++ x ∷ []) ≡ length layout.tail + 1 = length-append layout.tail (x ∷ []) in
      let r : tail.rows ≡ length layout.tail = t.rows in
      not_full (nat_le channel.seal_rows (tail.rows + 1)) refl
    where
      not_full : (b : Bool) → nat_le channel.seal_rows (tail.rows + 1) ≡ b
          → TailOf (with_tail layout (layout.tail ++ x ∷ [])) (if b then record { rows = 0; segments = tail.segments + 1 } else record { rows = tail.rows + 1; segments = tail.segments })
      not_full true full =
          let f : channel.seal_rows ≤ tail.rows + 1 = leb-true channel.seal_rows (tail.rows + 1) full in
          let m : length (layout.tail ++ x ∷ []) ≡ length layout.tail + 1 = length-append layout.tail (x ∷ []) in
          let r : tail.rows ≡ length layout.tail = t.rows in
          let same : length (layout.tail ++ x ∷ []) ≡ channel.seal_rows = omega arith in
          absurd (true≢false (sym (eq-eqb (length (layout.tail ++ x ∷ [])) channel.seal_rows same) ∙ is))
      not_full false full = record { rows = let m : length (layout.tail ++ x ∷ []) ≡ length layout.tail + 1 = length-append layout.tail (x ∷ []) in let r : tail.rows ≡ length layout.tail = t.rows in omega arith; waits = t.waits }

  put_tail : (layout : Layout) (o : Option Placed) (ts : ℕ) (tail : Tail) → TailOf layout tail → length layout.tail < channel.seal_rows → TailOf (with_row channel layout o) (after_events channel.seal_rows tail (record { ts = ts; deed = Adds (rows_in o) } ∷ []))
  put_tail layout None ts tail t short = t
  put_tail layout (Some x) ts tail t short = grown_by layout x tail t short (nat_eq (length (layout.tail ++ x ∷ [])) channel.seal_rows) refl

  sealed_by : (layout : Layout) (tail : Tail) → TailOf layout tail → (rows : ℕ) → tail.rows ≡ rows → (b : Bool) → nat_eq (length layout.tail) 0 ≡ b → TailOf (if b then layout else after_boundary channel layout layout.tail) (seal_tail rows tail.segments)
  sealed_by layout tail t zero is true none = record { rows = let n : length layout.tail ≡ 0 = eqb-true (length layout.tail) 0 none in omega arith; waits = t.waits }
  sealed_by layout tail t zero is false none = let r : tail.rows ≡ length layout.tail = t.rows in let n : length layout.tail ≡ 0 = omega arith in absurd (true≢false (sym (eq-eqb (length layout.tail) 0 n) ∙ none))
  sealed_by layout tail t (suc rows) is true none = let r : tail.rows ≡ length layout.tail = t.rows in let n : length layout.tail ≡ 0 = eqb-true (length layout.tail) 0 none in absurd (omega arith)
  sealed_by layout tail t (suc rows) is false none = closed layout layout.tail tail t

  fewer_wait : (layout : Layout) (segments : List Segment) (tail : Tail) → TailOf layout tail → waiting segments ≤ waiting layout.segments → TailOf (record layout { segments = segments }) tail
  fewer_wait layout segments tail t low = record { rows = t.rows; waits = let w : waiting layout.segments ≤ tail.segments = t.waits in omega arith }

  note_tail : (before : List Note) (by : ℕ) (layout : Layout) (kind : Kind) (tail : Tail) → TailOf layout tail → length layout.tail < channel.seal_rows
      → TailOf (layout_after channel before by layout kind) (after_events channel.seal_rows tail (events_at before kind))
  note_tail before by layout (Put ts how row) tail t short = put_tail layout (effective_put before ts.0 how row) ts.0 tail t short
  note_tail before by layout (Remove ts key) tail t short = t
  note_tail before by layout (Tick ts) tail t short = t
  note_tail before by layout (Seal ts) tail t short = sealed_by layout tail t tail.rows refl (nat_eq (length layout.tail) 0) refl
  note_tail before by layout (Look guarantee) tail t short = t
  note_tail before by layout (Number segment floor) tail t short = record { rows = t.rows; waits = t.waits }
  note_tail before by layout (Load segment node) tail t short = fewer_wait layout (rehome segment (homes_after_load node) layout.segments) tail t (rehome_few segment (homes_after_load node) (load_few node) layout.segments)
  note_tail before by layout (Release segment node) tail t short =
      fewer_wait layout (rehome segment (homes_after_release node) layout.segments) tail t (rehome_few segment (homes_after_release node) (any_filter (λ home. not (is_home (Node node) home))) layout.segments)
  note_tail before by layout (Lists segment) tail t short = t
  note_tail before by layout (Merge sources None node) tail t short = fewer_wait layout (others_in sources layout.segments) tail t (others_few sources layout.segments)
  note_tail before by layout (Merge sources (Some number) node) tail t short = record {
    rows = t.rows;
    waits = let m : waiting (with_merged before layout sources node (begun_merge layout by number) (others_in sources layout.segments)) ≡ waiting (others_in sources layout.segments) = merged_same before layout sources node (begun_merge layout by number) (others_in sources layout.segments) in
        let o : waiting (others_in sources layout.segments) ≤ waiting layout.segments = others_few sources layout.segments in
        let w : waiting layout.segments ≤ tail.segments = t.waits in omega arith;
  }

  events_snoc : (xs : List Note) (note : Note) → walk channel.seal_rows (events_in (xs ++ note ∷ [])) ≡ after_events channel.seal_rows (walk channel.seal_rows (events_in xs)) (events_at xs note.kind)
  events_snoc xs note =
      ap (walk channel.seal_rows) (events_from-append [] xs (note ∷ []))
      ∙ after_events-append channel.seal_rows (record { rows = 0; segments = 0 }) (events_in xs) (events_at xs note.kind ++ [])
      ∙ ap (after_events channel.seal_rows (walk channel.seal_rows (events_in xs))) (append-nil (events_at xs note.kind))

  nothing_tail : TailOf (layout_of channel []) (walk channel.seal_rows (events_in []))
  unfolding layout_of
  nothing_tail = record { rows = refl; waits = omega arith }

  pub tails : (notes : List Note) → IsLawful channel notes → TailOf (layout_of channel notes) (walk channel.seal_rows (events_in notes))
  tails = by_each (λ before note. is_lawful channel before note ≡ true) (λ notes. TailOf (layout_of channel notes) (walk channel.seal_rows (events_in notes))) nothing_tail
      (λ xs note lawful ok t.
      subst (λ (l : Layout). TailOf l (walk channel.seal_rows (events_in (xs ++ note ∷ [])))) (sym (layout-snoc channel xs note))
      (subst (TailOf (layout_after channel xs note.by (layout_of channel xs) note.kind)) (sym (events_snoc xs note))
      (note_tail xs note.by (layout_of channel xs) note.kind (walk channel.seal_rows (events_in xs)) t (sizes channel some xs lawful).tail)))
