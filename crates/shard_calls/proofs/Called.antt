-- A whole turn of a call.
use Rattle.std.proofs.Common.{◌≡◌, ℕ, ◌+◌, ◌-◌, ◌<◌, ◌≤◌, List, [], ◌∷◌, ◌++◌, length, set, Some, Ok, Err, true≢false, length-append, refl, ap, sym, ◌∙◌, subst, arith}
use Rattle.std.specs.Prelude.{MatchResult, slice_index_or, map}
use Rattle.std.proofs.lemmas.List.{length-set, get_or-set_same}
use Rattle.std.specs.Result.{IsErr}
use Rattle.std.specs.declared.result.Result.{Result}
use Rattle.turn_lock.specs.declared.tickets.Ticket.{Ticket}
use Rattle.turn_facts.specs.Counts.{count, Among}
use Rattle.turn_facts.specs.Notes.{of, times, Adds}
use Rattle.turn_facts.specs.Prefixes.{StartsWith, IsAt}
use Rattle.turn_facts.proofs.Counts.{count-here, count-append}
use Rattle.turn_table.specs.Knowledge.{at_slot}
use Rattle.turn_table.specs.Seats.{Table, SeatView, IsGiven, fresh}
use Rattle.turn_table.specs.declared.turns.Turn.{Turn}
use Rattle.seat_walks.specs.Walks.{Turned, Took, Puts}
use Rattle.seat_walks.proofs.Turning.{took, adds_turn, puts_drew, drew_above}
use Rattle.journal_model.specs.declared.notes.Kind.{Kind}
use Rattle.journal_model.specs.declared.notes.Note.{Note}
use Rattle.journal_model.specs.Notes.{note_of, ts_of}
use Rattle.journal_model.specs.Journals.{AreBelow}
use Rattle.journal_model.specs.Runs.{State}
use Rattle.shard_core.specs.Shards.{ChannelShard, ChannelBase, Steps, base_of}
use Rattle.coarse_lists.specs.declared.collections.Collection.{Collection}
use Rattle.call_model.specs.Turns.{by_of, time_of}
use Rattle.call_model.specs.Walks.{Did}
use Rattle.shard_calls.specs.Fronts.{FrontView, front_of, AreBases, AreShards, IsFront, base_at, Spends}
use Rattle.shard_calls.specs.Calls.{IsIdle}
use Rattle.shard_calls.specs.Under.{IsInside}
use Rattle.shard_calls.proofs.Noted.{below_times, own_at}

-- a number that was drawn outside of turns
pub drawn_here : (s e : SeatView Note ChannelBase) (x : ℕ) → e ≡ record s { drawn = s.drawn ++ x ∷ []; allowance = s.allowance - 1 } → Among x e.drawn
drawn_here s e x is =
    let one : count x (x ∷ []) ≡ 1 + count x [] = count-here x [] in
    let all : count x (s.drawn ++ x ∷ []) ≡ count x s.drawn + count x (x ∷ []) = count-append x s.drawn (x ∷ []) in
    subst (λ (u : SeatView Note ChannelBase). Among x u.drawn) (sym is) (let h : Among x (s.drawn ++ x ∷ []) = omega arith in h)

pub spends_draw : (s e : SeatView Note ChannelBase) (x : ℕ) → 1 ≤ s.allowance → e ≡ record s { drawn = s.drawn ++ x ∷ []; allowance = s.allowance - 1 } → Spends 1 s e
spends_draw s e x one is =
    let after : Spends 1 s (record s { drawn = s.drawn ++ x ∷ []; allowance = s.allowance - 1 }) = record {
      table = refl;
      turns = refl;
      number = refl;
      joined = refl;
      allowance = omega arith;
      share = let l : length (s.drawn ++ x ∷ []) ≡ length s.drawn + 1 = length-append s.drawn (x ∷ []) in omega arith;
      drawn = λ y a. let c : count y (s.drawn ++ x ∷ []) ≡ count y s.drawn + count y (x ∷ []) = count-append y s.drawn (x ∷ []) in omega arith;
    } in
    subst (Spends 1 s) (sym is) after

-- what is left of the seat after one turn
pub spends_turn : (s e : SeatView Note ChannelBase) (t : Turned Note) → Did s (Took t ∷ []) e → length t.drawn ≤ 1 → Spends 1 s e
spends_turn s e t d few =
    let at_end : Spends 1 s (record s { drawn = s.drawn ++ t.drawn; allowance = s.allowance - length t.drawn; seen = set s.seen t.slot (t.before ++ t.notes); mark = e.mark }) = record {
      table = refl;
      turns = refl;
      number = refl;
      joined = refl;
      allowance = omega arith;
      share = let l : length (s.drawn ++ t.drawn) ≡ length s.drawn + length t.drawn = length-append s.drawn t.drawn in let enough : length t.drawn ≤ s.allowance = d.0.enough in omega arith;
      drawn = λ x a. let c : count x (s.drawn ++ t.drawn) ≡ count x s.drawn + count x t.drawn = count-append x s.drawn t.drawn in omega arith;
    } in
    subst (Spends 1 s) (sym d.1) at_end

pub idle_few : (notes : List Note) (numbers : List ℕ) → IsIdle notes numbers → length numbers ≤ 1
idle_few notes numbers idle = let e : length numbers ≡ 0 = ap length idle.undrawn in omega arith

module _ {T E : Type 0} where
  -- whatever was answered, at most one number was drawn
  pub match_few : (result : Result T E) (P : T → Type 0) (Q : E → Type 0) (numbers : List ℕ) → ((x : T) → P x → length numbers ≤ 1) → ((e : E) → Q e → length numbers ≤ 1) → MatchResult result P Q → length numbers ≤ 1
  match_few (Ok x) P Q numbers f g m = f x m
  match_few (Err e) P Q numbers f g m = g e m

  pub match_err : (result : Result T E) (P : T → Type 0) (Q : E → Type 0) → IsErr result → ((e : E) → Q e) → MatchResult result P Q
  match_err (Ok x) P Q h q = absurd (true≢false (sym h))
  match_err (Err e) P Q h q = q e

  pub match_weaker : (result : Result T E) (P P' : T → Type 0) (Q Q' : E → Type 0) → ((x : T) → P x → P' x) → ((e : E) → Q e → Q' e) → MatchResult result P Q → MatchResult result P' Q'
  match_weaker (Ok x) P P' Q Q' f g m = f x m
  match_weaker (Err e) P P' Q Q' f g m = g e m

-- the base of the value that a turn found
pub base_found : (front : FrontView) (table : Table ChannelBase) (k : ℕ) (b : ChannelBase) → table ≡ front.table → IsFront front → IsAt table.bases k b → b ≡ base_at front.collection front.floor k
base_found front table k b same f at = f.bases.each k b (subst (λ (t : Table ChannelBase). IsAt t.bases k b) same at)

-- the front of some shards
pub new_front : (shards : List ChannelShard) (table : Table ChannelBase) (collection : Collection) (floor first : ℕ) (lead : ChannelShard) → AreShards shards → lead ≡ slice_index_or shards 0 lead → collection ≡ lead.collection → floor ≡ lead.state.floor
    → table.first ≡ first → 1 ≤ first → table.bases ≡ map base_of shards → IsFront (front_of table collection floor)
new_front [] table collection floor first lead a is c f at least bases =
    let none : 0 ≡ a.collection.channels = a.bases.many in
    let some : 1 ≤ a.collection.channels = a.bases.range.channels.0 in
    absurd (omega arith)
new_front (s ∷ shards) table collection floor first lead a is c f at least bases =
    let base : base_of s ≡ base_at a.collection a.floor 0 = a.bases.each 0 (base_of s) refl in
    let one : collection ≡ a.collection = c ∙ ap (λ (v : ChannelShard). v.collection) is ∙ ap (λ (b : ChannelBase). b.collection) base in
    let two : floor ≡ a.floor = f ∙ ap (λ (v : ChannelShard). v.state.floor) is ∙ ap (λ (b : ChannelBase). b.floor) base in
    record {
      bases = subst (AreBases collection floor) (sym bases) (subst (λ (n : ℕ). AreBases collection n (map base_of (s ∷ shards))) (sym two) (subst (λ (d : Collection). AreBases d a.floor (map base_of (s ∷ shards))) (sym one) a.bases));
      first = omega arith;
    }

-- a number that was drawn under the turn is above the journal
pub below_drawn : (table : Table ChannelBase) (s : SeatView Note ChannelBase) (turn : Turn ChannelShard) (x : ℕ) → IsInside table s turn → ((k y : ℕ) → Among y (times time_of (at_slot s.seen k)) → y < x) → AreBelow x turn.value.state.notes
below_drawn table s turn x i seen = below_times x turn.value.state.notes (λ y a. seen turn.slot y (subst (λ (l : List Note). Among y (times time_of l)) i.notes a))

-- one note at a number that was drawn under the turn
pub puts_one : (table : Table ChannelBase) (s e : SeatView Note ChannelBase) (turn : Turn ChannelShard) (found new : ChannelShard) (x by line : ℕ) (kind : Kind) → IsInside table s turn → e ≡ record s { drawn = s.drawn ++ x ∷ []; allowance = s.allowance - 1 } → table.first ≤ x → s.least ≤ x
    → ((y : ℕ) → Among y s.drawn → y < x) → ((k y : ℕ) → Among y (times time_of (at_slot s.seen k)) → y < x) → by ≡ e.number → ts_of kind ≡ Some x → found.state.notes ≡ turn.value.state.notes → Steps found new (note_of by line kind)
    → Puts by_of time_of s e turn.value.state.notes new.state.notes (note_of s.number line kind ∷ []) (x ∷ [])
puts_one table s e turn found new x by line kind i is first least drawn seen named at same step =
    let before : List Note = turn.value.state.notes in
    let own : by ≡ s.number = named ∙ ap (λ (u : SeatView Note ChannelBase). u.number) is in
    let journal : new.state.notes ≡ before ++ note_of s.number line kind ∷ [] =
    ap (λ (st : State). st.notes) step.state ∙ ap (λ (l : List Note). l ++ note_of by line kind ∷ []) same ∙ ap (λ (n : ℕ). before ++ note_of n line kind ∷ []) own in
    puts_drew by_of time_of s e x before new.state.notes (note_of s.number line kind ∷ []) is i.allowance (drew_above by_of time_of table s x i.same first least drawn seen) journal (own_at s.number line x kind at)

-- what may be left of a turn
pub left_notes : (old inside put : SeatView Note ChannelBase) (turn : Turn ChannelShard) (k j : ℕ) (later notes : List Note) (numbers : List ℕ) (tickets : List Ticket)
    → inside ≡ record old { seen = set old.seen k turn.value.state.notes; turns = tickets; mark = length old.drawn } → IsGiven inside turn → turn.slot ≡ k
    → Puts by_of time_of inside put turn.value.state.notes later notes numbers → j ≡ turn.slot → Adds by_of time_of put.number (fresh put) (at_slot put.seen j) later
left_notes old inside put turn k j later notes numbers tickets enters given place p stays =
    let before : List Note = turn.value.state.notes in
    let long : length inside.seen ≡ length old.seen = ap (λ (s : SeatView Note ChannelBase). length s.seen) enters ∙ length-set old.seen k before in
    let low : turn.slot < length inside.seen = given.slot in
    let there : k < length old.seen = omega arith in
    let here : at_slot (set old.seen k before) k ≡ before = get_or-set_same old.seen k before [] there in
    let found : before ≡ at_slot inside.seen turn.slot = sym here ∙ ap (at_slot (set old.seen k before)) (sym place) ∙ ap (λ (s : SeatView Note ChannelBase). at_slot s.seen turn.slot) (sym enters) in
    let mark : inside.mark ≡ length inside.drawn = ap (λ (s : SeatView Note ChannelBase). s.mark) enters ∙ sym (ap (λ (s : SeatView Note ChannelBase). length s.drawn) enters) in
    subst (λ (n : ℕ). Adds by_of time_of put.number (fresh put) (at_slot put.seen n) later) (sym stays) (adds_turn by_of time_of inside put turn.slot before later notes numbers p mark found)

-- what a turn owes, over the number of the seat, the journal that the turn found, the notes and the drawn numbers
module _ {T E : Type 0} (result : Result T E) (P : ℕ → List Note → List Note → List ℕ → T → Type 0) (Q : ℕ → List Note → List Note → List ℕ → E → Type 0) where
  -- under the turn
  abbrev pub IsDone : SeatView Note ChannelBase → SeatView Note ChannelBase → List Note → List Note → Type 0
  IsDone s e before later = (notes : List Note) × (numbers : List ℕ) × Puts by_of time_of s e before later notes numbers × MatchResult result (P s.number before notes numbers) (Q s.number before notes numbers)

  -- once the turn was left
  abbrev pub IsTurnOf : SeatView Note ChannelBase → SeatView Note ChannelBase → ℕ → Type 0
  IsTurnOf s e k = (t : Turned Note) × Did s (Took t ∷ []) e × (t.slot ≡ k) × MatchResult result (P s.number t.before t.notes t.drawn) (Q s.number t.before t.notes t.drawn)

  pub turn_done : (old inside put new : SeatView Note ChannelBase) (k i j : ℕ) (before later : List Note) (tickets : List Ticket)
      → ((by : ℕ) (before notes : List Note) (numbers : List ℕ) (x : T) → P by before notes numbers x → length numbers ≤ 1)
      → ((by : ℕ) (before notes : List Note) (numbers : List ℕ) (e : E) → Q by before notes numbers e → length numbers ≤ 1)
      → i ≡ k → j ≡ i → i < length inside.seen → StartsWith before (at_slot old.seen k)
      → ((n : ℕ) → Among n (old.number ∷ old.joined) → of by_of n before ≡ of by_of n (at_slot old.seen k)) → old.turns ≡ []
      → inside ≡ record old { seen = set old.seen k before; turns = tickets; mark = length old.drawn }
      → IsDone inside put before later
      → new ≡ record put { seen = set put.seen j later; turns = [] }
      → IsTurnOf old new k × Spends 1 old new
  turn_done old inside put new k i j before later tickets few few' place stays slot more mine rest enters done leaves =
      let notes : List Note = done.0 in
      let numbers : List ℕ = done.1 in
      let t : Turned Note = record { slot = k; before = before; notes = notes; drawn = numbers } in
      let d : Did old (Took t ∷ []) new = took by_of time_of old inside put new k j before later notes numbers tickets (stays ∙ place) (subst (λ (n : ℕ). n < length inside.seen) place slot) more mine rest enters done.2 leaves in
      let said : MatchResult result (P old.number before notes numbers) (Q old.number before notes numbers) = subst (λ (n : ℕ). MatchResult result (P n before notes numbers) (Q n before notes numbers)) (ap (λ (s : SeatView Note ChannelBase). s.number) enters) done.3 in
      ((t, d, refl, said), spends_turn old new t d (match_few result (P old.number before notes numbers) (Q old.number before notes numbers) numbers (few old.number before notes numbers) (few' old.number before notes numbers) said))
