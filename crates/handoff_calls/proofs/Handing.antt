-- From one segment to the next.
use Rattle.std.proofs.Common.{◌≡◌, ◌≢◌, ℕ, inl, inr, true, false, ◌+◌, ◌<◌, ◌≤◌, Bool, List, [], ◌∷◌, ◌++◌, length, take, get_or, map, Option, Ok, Err, refl, ap, sym, ◌∙◌, subst, arith, append_assoc, append-nil, true≢false}
use Rattle.std.specs.Prelude.{Result, IfOk}
use Rattle.std.specs.Result.{IsErr}
use Rattle.std.proofs.lemmas.List.{map-append, take_more}
use Rattle.row_types.specs.declared.allocation.Memory.{Memory as NoMemory}
use Rattle.turn_facts.specs.Counts.{total}
use Rattle.turn_table.specs.Seats.{SeatView}
use Rattle.seat_walks.specs.Walks.{Turned, Step, Took, Walks}
use Rattle.seat_walks.proofs.Walking.{walks_append, walks_same}
use Rattle.journal_model.specs.declared.notes.Note.{Note}
use Rattle.journal_model.specs.declared.refusals.MoveError.{MoveError}
use Rattle.journal_model.specs.declared.refusals.MoveError.TheVariants as error
use Rattle.journal_model.specs.Layouts.{Channel}
use Rattle.shard_core.specs.Shards.{ChannelBase}
use Rattle.call_model.specs.Turns as turns
use Rattle.call_model.specs.Walks.{Did}
use Rattle.vault.specs.declared.notes.VaultNote.{VaultNote}
use Rattle.vault.specs.declared.bases.VaultBase.{VaultBase}
use Rattle.vault.specs.Notes as stores
use Rattle.vault.proofs.Sums.{total-nil, total-cons, total-append}
use Rattle.handoff_calls.specs.Seats.{DidVault}
use Rattle.handoff_calls.specs.Turns.{IsQuietTurn, BeginsOr, LoadsOr}
use Rattle.handoff_calls.specs.Handoffs.{Hand, Gone, front_in, vault_in, left_in, as_left, all_front, all_vault, notes_of, IsCommitted, IsHand, AreHands}
use Rattle.handoff_calls.specs.Facts.{AreOfLine}
use Rattle.handoff_calls.proofs.Counting.{notes-append}
use Rattle.handoff_calls.proofs.Homes.{begun_not}
use Rattle.handoff_calls.proofs.Own.{of_line_none, of_line_both}

-- ---- answers

pub if_err : {T E : Type 0} (result : Result T E) (P : T → Type 0) → IsErr result → IfOk result P
if_err (Ok x) P h = absurd (true≢false (sym h))
if_err (Err e) P h = tt

-- ---- walks

walks_on : {N B : Type 0} (number : N → ℕ) (time : N → Option ℕ) (s m e : SeatView N B) (ts us : List (Turned N)) → Walks number time s (map Took ts) m → Walks number time m (map Took us) e → Walks number time s (map Took (ts ++ us)) e
walks_on {N = N} number time s m e ts us d f = subst (λ (steps : List (Step N)). Walks number time s steps e) (sym (map-append Took ts us)) (walks_append number time s m e (map Took ts) (map Took us) d f)

pub did_on : (s m e : SeatView Note ChannelBase) (ts us : List (Turned Note)) → Did s (map Took ts) m → Did m (map Took us) e → Did s (map Took (ts ++ us)) e
did_on s m e ts us d f = walks_on turns.by_of turns.time_of s m e ts us d f

pub vault_on : (s m e : SeatView VaultNote VaultBase) (ts us : List (Turned VaultNote)) → DidVault s (map Took ts) m → DidVault m (map Took us) e → DidVault s (map Took (ts ++ us)) e
vault_on s m e ts us d f = walks_on stores.by_of stores.time_of s m e ts us d f

pub did_none : (s : SeatView Note ChannelBase) → Did s [] s
did_none s = walks_same turns.by_of turns.time_of s s refl

pub vault_none : (s : SeatView VaultNote VaultBase) → DidVault s [] s
vault_none s = walks_same stores.by_of stores.time_of s s refl

-- ---- hands

front-more : (hands : List Hand) (hand : Hand) → all_front (hands ++ hand ∷ []) ≡ all_front hands ++ front_in hand
front-more [] hand = append-nil (front_in hand)
front-more (h ∷ hands) hand = ap (λ (l : List (Turned Note)). front_in h ++ l) (front-more hands hand) ∙ sym (append_assoc (front_in h) (all_front hands) (front_in hand))

vault-more : (hands : List Hand) (hand : Hand) → all_vault (hands ++ hand ∷ []) ≡ all_vault hands ++ vault_in hand
vault-more [] hand = append-nil (vault_in hand)
vault-more (h ∷ hands) hand = ap (λ (l : List (Turned VaultNote)). vault_in h ++ l) (vault-more hands hand) ∙ sym (append_assoc (vault_in h) (all_vault hands) (vault_in hand))

left-more : (hands : List Hand) (hand : Hand) → total left_in (hands ++ hand ∷ []) ≡ total left_in hands + left_in hand
left-more hands hand =
    let a : total left_in (hands ++ hand ∷ []) ≡ total left_in hands + total left_in (hand ∷ []) = total-append left_in hands (hand ∷ []) in
    let b : total left_in (hand ∷ []) ≡ left_in hand + total left_in [] = total-cons left_in hand [] in
    let c : total left_in [] ≡ 0 = total-nil left_in in omega arith

module _ (channel : Channel) (nodes by keeps line : ℕ) where
  are_more : (segments : List ℕ) (hands : List Hand) (segment : ℕ) (hand : Hand) → AreHands channel nodes by keeps line segments hands → IsHand channel nodes by keeps line segment hand
      → AreHands channel nodes by keeps line (segments ++ segment ∷ []) (hands ++ hand ∷ [])
  are_more [] [] segment hand a h = (h, tt)
  are_more [] (x ∷ hands) segment hand a h = absurd a
  are_more (s ∷ segments) [] segment hand a h = absurd a
  are_more (s ∷ segments) (x ∷ hands) segment hand a h = (a.0, are_more segments hands segment hand a.1 h)

-- ---- what a call does to two seats, whatever it answers

pub record IsDone (line : ℕ) (s e : SeatView Note ChannelBase) (v w : SeatView VaultNote VaultBase) (ts : List (Turned Note)) (us : List (Turned VaultNote)) : Type 0 where
  pub front : Did s (map Took ts) e
  pub vault : DidVault v (map Took us) w
  pub lines : AreOfLine line (notes_of us)

module _ (line : ℕ) where
  pub done_none : (s : SeatView Note ChannelBase) (v : SeatView VaultNote VaultBase) → IsDone line s s v v [] []
  done_none s v = record { front = did_none s; vault = vault_none v; lines = of_line_none line }

  pub done_front : (s e : SeatView Note ChannelBase) (v : SeatView VaultNote VaultBase) (t : Turned Note) → Did s (Took t ∷ []) e → IsDone line s e v v (t ∷ []) []
  done_front s e v t d = record { front = d; vault = vault_none v; lines = of_line_none line }

  pub done_vault : (s : SeatView Note ChannelBase) (v w : SeatView VaultNote VaultBase) (u : Turned VaultNote) → DidVault v (Took u ∷ []) w → AreOfLine line (u.notes ++ []) → IsDone line s s v w [] (u ∷ [])
  done_vault s v w u d lines = record { front = did_none s; vault = d; lines = lines }

  pub done_on : (s m e : SeatView Note ChannelBase) (v u w : SeatView VaultNote VaultBase) (ts ts' : List (Turned Note)) (us us' : List (Turned VaultNote)) → IsDone line s m v u ts us → IsDone line m e u w ts' us'
      → IsDone line s e v w (ts ++ ts') (us ++ us')
  done_on s m e v u w ts ts' us us' d f = record {
    front = did_on s m e ts ts' d.front f.front;
    vault = vault_on v u w us us' d.vault f.vault;
    lines = subst (AreOfLine line) (sym (notes-append us us')) (of_line_both line (notes_of us) (notes_of us') d.lines f.lines);
  }

  pub done_as : (s e : SeatView Note ChannelBase) (v w : SeatView VaultNote VaultBase) (ts ts' : List (Turned Note)) (us us' : List (Turned VaultNote)) → ts' ≡ ts → us' ≡ us → IsDone line s e v w ts us → IsDone line s e v w ts' us'
  done_as s e v w ts ts' us us' a b d =
      subst (λ (l : List (Turned Note)). IsDone line s e v w l us') (sym a) (subst (λ (l : List (Turned VaultNote)). IsDone line s e v w ts l) (sym b) d)

-- ---- one segment

-- a move that was refused: the segment waits no longer
pub gone_hand : (channel : Channel) (nodes by keeps line segment : ℕ) (t : Turned Note) (why : MoveError) (result : Result Bool NoMemory) → IsQuietTurn channel.number t → BeginsOr channel segment t.before (Err why) → IfOk result (λ left. (left ≡ false) × (why ≢ error.Memory))
    → IfOk result (λ left. (hand : Hand) × (t ∷ [] ≡ front_in hand) × (◌≡◌ {A = List (Turned VaultNote)} [] (vault_in hand)) × (as_left left ≡ left_in hand) × IsHand channel nodes by keeps line segment hand)
gone_hand channel nodes by keeps line segment t why (Ok left) quiet (inl e) told = absurd (told.1 e)
gone_hand channel nodes by keeps line segment t why (Ok left) quiet (inr r) told = (Gone t, refl, refl, ap as_left told.0, (quiet, begun_not channel t.before segment why r))
gone_hand channel nodes by keeps line segment t why (Err error) quiet begins told = tt

-- a part that was stored, and then loaded by the same seat
pub committed : (channel : Channel) (nodes by by' keeps line segment segment' : ℕ) (t : Turned Note) → by' ≡ by → segment' ≡ segment → t.slot ≡ channel.number → t.drawn ≡ [] → LoadsOr channel nodes by' line segment' t.before t.notes
    → IsCommitted channel nodes by keeps line segment t
committed channel nodes by by' keeps line segment segment' t named numbered slot undrawn loads = record {
  slot = slot;
  undrawn = undrawn;
  loads = subst (λ (n : ℕ). LoadsOr channel nodes n line segment t.before t.notes) named (subst (λ (n : ℕ). LoadsOr channel nodes by' line n t.before t.notes) numbered loads);
}

-- ---- the segments in turn

-- what was done for one segment, by the seats as they were before
abbrev pub OneHanded : Channel → ℕ → ℕ → SeatView Note ChannelBase → SeatView VaultNote VaultBase → ℕ → List (Turned Note) → List (Turned VaultNote) → Bool → Type 0
OneHanded channel nodes line s v segment ts us left =
    (hand : Hand) × (ts ≡ front_in hand) × (us ≡ vault_in hand) × (as_left left ≡ left_in hand) × IsHand channel nodes s.number v.number line segment hand

-- these segments were handed off, from the seats s and v to e and w
pub record AreHanded (channel : Channel) (nodes line : ℕ) (s e : SeatView Note ChannelBase) (v w : SeatView VaultNote VaultBase) (segments : List ℕ) (left : ℕ) : Type 0 where
  pub hands : List Hand
  pub did : IsDone line s e v w (all_front hands) (all_vault hands)
  pub left_is : left ≡ total left_in hands
  pub each : AreHands channel nodes s.number v.number line segments hands

pub left_most : (left : Bool) → as_left left ≤ 1
left_most true = omega arith
left_most false = omega arith

module _ (channel : Channel) (nodes line : ℕ) where
  pub handed_none : (s : SeatView Note ChannelBase) (v : SeatView VaultNote VaultBase) → AreHanded channel nodes line s s v v [] 0
  handed_none s v = record { hands = []; did = done_none line s v; left_is = sym (total-nil left_in); each = tt }

  pub handed_more : (s m e : SeatView Note ChannelBase) (v u w : SeatView VaultNote VaultBase) (segments : List ℕ) (segment : ℕ) (left later : ℕ) (more : Bool) (ts : List (Turned Note)) (us : List (Turned VaultNote))
      → AreHanded channel nodes line s m v u segments left → IsDone line m e u w ts us → OneHanded channel nodes line m u segment ts us more → m.number ≡ s.number → u.number ≡ v.number → later ≡ left + as_left more
      → AreHanded channel nodes line s e v w (segments ++ segment ∷ []) later
  handed_more s m e v u w segments segment left later more ts us h d one named kept counts =
      let hand : Hand = one.0 in
      let is : IsHand channel nodes s.number v.number line segment hand =
      subst (λ (n : ℕ). IsHand channel nodes n v.number line segment hand) named (subst (λ (n : ℕ). IsHand channel nodes m.number n line segment hand) kept one.4) in
      let front : all_front (h.hands ++ hand ∷ []) ≡ all_front h.hands ++ ts = front-more h.hands hand ∙ ap (λ (l : List (Turned Note)). all_front h.hands ++ l) (sym one.1) in
      let vault : all_vault (h.hands ++ hand ∷ []) ≡ all_vault h.hands ++ us = vault-more h.hands hand ∙ ap (λ (l : List (Turned VaultNote)). all_vault h.hands ++ l) (sym one.2) in
      let sum : total left_in (h.hands ++ hand ∷ []) ≡ total left_in h.hands + left_in hand = left-more h.hands hand in
      let before : left ≡ total left_in h.hands = h.left_is in
      let now : as_left more ≡ left_in hand = one.3 in record {
        hands = h.hands ++ hand ∷ [];
        did = done_as line s e v w (all_front h.hands ++ ts) (all_front (h.hands ++ hand ∷ [])) (all_vault h.hands ++ us) (all_vault (h.hands ++ hand ∷ [])) front vault (done_on line s m e v u w (all_front h.hands) ts (all_vault h.hands) us h.did d);
        left_is = omega arith;
        each = are_more channel nodes s.number v.number line segments h.hands segment hand h.each is;
      }

  -- the next of a list
  pub handed_next : (s m e : SeatView Note ChannelBase) (v u w : SeatView VaultNote VaultBase) (segments : List ℕ) (k d : ℕ) (left later : ℕ) (more : Bool) (ts : List (Turned Note)) (us : List (Turned VaultNote)) → k < length segments
      → AreHanded channel nodes line s m v u (take k segments) left → IsDone line m e u w ts us → OneHanded channel nodes line m u (get_or segments k d) ts us more → m.number ≡ s.number → u.number ≡ v.number → later ≡ left + as_left more
      → AreHanded channel nodes line s e v w (take (k + 1) segments) later
  handed_next s m e v u w segments k d left later more ts us lt h done one named kept counts =
      subst (λ (l : List ℕ). AreHanded channel nodes line s e v w l later) (sym (take_more segments k d lt))
      (handed_more s m e v u w (take k segments) (get_or segments k d) left later more ts us h done one named kept counts)
