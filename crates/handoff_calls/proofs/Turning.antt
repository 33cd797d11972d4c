-- Turns in which no number is drawn.
use Rattle.std.proofs.Common.{◌≡◌, ℕ, ◌+◌, ◌-◌, ◌<◌, ◌≤◌, List, [], ◌∷◌, ◌++◌, length, set, All, Option, refl, ap, sym, ◌∙◌, subst, arith, append-nil, length-append}
use Rattle.std.proofs.lemmas.List.{length-set, get_or-set_same}
use Rattle.turn_lock.specs.declared.tickets.Ticket.{Ticket}
use Rattle.turn_facts.specs.Counts.{count, Among}
use Rattle.turn_facts.specs.Notes.{of, IsOwn, Adds}
use Rattle.turn_facts.specs.Prefixes.{StartsWith}
use Rattle.turn_facts.proofs.Counts.{count-append}
use Rattle.turn_table.specs.Knowledge.{at_slot}
use Rattle.turn_table.specs.Seats.{SeatView, fresh}
use Rattle.seat_walks.specs.Walks.{Turned, Took, Walks}
use Rattle.seat_walks.proofs.Turning.{took, adds_turn, puts_none, puts_notes}
use Rattle.journal_model.specs.declared.notes.Note.{Note}
use Rattle.shard_core.specs.Shards.{ChannelBase}
use Rattle.call_model.specs.Walks.{Did}
use Rattle.shard_calls.specs.Fronts.{Spends}
use Rattle.vault.specs.declared.notes.VaultNote.{VaultNote}
use Rattle.vault.specs.declared.bases.VaultBase.{VaultBase}
use Rattle.handoff_calls.specs.Seats.{DidVault, Stays}

module _ {N B : Type 0} (number : N → ℕ) (time : N → Option ℕ) where
  -- a turn that added notes of the seat alone
  pub noted_turn : (old inside new : SeatView N B) (k j : ℕ) (journal later notes : List N) (tickets : List Ticket) → j ≡ k → k < length inside.seen → StartsWith journal (at_slot old.seen k)
      → ((n : ℕ) → Among n (old.number ∷ old.joined) → of number n journal ≡ of number n (at_slot old.seen k)) → old.turns ≡ []
      → inside ≡ record old { seen = set old.seen k journal; turns = tickets; mark = length old.drawn } → later ≡ journal ++ notes → All (IsOwn number time inside.number []) notes → new ≡ record inside { seen = set inside.seen j later; turns = [] }
      → Walks number time old (Took (record { slot = k; before = journal; notes = notes; drawn = [] }) ∷ []) new
  noted_turn old inside new k j journal later notes tickets place slot more mine rest enters is own leaves =
      took number time old inside inside new k j journal later notes [] tickets place slot more mine rest enters (puts_notes number time inside journal later notes is own) leaves

  -- a turn that added none
  pub quiet_turn : (old inside new : SeatView N B) (k j : ℕ) (journal later : List N) (tickets : List Ticket) → j ≡ k → k < length inside.seen → StartsWith journal (at_slot old.seen k)
      → ((n : ℕ) → Among n (old.number ∷ old.joined) → of number n journal ≡ of number n (at_slot old.seen k)) → old.turns ≡ []
      → inside ≡ record old { seen = set old.seen k journal; turns = tickets; mark = length old.drawn } → later ≡ journal → new ≡ record inside { seen = set inside.seen j later; turns = [] }
      → Walks number time old (Took (record { slot = k; before = journal; notes = []; drawn = [] }) ∷ []) new
  quiet_turn old inside new k j journal later tickets place slot more mine rest enters same leaves =
      took number time old inside inside new k j journal later [] [] tickets place slot more mine rest enters (puts_none number time inside journal later same) leaves

  -- what the seat has seen inside of its turn
  pub seen_inside : (old inside : SeatView N B) (k j : ℕ) (journal : List N) (tickets : List Ticket) → j ≡ k → k < length inside.seen → inside ≡ record old { seen = set old.seen k journal; turns = tickets; mark = length old.drawn } → journal ≡ at_slot inside.seen j
  seen_inside old inside k j journal tickets place slot enters =
      let long : length inside.seen ≡ length old.seen = ap (λ (s : SeatView N B). length s.seen) enters ∙ length-set old.seen k journal in
      let there : k < length old.seen = omega arith in
      sym (get_or-set_same old.seen k journal [] there) ∙ ap (λ (s : SeatView N B). at_slot s.seen k) (sym enters) ∙ ap (at_slot inside.seen) (sym place)

  -- and once it left the turn
  pub seen_behind : (inside new : SeatView N B) (k j : ℕ) (later : List N) → j ≡ k → k < length inside.seen → new ≡ record inside { seen = set inside.seen j later; turns = [] } → later ≡ at_slot new.seen k
  seen_behind inside new k j later place slot leaves =
      sym (get_or-set_same inside.seen k later [] slot) ∙ ap (λ (n : ℕ). at_slot (set inside.seen n later) k) (sym place) ∙ ap (λ (s : SeatView N B). at_slot s.seen k) (sym leaves)

  -- what may be left of such a turn
  pub noted_adds : (old inside : SeatView N B) (k j : ℕ) (journal later notes : List N) (tickets : List Ticket) → j ≡ k → k < length inside.seen → inside ≡ record old { seen = set old.seen k journal; turns = tickets; mark = length old.drawn }
      → later ≡ journal ++ notes → All (IsOwn number time inside.number []) notes → Adds number time inside.number (fresh inside) (at_slot inside.seen j) later
  noted_adds old inside k j journal later notes tickets place slot enters is own =
      let mark : inside.mark ≡ length inside.drawn = ap (λ (s : SeatView N B). s.mark) enters ∙ sym (ap (λ (s : SeatView N B). length s.drawn) enters) in
      adds_turn number time inside inside j journal later notes [] (puts_notes number time inside journal later notes is own) mark (seen_inside old inside k j journal tickets place slot enters)

  pub quiet_adds : (old inside : SeatView N B) (k j : ℕ) (journal later : List N) (tickets : List Ticket) → j ≡ k → k < length inside.seen → inside ≡ record old { seen = set old.seen k journal; turns = tickets; mark = length old.drawn } → later ≡ journal
      → Adds number time inside.number (fresh inside) (at_slot inside.seen j) later
  quiet_adds old inside k j journal later tickets place slot enters same =
      noted_adds old inside k j journal later [] tickets place slot enters (same ∙ sym (append-nil journal)) (λ i d h. absurd (omega arith))

-- what is left of the seat of the channels
pub spends_quiet : (s e : SeatView Note ChannelBase) (t : Turned Note) → Did s (Took t ∷ []) e → t.drawn ≡ [] → Spends 0 s e
spends_quiet s e t d undrawn =
    let none : length t.drawn ≡ 0 = ap length undrawn in
    let at_end : Spends 0 s (record s { drawn = s.drawn ++ t.drawn; allowance = s.allowance - length t.drawn; seen = set s.seen t.slot (t.before ++ t.notes); mark = e.mark }) = record {
      table = refl;
      turns = refl;
      number = refl;
      joined = refl;
      allowance = omega arith;
      share = let l : length (s.drawn ++ t.drawn) ≡ length s.drawn + length t.drawn = length-append s.drawn t.drawn in omega arith;
      drawn = λ x a. let c : count x (s.drawn ++ t.drawn) ≡ count x s.drawn + count x t.drawn = count-append x s.drawn t.drawn in omega arith;
    } in
    subst (Spends 0 s) (sym d.1) at_end

pub spends_on : (s m e : SeatView Note ChannelBase) → Spends 0 s m → Spends 0 m e → Spends 0 s e
spends_on s m e p q =
    let one : s.allowance ≤ m.allowance + 0 = p.allowance in
    let two : m.allowance ≤ e.allowance + 0 = q.allowance in record {
      table = q.table ∙ p.table;
      turns = q.turns ∙ p.turns;
      number = q.number ∙ p.number;
      joined = q.joined ∙ p.joined;
      allowance = omega arith;
      share = q.share ∙ p.share;
      drawn = λ x h. q.drawn x (p.drawn x h);
    }

pub spends_none : (s : SeatView Note ChannelBase) → Spends 0 s s
spends_none s = record { table = refl; turns = refl; number = refl; joined = refl; allowance = omega arith; share = refl; drawn = λ x h. h }

-- and of that of the vault
pub stays_quiet : (s e : SeatView VaultNote VaultBase) (u : Turned VaultNote) → DidVault s (Took u ∷ []) e → u.drawn ≡ [] → Stays s e
stays_quiet s e u d undrawn =
    let none : length u.drawn ≡ 0 = ap length undrawn in
    let at_end : Stays s (record s { drawn = s.drawn ++ u.drawn; allowance = s.allowance - length u.drawn; seen = set s.seen u.slot (u.before ++ u.notes); mark = e.mark }) = record {
      table = refl;
      turns = refl;
      number = refl;
      joined = refl;
      allowance = omega arith;
      drawn = ap (λ (l : List ℕ). s.drawn ++ l) undrawn ∙ append-nil s.drawn;
    } in
    subst (Stays s) (sym d.1) at_end

pub stays_on : (s m e : SeatView VaultNote VaultBase) → Stays s m → Stays m e → Stays s e
stays_on s m e p q = record { table = q.table ∙ p.table; turns = q.turns ∙ p.turns; number = q.number ∙ p.number; joined = q.joined ∙ p.joined; allowance = q.allowance ∙ p.allowance; drawn = q.drawn ∙ p.drawn }

pub stays_none : (s : SeatView VaultNote VaultBase) → Stays s s
stays_none s = record { table = refl; turns = refl; number = refl; joined = refl; allowance = refl; drawn = refl }
