use Rattle.std.proofs.Common.{◌≡◌, ℕ, ◌<◌, List, [], ◌∷◌, ◌++◌, All, length, refl, ap, sym, subst, ◌∙◌}
use Rattle.turn_lock.specs.Tickets.{inside}
use Rattle.turn_table.specs.Seats.{SeatView}
use Rattle.turn_facts.specs.Notes.{IsOwn}
use Rattle.vault.specs.declared.notes.VaultNote.{VaultNote}
use Rattle.vault.specs.declared.bases.VaultBase.{VaultBase}
use Rattle.vault.specs.Names.{names_of}
use Rattle.vault.specs.Notes.{by_of, time_of}
use Rattle.vault.specs.Stores.{Stores}
use Rattle.vault.specs.Vaults.{VaultView}
use Rattle.handoff_calls.proofs.Own.{stores_made, made_own}
use Rattle.handoff_calls.proofs.Turning.{noted_turn, noted_adds}
use Rattle.handoff_calls.proofs.turns.store.Goals as goal

pub leave-requires-clause-notes : goal.leave-requires-clause-notes
leave-requires-clause-notes g c =
    let before : List VaultNote = c.enter-turn.result.value.notes in
    let st = c.store-stored.ensures.noted in
    let is : c.store-stored.new.self.notes ≡ before ++ st.0 = st.1 ∙ ap (λ (v : VaultView). v.notes ++ st.0) c.value_mut.ensures.value in
    let named : c.number-by.result ≡ c.enter-turn.new.seat.number = c.number-by.ensures ∙ sym (ap (λ (s : SeatView VaultNote VaultBase). s.number) c.enter-turn.ensures.seat) in
    let own : All (IsOwn by_of time_of c.enter-turn.new.seat.number []) st.0 =
    subst (λ (n : ℕ). All (IsOwn by_of time_of n []) st.0) named (made_own c.number-by.result c.args.line st.0 (stores_made c.number-by.result c.args.line (names_of c.args.part.now) c.store-stored.result st.0 st.2)) in
    let slot : 0 < length c.enter-turn.new.seat.seen = subst (λ (n : ℕ). n < length c.enter-turn.new.seat.seen) c.enter-turn.ensures.turn.1 c.enter-turn.ensures.turn.0.slot in
    noted_adds by_of time_of c.args.seat.now c.enter-turn.new.seat 0 c.enter-turn.result.slot before c.store-stored.new.self.notes st.0 (inside 0 c.enter-turn.result.number ∷ []) c.enter-turn.ensures.turn.1 slot c.enter-turn.ensures.seat is own

pub returns-clause-did : goal.returns-clause-did
returns-clause-did g c =
    let before : List VaultNote = c.enter-turn.result.value.notes in
    let st = c.store-stored.ensures.noted in
    let is : c.store-stored.new.self.notes ≡ before ++ st.0 = st.1 ∙ ap (λ (v : VaultView). v.notes ++ st.0) c.value_mut.ensures.value in
    let named : c.number-by.result ≡ c.enter-turn.new.seat.number = c.number-by.ensures ∙ sym (ap (λ (s : SeatView VaultNote VaultBase). s.number) c.enter-turn.ensures.seat) in
    let own : All (IsOwn by_of time_of c.enter-turn.new.seat.number []) st.0 =
    subst (λ (n : ℕ). All (IsOwn by_of time_of n []) st.0) named (made_own c.number-by.result c.args.line st.0 (stores_made c.number-by.result c.args.line (names_of c.args.part.now) c.store-stored.result st.0 st.2)) in
    let slot : 0 < length c.enter-turn.new.seat.seen = subst (λ (n : ℕ). n < length c.enter-turn.new.seat.seen) c.enter-turn.ensures.turn.1 c.enter-turn.ensures.turn.0.slot in (
      record { slot = 0; before = before; notes = st.0; drawn = [] },
      noted_turn by_of time_of c.args.seat.now c.enter-turn.new.seat c.leave.new.seat 0 c.enter-turn.result.slot before c.store-stored.new.self.notes st.0 (inside 0 c.enter-turn.result.number ∷ [])
          c.enter-turn.ensures.turn.1 slot c.enter-turn.ensures.more c.enter-turn.ensures.mine c.requires.seat.rest c.enter-turn.ensures.seat is own c.leave.ensures,
      refl,
      refl,
      subst (λ (n : ℕ). Stores n c.args.line (names_of c.args.part.now) c.store-stored.result st.0) c.number-by.ensures st.2,
    )
