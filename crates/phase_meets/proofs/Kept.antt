-- The journals behind a meet are as they should be.
use Rattle.std.proofs.Common.{◌≡◌, ℕ, ◌<◌, ◌≤◌, true, Option, Some, None, List, [], ◌∷◌, ◌++◌, refl, sym, ap, subst, ◌∙◌, arith, lt-ltb, ltb-true}
use Rattle.turn_facts.specs.Prefixes.{StartsWith}
use Rattle.turn_table.specs.Knowledge.{at_slot}
use Rattle.log_model.proofs.LogLaws.{each-append, each_implied}
use Rattle.coarse_lists.specs.declared.collections.Collection.{Collection}
use Rattle.answer_lines.specs.declared.answers.MeetReply.{MeetReply}
use Rattle.journal_model.specs.declared.notes.Note.{Note}
use Rattle.journal_model.specs.Notes.{ts_of, tick_of}
use Rattle.journal_model.specs.Journals.{is_below, UpTo, AreBelow}
use Rattle.journal_model.proofs.NoteLaws.{tick_of-snoc}
use Rattle.call_model.specs.Calls.{channel_at}
use Rattle.phase_model.specs.Rests.{Rest, AreJournals}
use Rattle.phase_model.specs.Meets.{meet_tick, MeetsIn, Meets}
use Rattle.phase_order.proofs.Ticks.{tick_mono}

later_below : (clock later : ℕ) (o : Option ℕ) → clock ≤ later → is_below o (Some clock) ≡ true → is_below o (Some later) ≡ true
later_below clock later None low is = refl
later_below clock later (Some ts) low is = lt-ltb ts later (let l : ts < clock = ltb-true ts clock is in omega arith)

up_to_below : (ts clock : ℕ) (o : Option ℕ) → ts < clock → UpTo ts o → is_below o (Some clock) ≡ true
up_to_below ts clock None low is = refl
up_to_below ts clock (Some other) low is = lt-ltb other clock (omega arith)

module _ (collection : Collection) (least : ℕ) (old new : Rest) (counted : MeetReply) (rest : AreJournals collection old) (m : Meets collection least old new counted) where
  below_clock : (k : ℕ) → k < collection.channels → AreBelow new.clock (at_slot new.journals k)
  below_clock k below =
      let met : MeetsIn (channel_at collection k) counted.ts.0 counted.failed (at_slot old.journals k) (at_slot new.journals k) = m.channels k below in
      let tick : Note = meet_tick met.by counted.ts.0 in
      let later : counted.ts.0 < new.clock = m.later in
      let above : old.clock ≤ counted.ts.0 = m.above in
      subst (AreBelow new.clock) (sym met.grown)
      (each-append (λ (note : Note). is_below (ts_of note.kind) (Some new.clock) ≡ true) (at_slot old.journals k ++ tick ∷ []) met.more
      (each-append (λ (note : Note). is_below (ts_of note.kind) (Some new.clock) ≡ true) (at_slot old.journals k) (tick ∷ [])
      (each_implied (λ (note : Note). is_below (ts_of note.kind) (Some old.clock) ≡ true) (λ (note : Note). is_below (ts_of note.kind) (Some new.clock) ≡ true)
      (λ note b. later_below old.clock new.clock (ts_of note.kind) (omega arith) b) (at_slot old.journals k) (rest.each k below).below)
      (lt-ltb counted.ts.0 new.clock later, tt))
      (each_implied (λ (note : Note). UpTo counted.ts.0 (ts_of note.kind)) (λ (note : Note). is_below (ts_of note.kind) (Some new.clock) ≡ true)
      (λ note u. up_to_below counted.ts.0 new.clock (ts_of note.kind) later u) met.more met.up_to))

  ticked : (k : ℕ) → k < collection.channels → counted.ts.0 ≤ tick_of (at_slot new.journals k)
  ticked k below =
      let met : MeetsIn (channel_at collection k) counted.ts.0 counted.failed (at_slot old.journals k) (at_slot new.journals k) = m.channels k below in
      let front : List Note = at_slot old.journals k ++ meet_tick met.by counted.ts.0 ∷ [] in
      let s : StartsWith (at_slot new.journals k) front = record { rest = met.more; is = met.grown } in
      let low : tick_of front ≤ tick_of (at_slot new.journals k) = tick_mono s (m.kept k below).sound.journal in
      let e : tick_of front ≡ counted.ts.0 = tick_of-snoc (at_slot old.journals k) (meet_tick met.by counted.ts.0) in omega arith

  pub meet_journals : AreJournals collection new
  meet_journals = record {
    many = m.long ∙ rest.many;
    each = λ k below. record { kept = m.kept k below; below = below_clock k below; ticked = let t : counted.ts.0 ≤ tick_of (at_slot new.journals k) = ticked k below in let e : new.met ≡ counted.ts.0 = m.met in omega arith };
    met = let e : new.met ≡ counted.ts.0 = m.met in let l : counted.ts.0 < new.clock = m.later in omega arith;
    mine = λ caller. let a : old.mine caller < old.clock = rest.mine caller in let b : old.clock ≤ counted.ts.0 = m.above in let l : counted.ts.0 < new.clock = m.later in
        let e : new.mine caller ≡ old.mine caller = ap (λ (mine : ℕ → ℕ). mine caller) m.mine in omega arith;
  }
