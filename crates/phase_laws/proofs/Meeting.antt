-- A meet, and the end, keep what the law asks of them.
use Rattle.std.proofs.Common.{◌≡◌, ℕ, ◌<◌, ◌≤◌, length, ⊎_elim, refl, sym, ap, ◌∙◌, arith}
use Rattle.std.proofs.lemmas.Bool.{cases_lt}
use Rattle.turn_table.specs.Knowledge.{at_slot}
use Rattle.coarse_lists.specs.declared.collections.Collection.{Collection}
use Rattle.answer_lines.specs.declared.answers.MeetReply.{MeetReply}
use Rattle.legal_output.specs.Lines.{Line}
use Rattle.legal_output.specs.Phases.{MeetFacts, EndFacts}
use Rattle.legal_output.specs.Outputs.{start_of}
use Rattle.journal_model.specs.Notes.{log_of}
use Rattle.journal_model.specs.Lists.{joined}
use Rattle.phase_model.specs.Rests.{Rest, AreJournals}
use Rattle.phase_model.specs.Meets.{Meets, IsMeet, IsEnd}
use Rattle.phase_order.proofs.Slots.{slot_past}
use Rattle.phase_logs.specs.Events.{events_in}
use Rattle.phase_logs.proofs.Channels.{logs_of, joined_whole}
use Rattle.phase_meets.proofs.Counted.{same_log, same_events, counts}
use Rattle.phase_laws.specs.Runs.{running_of}

module _ (collection : Collection) (least : ℕ) (old new : Rest) (rows : 0 < collection.seal_rows) (rest : AreJournals collection old) where
  no_slot : length new.journals ≡ length old.journals → (k : ℕ) → collection.channels ≤ k → at_slot new.journals k ≡ at_slot old.journals k
  no_slot long k far =
      slot_past new.journals k (let n : length old.journals ≡ collection.channels = rest.many in omega arith)
      ∙ sym (slot_past old.journals k (let n : length old.journals ≡ collection.channels = rest.many in omega arith))

  log_at : (counted : MeetReply) → Meets collection least old new counted → (k : ℕ) → log_of (at_slot new.journals k) ≡ log_of (at_slot old.journals k)
  log_at counted m k = ⊎_elim (λ (below : k < collection.channels). same_log collection least old new counted rows rest m k below)
      (λ (far : collection.channels ≤ k). ap log_of (no_slot m.long k far)) (cases_lt k collection.channels)

  events_at_rest : (counted : MeetReply) → Meets collection least old new counted → (k : ℕ) → events_in (at_slot new.journals k) ≡ events_in (at_slot old.journals k)
  events_at_rest counted m k = ⊎_elim (λ (below : k < collection.channels). same_events collection least old new counted rows rest m k below)
      (λ (far : collection.channels ≤ k). ap events_in (no_slot m.long k far)) (cases_lt k collection.channels)

  pub meet_facts : (line : Line) → IsMeet collection least old new line → MeetFacts (start_of collection) (running_of old) (running_of new) line
  meet_facts line m = record {
    caller = m.caller;
    counted = m.counted;
    asked = m.asked;
    answer = m.answer;
    drawn = m.meets.above;
    later = m.meets.later;
    met = m.meets.met;
    written = m.meets.mine;
    failures = refl;
    logs = λ i k. log_at m.counted m.meets k i;
    events = λ i k. events_at_rest m.counted m.meets k i;
    log = joined (logs_of old.journals);
    whole = joined_whole collection old rest;
    counts = counts collection least old new m.counted rows rest m.meets;
  }

  pub end_facts : (line : Line) → IsEnd collection least old new line → EndFacts (start_of collection) (running_of old) line
  end_facts line m = record {
    counted = m.counted;
    asked = m.asked;
    answer = m.answer;
    drawn = m.meets.above;
    log = joined (logs_of old.journals);
    whole = joined_whole collection old rest;
    counts = counts collection least old new m.counted rows rest m.meets;
  }
