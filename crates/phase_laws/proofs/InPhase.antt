-- A line of a phase keeps what the law asks of it.
use Rattle.std.proofs.Common.{◌≡◌, ℕ, ◌<◌, ◌≤◌, List, length, refl, sym, subst, arith}
use Rattle.turn_facts.specs.Counts.{Among}
use Rattle.turn_facts.specs.Notes.{times}
use Rattle.turn_facts.proofs.Places.{at_below}
use Rattle.turn_table.specs.Knowledge.{at_slot}
use Rattle.seat_walks.specs.Walks.{Turned, Step, Took}
use Rattle.coarse_lists.specs.declared.collections.Collection.{Collection}
use Rattle.answer_lines.specs.declared.answers.Answer.{Answer}
use Rattle.answer_lines.specs.declared.answers.Answer.TheVariants as answers
use Rattle.request_lines.specs.declared.requests.Ask.{Ask}
use Rattle.request_lines.specs.declared.requests.Ask.TheVariants as asks
use Rattle.legal_output.specs.Lines.{Asked, Bad, Given, Finish, Line, Start, seals_of, stamps, IsOfKind}
use Rattle.legal_output.specs.Legal.{RefusedRightly, AreTails}
use Rattle.legal_output.specs.Phases.{Running, InPhase, RepliedByChannel, ContentByChannel, tail_below}
use Rattle.legal_output.specs.Outputs.{start_of}
use Rattle.journal_model.specs.declared.notes.Note.{Note}
use Rattle.journal_model.specs.Lists.{IsIn}
use Rattle.journal_model.specs.Notes.{log_of}
use Rattle.call_model.specs.Turns.{time_of}
use Rattle.call_model.specs.Calls.{IsCall}
use Rattle.phase_model.specs.Rests.{Rest, AreJournals}
use Rattle.phase_model.specs.Phases.{IsRefused}
use Rattle.phase_order.proofs.Lines.{Settled, LineDone}
use Rattle.phase_order.proofs.Slots.{all_journals}
use Rattle.phase_logs.specs.Events.{events_in}
use Rattle.phase_logs.proofs.Replies.{replied}
use Rattle.phase_logs.proofs.SealTurns.{seal_stood}
use Rattle.phase_logs.proofs.Seals.{seals_told}
use Rattle.phase_logs.proofs.Shown.{shown}
use Rattle.phase_logs.proofs.Forms.{kind, unmet, not_refused, each_told, stamps_low}
use Rattle.phase_laws.specs.Runs.{running_of}

refused_in : (start : Start) (old new : Running) (number : ℕ) (asked : Asked) (answer : Answer) → IsRefused asked answer → InPhase start old new (record { number = number; asked = asked; answer = answer })
refused_in start old new number (Bad reason) answer is =
    subst (λ (a : Answer). InPhase start old new (record { number = number; asked = Bad reason; answer = a })) (sym is)
    record { kind = tt; refusal = refl; drawn = tt; stamped = tt; unmet = refl; replied = tt; content = tt; sealed = tt }
refused_in start old new number (Given request) answer is = absurd is
refused_in start old new number Finish answer is = absurd is

pub line_refused : (start : Start) (old new : Running) (line : Line) → IsRefused line.asked line.answer → InPhase start old new line
line_refused start old new line is = refused_in start old new line.number line.asked line.answer is

module _ (collection : Collection) (least : ℕ) (old new : Rest) (rows : 0 < collection.seal_rows) (one : 0 < collection.channels) (next : AreJournals collection new)
    (times_low : (k y : ℕ) → Among y (times time_of (at_slot new.journals k)) → y < new.clock) where
  sealed : (by line mine : ℕ) (ask : Ask) (answer : Answer) (steps : List (Step Note)) → ((t : Turned Note) → IsIn (Took t) steps → Settled old.journals new.journals t) → IsCall collection by line mine ask answer steps
      → AreTails (tail_below collection.seal_rows (λ k. events_in (at_slot new.journals k))) 0 (seals_of answer)
  sealed by line mine (asks.Write write) (answers.Wrote said) steps settled c = tt
  sealed by line mine asks.Tick (answers.Ticked stamps) steps settled c = tt
  sealed by line mine asks.Seal (answers.Sealed seals) steps settled c =
      seals_told collection rows old.journals new.journals by line seals
      (λ k seal at.
      let below : k < collection.channels = (let b : k < length seals = at_below seals k seal at in let n : length seals ≡ collection.channels = c.all in omega arith) in
      (all_journals collection new next k, (next.each k below).kept.sound.lawful, seal_stood collection old.journals new.journals by line seals steps settled c k seal at))
  sealed by line mine (asks.Search query level wait) (answers.Hits now guarantee ts hits) steps settled c = tt
  sealed by line mine (asks.Search query level wait) (answers.Pending now guarantee channel tick) steps settled c = tt
  sealed by line mine (asks.Get key level wait) (answers.Found now guarantee ts row) steps settled c = tt
  sealed by line mine (asks.Get key level wait) (answers.Pending now guarantee channel tick) steps settled c = tt
  sealed by line mine ask answer steps settled c = absurd c

  pub line_done : (line : Line) → LineDone collection least old new line → InPhase (start_of collection) (running_of old) (running_of new) line
  line_done line d = record {
    kind = subst (λ (asked : Asked). IsOfKind (start_of collection) asked line.answer) (sym d.asked) (kind collection d.by line.number d.mine d.request.what line.answer d.steps d.call);
    refusal = subst (λ (asked : Asked). RefusedRightly asked line.answer) (sym d.asked) (not_refused collection d.by line.number d.mine d.request.caller d.request.what line.answer d.steps d.call);
    drawn = each_told (λ n. old.clock ≤ n) collection d.by line.number d.mine d.request.what line.answer d.steps d.call (λ x h. (d.within x h).0);
    stamped = stamps_low old.journals new.journals new.clock times_low d.steps d.mine d.settled (λ x h. (d.within x h).1) d.low collection d.by line.number d.request.what line.answer one d.call;
    unmet = unmet collection d.by line.number d.mine d.request.what line.answer d.steps d.call;
    replied = subst (λ (asked : Asked). RepliedByChannel collection.channels (λ k. log_of (at_slot new.journals k)) asked line.answer) (sym d.asked)
        (replied collection old.journals new.journals (all_journals collection new next) d.by line.number d.mine d.request.what line.answer d.steps d.settled d.call);
    content = subst (λ (asked : Asked). ContentByChannel (start_of collection) (λ k. log_of (at_slot new.journals k)) asked line.answer) (sym d.asked)
        (shown collection old new next (start_of collection) refl refl d.by line.number d.mine d.request.what line.answer d.steps d.settled d.call);
    sealed = sealed d.by line.number d.mine d.request.what line.answer d.steps d.settled d.call;
  }
