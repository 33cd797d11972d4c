-- The form of an answer, its refusals and its numbers.
use Rattle.std.proofs.Common.{◌≡◌, ℕ, ◌<◌, ◌≤◌, Bool, true, false, None, List, [], ◌∷◌, ◌++◌, length, map, inl, inr, refl, sym, subst, ◌∙◌, arith}
use Rattle.std.specs.List.{AllByRecursion as Each}
use Rattle.turn_facts.specs.Counts.{count, Among}
use Rattle.turn_facts.specs.Notes.{times}
use Rattle.turn_facts.specs.Prefixes.{IsAt}
use Rattle.turn_facts.proofs.Places.{at_map, at_last}
use Rattle.turn_table.specs.Knowledge.{at_slot}
use Rattle.seat_walks.specs.Walks.{Turned, Step, Draw, Took, all_drawn}
use Rattle.hybrid_time.specs.declared.levels.Level.{Level}
use Rattle.hybrid_time.specs.Levels.{guarantee_of}
use Rattle.log_model.specs.declared.logs.Write.{Write}
use Rattle.log_model.specs.declared.logs.Write.TheVariants as writes
use Rattle.coarse_lists.specs.declared.collections.Collection.{Collection}
use Rattle.answer_lines.specs.declared.answers.Answer.{Answer}
use Rattle.answer_lines.specs.declared.answers.Answer.TheVariants as answers
use Rattle.request_lines.specs.declared.requests.Ask.{Ask}
use Rattle.request_lines.specs.declared.requests.Ask.TheVariants as asks
use Rattle.legal_output.specs.Lines.{Given, IsOfMetric, IsReplyTo, IsAnswerTo, met_of, drawn, stamps}
use Rattle.legal_output.specs.Legal.{told_of, RefusedRightly}
use Rattle.legal_output.specs.Outputs.{start_of}
use Rattle.journal_model.specs.declared.notes.Note.{Note}
use Rattle.journal_model.specs.Lists.{IsIn}
use Rattle.journal_model.proofs.ListLaws.{all_from}
use Rattle.call_model.specs.Turns.{time_of}
use Rattle.call_model.specs.Calls.{plan_of, tick_left, least_tick, IsCall}
use Rattle.phase_order.proofs.Places.{at_in}
use Rattle.phase_order.proofs.Steps.{among_here, among_left}
use Rattle.phase_order.proofs.Stamps.{in_among, tick_under, guarantee_under}
use Rattle.phase_order.proofs.Drawn.{drawn_few}
use Rattle.phase_order.proofs.Ticks.{IsLeast, least_is}
use Rattle.phase_order.proofs.Lines.{Settled}
use Rattle.phase_logs.proofs.Metrics.{scan_metric}

reply_kind : (write : Write) (there : Bool) → IsReplyTo write (told_of write there)
reply_kind (writes.Insert row) true = tt
reply_kind (writes.Insert row) false = tt
reply_kind (writes.Upsert row) there = tt
reply_kind (writes.Delete key) there = tt

pub kind : (collection : Collection) (by line mine : ℕ) (ask : Ask) (answer : Answer) (steps : List (Step Note)) → IsCall collection by line mine ask answer steps → IsAnswerTo (start_of collection) ask answer
kind collection by line mine (asks.Write write) (answers.Wrote said) steps c = subst (IsReplyTo write) (sym c.writes.told) (reply_kind write _)
kind collection by line mine asks.Tick (answers.Ticked stamps) steps c = c.all
kind collection by line mine asks.Seal (answers.Sealed seals) steps c = c.all
kind collection by line mine (asks.Search query level wait) (answers.Hits now guarantee ts hits) steps c =
    subst (Each (λ hit. IsOfMetric collection.metric hit.distance)) (sym c.scanned) (scan_metric _ ts.0 (plan_of collection) query)
kind collection by line mine (asks.Search query level wait) (answers.Pending now guarantee channel tick) steps c = tt
kind collection by line mine (asks.Get key level wait) (answers.Found now guarantee ts row) steps c = c.columns
kind collection by line mine (asks.Get key level wait) (answers.Pending now guarantee channel tick) steps c = tt
kind collection by line mine ask answer steps c = absurd c

pub unmet : (collection : Collection) (by line mine : ℕ) (ask : Ask) (answer : Answer) (steps : List (Step Note)) → IsCall collection by line mine ask answer steps → met_of answer ≡ None
unmet collection by line mine (asks.Write write) (answers.Wrote said) steps c = refl
unmet collection by line mine asks.Tick (answers.Ticked stamps) steps c = refl
unmet collection by line mine asks.Seal (answers.Sealed seals) steps c = refl
unmet collection by line mine (asks.Search query level wait) (answers.Hits now guarantee ts hits) steps c = refl
unmet collection by line mine (asks.Search query level wait) (answers.Pending now guarantee channel tick) steps c = refl
unmet collection by line mine (asks.Get key level wait) (answers.Found now guarantee ts row) steps c = refl
unmet collection by line mine (asks.Get key level wait) (answers.Pending now guarantee channel tick) steps c = refl
unmet collection by line mine ask answer steps c = absurd c

pub not_refused : (collection : Collection) (by line mine caller : ℕ) (ask : Ask) (answer : Answer) (steps : List (Step Note)) → IsCall collection by line mine ask answer steps → RefusedRightly (Given (record { caller = caller; what = ask })) answer
not_refused collection by line mine caller (asks.Write write) (answers.Wrote said) steps c = tt
not_refused collection by line mine caller asks.Tick (answers.Ticked stamps) steps c = tt
not_refused collection by line mine caller asks.Seal (answers.Sealed seals) steps c = tt
not_refused collection by line mine caller (asks.Search query level wait) (answers.Hits now guarantee ts hits) steps c = tt
not_refused collection by line mine caller (asks.Search query level wait) (answers.Pending now guarantee channel tick) steps c = tt
not_refused collection by line mine caller (asks.Get key level wait) (answers.Found now guarantee ts row) steps c = tt
not_refused collection by line mine caller (asks.Get key level wait) (answers.Pending now guarantee channel tick) steps c = tt
not_refused collection by line mine caller ask answer steps c = absurd c

pub each_told : (P : ℕ → Type 0) (collection : Collection) (by line mine : ℕ) (ask : Ask) (answer : Answer) (steps : List (Step Note)) → IsCall collection by line mine ask answer steps → ((x : ℕ) → Among x (all_drawn steps) → P x) → Each P (drawn answer)
each_told P collection by line mine ask answer steps c f =
    all_from P (drawn answer) (λ x h. f x (let a : Among x (drawn answer) = in_among x (drawn answer) h in let d : count x (drawn answer) ≤ count x (all_drawn steps) = drawn_few collection by line mine ask answer steps c x in omega arith))

-- each timestamp of an answer is below the clock at the end
module _ (old new : List (List Note)) (last : ℕ) (times_low : (k y : ℕ) → Among y (times time_of (at_slot new k)) → y < last) (steps : List (Step Note)) (mine : ℕ)
    (settled : (t : Turned Note) → IsIn (Took t) steps → Settled old new t) (drawn_low : (x : ℕ) → Among x (all_drawn steps) → x < last) (mine_low : (x : ℕ) → Among x (all_drawn steps) → mine < x) where
  tick_low : (t : Turned Note) → IsIn (Took t) steps → 0 < last → tick_left t < last
  tick_low t h one = tick_under (at_slot new t.slot) (t.before ++ t.notes) last (settled t h).stands (times_low t.slot) one

  read_low : (level : Level) (now guarantee ts : ℕ) (t : Turned Note) → Among now (all_drawn steps) → guarantee ≡ guarantee_of level now mine → IsIn (Took t) steps → ts ≤ tick_left t → Each (λ n. n < last) (now ∷ guarantee ∷ ts ∷ [])
  read_low level now guarantee ts t drew is h low =
      let n : now < last = drawn_low now drew in
      let m : mine < now = mine_low now drew in
      let t' : tick_left t < last = tick_low t h (omega arith) in
      (n, (guarantee_under level now mine guarantee last is n (omega arith), (omega arith, tt)))

  first_drawn : (now : ℕ) (rest : List (Step Note)) → steps ≡ Draw now ∷ rest → Among now (all_drawn steps)
  first_drawn now rest is = subst (λ (l : List (Step Note)). Among now (all_drawn l)) (sym is) (among_left now (now ∷ []) (all_drawn rest) (among_here now []))

  taken_look : (now : ℕ) (turns : List (Turned Note)) (i : ℕ) (t : Turned Note) → steps ≡ Draw now ∷ map Took turns → IsAt turns i t → IsIn (Took t) steps
  taken_look now turns i t is at = subst (IsIn (Took t)) (sym is) (inr (at_in (Took t) (map Took turns) i (at_map Took turns i t at)))

  taken_one : (now : ℕ) (t : Turned Note) → steps ≡ Draw now ∷ Took t ∷ [] → IsIn (Took t) steps
  taken_one now t is = subst (IsIn (Took t)) (sym is) (inr (inl refl))

  pub stamps_low : (collection : Collection) (by line : ℕ) (ask : Ask) (answer : Answer) → 0 < collection.channels → IsCall collection by line mine ask answer steps → Each (λ n. n < last) (stamps answer)
  stamps_low collection by line (asks.Write write) (answers.Wrote said) one c = each_told (λ n. n < last) collection by line mine (asks.Write write) (answers.Wrote said) steps c drawn_low
  stamps_low collection by line asks.Tick (answers.Ticked ticks) one c = each_told (λ n. n < last) collection by line mine asks.Tick (answers.Ticked ticks) steps c drawn_low
  stamps_low collection by line asks.Seal (answers.Sealed seals) one c = each_told (λ n. n < last) collection by line mine asks.Seal (answers.Sealed seals) steps c drawn_low
  stamps_low collection by line (asks.Search query level wait) (answers.Hits now guarantee ts hits) one c =
      let l : IsLeast c.turns (least_tick c.turns) = least_is c.turns (let n : length c.turns ≡ collection.channels = c.all in omega arith) in
      let same : tick_left l.turn ≡ ts.0 = l.same ∙ sym c.least in
      read_low level now.0 guarantee.0 ts.0 l.turn (first_drawn now.0 (map Took c.turns) c.only) c.guaranteed (taken_look now.0 c.turns l.place l.turn c.only l.there) (omega arith)
  stamps_low collection by line (asks.Search query level wait) (answers.Pending now guarantee channel tick) one c =
      let same : tick.0 ≡ tick_left c.last = c.pends.told in
      read_low level now.0 guarantee.0 tick.0 c.last (first_drawn now.0 (map Took (c.front ++ c.last ∷ [])) c.only) c.pends.guaranteed
      (taken_look now.0 (c.front ++ c.last ∷ []) (length c.front) c.last c.only (at_last c.front c.last)) (omega arith)
  stamps_low collection by line (asks.Get key level wait) (answers.Found now guarantee ts row) one c =
      let same : ts.0 ≡ tick_left c.turn = c.tick in
      read_low level now.0 guarantee.0 ts.0 c.turn (first_drawn now.0 (Took c.turn ∷ []) c.only) c.guaranteed (taken_one now.0 c.turn c.only) (omega arith)
  stamps_low collection by line (asks.Get key level wait) (answers.Pending now guarantee channel tick) one c =
      let same : tick.0 ≡ tick_left c.turn = c.pends.told in
      read_low level now.0 guarantee.0 tick.0 c.turn (first_drawn now.0 (Took c.turn ∷ []) c.only) c.pends.guaranteed (taken_one now.0 c.turn c.only) (omega arith)
  stamps_low collection by line ask answer one c = absurd c
