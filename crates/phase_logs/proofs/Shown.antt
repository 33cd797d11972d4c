-- What a read shows is shown by the logs at the end.
use Rattle.std.proofs.Common.{◌≡◌, ℕ, zero, suc, ◌+◌, ◌<◌, ◌≤◌, Bool, Option, List, [], ◌∷◌, ◌++◌, length, map, inl, inr, refl, sym, ap, subst, ◌∙◌, append_assoc, append-nil, arith}
use Rattle.std.specs.Option.{option_map}
use Rattle.std.specs.List.{AllByRecursion as Each}
use Rattle.std.specs.FinMap as fin
use mathlib.Core.Option.{some-injective, some-ne-none}
use Rattle.row_types.specs.declared.rows.Key.{Key}
use Rattle.row_types.specs.declared.hits.Hit.{Hit}
use Rattle.row_types.specs.Hits.{least}
use Rattle.hybrid_time.specs.declared.levels.Level.{Level}
use Rattle.turn_facts.specs.Prefixes.{IsAt}
use Rattle.turn_facts.proofs.Places.{at_map}
use Rattle.turn_table.specs.Knowledge.{at_slot}
use Rattle.seat_walks.specs.Walks.{Turned, Step, Took}
use Rattle.log_model.specs.declared.logs.Entry.{Entry}
use Rattle.log_model.specs.declared.queries.Query.{Query}
use Rattle.log_model.specs.declared.queries.Plan.{Plan}
use Rattle.log_model.specs.Logs.{IsAbove, IsLog, Rows, key_of, live}
use Rattle.log_model.specs.Scans.{scan}
use Rattle.log_model.proofs.LogLaws.{each_implied, live-more, scan-more}
use Rattle.coarse_lists.specs.declared.collections.Collection.{Collection}
use Rattle.answer_lines.specs.declared.answers.Named.{Named}
use Rattle.answer_lines.specs.declared.answers.Answer.{Answer}
use Rattle.answer_lines.specs.declared.answers.Answer.TheVariants as answers
use Rattle.request_lines.specs.declared.requests.Ask.{Ask}
use Rattle.request_lines.specs.declared.requests.Ask.TheVariants as asks
use Rattle.legal_output.specs.Lines.{Start, channel_of}
use Rattle.legal_output.specs.Phases.{IsWhole, ShowsChannels}
use Rattle.journal_model.specs.declared.notes.Note.{Note}
use Rattle.journal_model.specs.Notes.{log_of}
use Rattle.journal_model.specs.Journals.{IsJournal}
use Rattle.journal_model.specs.Lists.{IsIn, joined}
use Rattle.journal_model.proofs.ListLaws.{all_front}
use Rattle.journal_model.proofs.NoteLaws.{log_of-append}
use Rattle.journal_model.proofs.FollowLaws.{journal_log}
use Rattle.journal_model.proofs.ViewLaws.{Goes, goes_on}
use Rattle.view_laws.specs.Wholes.{IsOfChannel, AreOfChannelsFrom, AreOfChannels, whole}
use Rattle.view_laws.proofs.Wholes.{channels_scan}
use Rattle.call_model.specs.Turns.{Looks}
use Rattle.call_model.specs.Calls.{plan_of, tick_left, LooksAt, AreLooks, least_tick, log_before, FindsHits, FindsRow, IsCall}
use Rattle.call_model.proofs.LookLogs.{look_log}
use Rattle.phase_model.specs.Rests.{Rest, AreJournals}
use Rattle.phase_order.proofs.Places.{in_at, at_in}
use Rattle.phase_order.proofs.Ticks.{journal_front, least_at}
use Rattle.phase_order.proofs.Lines.{Settled}
use Rattle.phase_order.proofs.Slots.{all_journals}
use Rattle.phase_logs.proofs.Channels.{logs_of, rest_of_channels, rest_logs, whole_whole}

-- the log at the end is that which the look found, and entries above its tick
pub record LaterLog (log found : List Entry) (tick : ℕ) : Type 0 where
  pub more : List Entry
  pub is : log ≡ found ++ more
  pub above : IsAbove tick more

pub later_log : (old new : List (List Note)) (t : Turned Note) (k : ℕ) → ((j : ℕ) → IsJournal (at_slot new j)) → Settled old new t → t.slot ≡ k → log_of t.notes ≡ [] → LaterLog (log_of (at_slot new k)) (log_of t.before) (tick_left t)
later_log old new t k journals s home none =
    let at : at_slot new k ≡ (t.before ++ t.notes) ++ s.stands.rest = ap (at_slot new) (sym home) ∙ s.stands.is in
    let goes : Goes (t.before ++ t.notes) s.stands.rest = goes_on (t.before ++ t.notes) s.stands.rest (subst IsJournal at (journals k)) in
    record {
      more = log_of s.stands.rest;
      is = ap log_of at ∙ log_of-append (t.before ++ t.notes) s.stands.rest
          ∙ ap (λ (l : List Entry). l ++ log_of s.stands.rest) (log_of-append t.before t.notes ∙ ap (λ (l : List Entry). log_of t.before ++ l) none ∙ append-nil (log_of t.before));
      above = goes.above;
    }

above_lower : (ts tick : ℕ) (more : List Entry) → ts ≤ tick → IsAbove tick more → IsAbove ts more
above_lower ts tick more low above = each_implied (λ (entry : Entry). tick < entry.ts.0) (λ (entry : Entry). ts < entry.ts.0) (λ entry h. omega arith) more above

later_live : (log found : List Entry) (tick ts : ℕ) → LaterLog log found tick → ts ≤ tick → live log ts ≡ live found ts
later_live log found tick ts l low = ap (λ (x : List Entry). live x ts) l.is ∙ live-more found l.more ts (above_lower ts tick l.more low l.above)

later_scan : (log found : List Entry) (tick ts : ℕ) (plan : Plan) (query : Query) → LaterLog log found tick → ts ≤ tick → scan log ts plan query ≡ scan found ts plan query
later_scan log found tick ts plan query l low = ap (λ (x : List Entry). scan x ts plan query) l.is ∙ scan-more found l.more ts plan query (above_lower ts tick l.more low l.above)

-- ---- looks over all channels

looks_each : (by line guarantee : ℕ) (wait : Bool) (k : ℕ) (turns : List (Turned Note)) (i : ℕ) (t : Turned Note) → AreLooks by line guarantee wait k turns → IsAt turns i t
    → (t.slot ≡ k + i) × Looks by line guarantee wait t.before t.notes t.drawn
looks_each by line guarantee wait k [] i t a at = absurd (some-ne-none t (sym at))
looks_each by line guarantee wait k (u ∷ turns) zero t a at =
    subst (λ (v : Turned Note). (v.slot ≡ k + 0) × Looks by line guarantee wait v.before v.notes v.drawn) (some-injective u t at) ((let e : u.slot ≡ k = a.0.0 in omega arith), a.0.1)
looks_each by line guarantee wait k (u ∷ turns) (suc i) t a at =
    let r = looks_each by line guarantee wait (k + 1) turns i t a.2 at in ((let e : t.slot ≡ (k + 1) + i = r.0 in omega arith), r.1)

module _ (by line guarantee : ℕ) (wait : Bool) where
  -- of looks from the channel k on
  befores_each : (P : ℕ → Turned Note → Type 0) (Q : ℕ → List (List Entry) → Type 0) → ((k : ℕ) → Q k []) → ((k : ℕ) (t : Turned Note) (logs : List (List Entry)) → P k t → Q (k + 1) logs → Q k (log_before t ∷ logs))
      → (k : ℕ) (turns : List (Turned Note)) → AreLooks by line guarantee wait k turns → ((t : Turned Note) (j : ℕ) → IsIn t turns → LooksAt by line guarantee wait j t → P j t) → Q k (map log_before turns)
  befores_each P Q none more k [] a f = none k
  befores_each P Q none more k (t ∷ turns) a f = more k t (map log_before turns) (f t k (inl refl) a.0) (befores_each P Q none more (k + 1) turns a.2 (λ u j h l. f u j (inr h) l))

  -- the scans of what looks found are those of the logs at the end
  scans_same : (scan_of : List Entry → List Hit) (k : ℕ) (turns : List (Turned Note)) (journals : List (List Note)) → length turns ≡ length journals → AreLooks by line guarantee wait k turns
      → ((t : Turned Note) (i : ℕ) → IsAt turns i t → scan_of (log_of (at_slot journals i)) ≡ scan_of (log_before t)) → map scan_of (map log_before turns) ≡ map scan_of (logs_of journals)
  scans_same scan_of k [] [] many a f = refl
  scans_same scan_of k [] (notes ∷ journals) many a f = absurd (omega arith)
  scans_same scan_of k (t ∷ turns) [] many a f = absurd (omega arith)
  scans_same scan_of k (t ∷ turns) (notes ∷ journals) many a f =
      ap (λ (hits : List Hit). hits ∷ map scan_of (map log_before turns)) (sym (f t 0 refl))
      ∙ ap (λ (l : List (List Hit)). scan_of (log_of notes) ∷ l) (scans_same scan_of (k + 1) turns journals (omega arith) a.2 (λ u i at. f u (suc i) at))

module _ (collection : Collection) (old new : Rest) (next : AreJournals collection new) where
  journals : (k : ℕ) → IsJournal (at_slot new.journals k)
  journals = all_journals collection new next

  -- what a look found is a beginning of a journal whose keys are of its channel
  found_of_channel : (t : Turned Note) (k : ℕ) → Settled old.journals new.journals t → t.slot ≡ k → k < collection.channels → IsOfChannel (channel_of collection.channels) k (log_of t.before)
  found_of_channel t k s home below =
      let at : at_slot new.journals k ≡ (t.before ++ t.notes) ++ s.stands.rest = ap (at_slot new.journals) (sym home) ∙ s.stands.is in
      let log : log_of (at_slot new.journals k) ≡ log_of t.before ++ (log_of t.notes ++ log_of s.stands.rest) =
      ap log_of at ∙ log_of-append (t.before ++ t.notes) s.stands.rest ∙ ap (λ (l : List Entry). l ++ log_of s.stands.rest) (log_of-append t.before t.notes) ∙ append_assoc (log_of t.before) (log_of t.notes) (log_of s.stands.rest) in
      all_front (λ (entry : Entry). channel_of collection.channels (key_of entry.write) ≡ k) (log_of t.before) (log_of t.notes ++ log_of s.stands.rest) (subst (IsOfChannel (channel_of collection.channels) k) log (next.each k below).kept.keys)

  found_log : (t : Turned Note) → Settled old.journals new.journals t → IsLog (log_of t.before)
  found_log t s =
      journal_log t.before (journal_front t.before (t.notes ++ s.stands.rest) (subst IsJournal (s.stands.is ∙ append_assoc t.before t.notes s.stands.rest) (journals t.slot)))

  hits_shown : (by line mine : ℕ) (query : Query) (level : Level) (wait : Bool) (now guarantee ts : ℕ) (hits : List Hit) (steps : List (Step Note)) → ((t : Turned Note) → IsIn (Took t) steps → Settled old.journals new.journals t)
      → FindsHits collection by line mine query level wait now guarantee ts hits steps → hits ≡ scan (whole (logs_of new.journals)) ts (plan_of collection) query
  hits_shown by line mine query level wait now guarantee ts hits steps settled c =
      let took : (t : Turned Note) (i : ℕ) → IsAt c.turns i t → Settled old.journals new.journals t = λ t i at. settled t (subst (IsIn (Took t)) (sym c.only) (inr (at_in (Took t) (map Took c.turns) i (at_map Took c.turns i t at)))) in
      let within : (t : Turned Note) → IsIn t c.turns → Settled old.journals new.journals t = λ t h. (let r = in_at t c.turns h in took t r.0 r.1) in
      let many : length c.turns ≡ length new.journals = c.all ∙ sym next.many in
      let slots : (t : Turned Note) (k : ℕ) → IsIn t c.turns → LooksAt by line guarantee wait k t → k < collection.channels = λ t k h l.
      (let s : t.slot < length new.journals = (within t h).slot in let e : t.slot ≡ k = l.0 in let n : length new.journals ≡ collection.channels = next.many in omega arith) in
      let channels : AreOfChannels (channel_of collection.channels) (map log_before c.turns) =
      befores_each by line guarantee wait (λ k t. IsOfChannel (channel_of collection.channels) k (log_before t)) (AreOfChannelsFrom (channel_of collection.channels)) (λ k. tt) (λ k t logs here rest. (here, rest)) 0 c.turns c.looks
      (λ t k h l. found_of_channel t k (within t h) l.0 (slots t k h l)) in
      let logs : Each IsLog (map log_before c.turns) =
      befores_each by line guarantee wait (λ k t. IsLog (log_before t)) (λ k l. Each IsLog l) (λ k. tt) (λ k t logs here rest. (here, rest)) 0 c.turns c.looks (λ t k h l. found_log t (within t h)) in
      let same : map (λ log. scan log ts (plan_of collection) query) (map log_before c.turns) ≡ map (λ log. scan log ts (plan_of collection) query) (logs_of new.journals) =
      scans_same by line guarantee wait (λ log. scan log ts (plan_of collection) query) 0 c.turns new.journals many c.looks
      (λ t i at.
      let l = looks_each by line guarantee wait 0 c.turns i t c.looks at in
      later_scan (log_of (at_slot new.journals i)) (log_before t) (tick_left t) ts (plan_of collection) query
      (later_log old.journals new.journals t i journals (took t i at) (let e : t.slot ≡ 0 + i = l.0 in omega arith) (look_log by line guarantee wait t.before t.notes t.drawn l.1))
      (let low : least_tick c.turns ≤ tick_left t = least_at c.turns i t at in let is : ts ≡ least_tick c.turns = c.least in omega arith)) in
      c.scanned
      ∙ sym (channels_scan ts (plan_of collection) query (channel_of collection.channels) (map log_before c.turns) channels logs)
      ∙ ap (λ (lists : List (List Hit)). least query.k (joined lists)) same
      ∙ channels_scan ts (plan_of collection) query (channel_of collection.channels) (logs_of new.journals) (rest_of_channels collection new next) (rest_logs collection new next)

  row_shown : (by line mine : ℕ) (key : Key) (level : Level) (wait : Bool) (now guarantee ts : ℕ) (row : Option Named) (steps : List (Step Note)) → ((t : Turned Note) → IsIn (Took t) steps → Settled old.journals new.journals t)
      → FindsRow collection by line mine key level wait now guarantee ts row steps
      → option_map (λ named. named.row) row ≡ fin.get (live (log_of (at_slot new.journals (channel_of collection.channels key.0))) ts) key.0
  row_shown by line mine key level wait now guarantee ts row steps settled c =
      let k : ℕ = channel_of collection.channels key.0 in
      let s : Settled old.journals new.journals c.turn = settled c.turn (subst (IsIn (Took c.turn)) (sym c.only) (inr (inl refl))) in
      let l : LaterLog (log_of (at_slot new.journals k)) (log_of c.turn.before) (tick_left c.turn) =
      later_log old.journals new.journals c.turn k journals s c.look.0 (look_log by line guarantee wait c.turn.before c.turn.notes c.turn.drawn c.look.1) in
      c.found ∙ ap (λ (rows : Rows). fin.get rows key.0) (sym (later_live (log_of (at_slot new.journals k)) (log_of c.turn.before) (tick_left c.turn) ts l (let is : ts ≡ tick_left c.turn = c.tick in omega arith)))

  -- a search shows the whole of the logs, and a get the log of its key's channel
  pub shown : (start : Start) → start.channels ≡ collection.channels → start.plan ≡ plan_of collection → (by line mine : ℕ) (ask : Ask) (answer : Answer) (steps : List (Step Note)) → ((t : Turned Note) → IsIn (Took t) steps → Settled old.journals new.journals t)
      → IsCall collection by line mine ask answer steps → ShowsChannels start (λ k. log_of (at_slot new.journals k)) ask answer
  shown start many plan by line mine (asks.Write write) (answers.Wrote said) steps settled c = tt
  shown start many plan by line mine asks.Tick (answers.Ticked stamps) steps settled c = tt
  shown start many plan by line mine asks.Seal (answers.Sealed seals) steps settled c = tt
  shown start many plan by line mine (asks.Search query level wait) (answers.Hits now guarantee ts hits) steps settled c = (
    whole (logs_of new.journals),
    subst (λ (n : ℕ). IsWhole n (λ k. log_of (at_slot new.journals k)) (whole (logs_of new.journals))) (sym many) (whole_whole collection new next),
    hits_shown by line mine query level wait now.0 guarantee.0 ts.0 hits steps settled c ∙ ap (λ (p : Plan). scan (whole (logs_of new.journals)) ts.0 p query) (sym plan),
  )
  shown start many plan by line mine (asks.Search query level wait) (answers.Pending now guarantee channel tick) steps settled c = tt
  shown start many plan by line mine (asks.Get key level wait) (answers.Found now guarantee ts row) steps settled c =
      subst (λ (n : ℕ). option_map (λ named. named.row) row ≡ fin.get (live (log_of (at_slot new.journals (channel_of n key.0))) ts.0) key.0) (sym many)
      (row_shown by line mine key level wait now.0 guarantee.0 ts.0 row steps settled c)
  shown start many plan by line mine (asks.Get key level wait) (answers.Pending now guarantee channel tick) steps settled c = tt
  shown start many plan by line mine ask answer steps settled c = absurd c
