-- From looks and what is said of them to the calls.
use Rattle.std.proofs.Common.{◌≡◌, ℕ, ℤ, Bool, List, [], ◌∷◌, ◌++◌, map, Ok, Err, refl, sym, ap, subst, ◌∙◌}
use Rattle.std.specs.Prelude.{IfOk, MatchResult}
use Rattle.std.specs.List.{AllByRecursion}
use Rattle.std.specs.Result.{IsOkAnd}
use Rattle.std.specs.FinMap as fin
use Rattle.std.specs.declared.result.Result.{Result}
use Rattle.turn_table.specs.Seats.{SeatView}
use Rattle.row_types.specs.declared.rows.Key.{Key}
use Rattle.row_types.specs.declared.hits.Hit.{Hit}
use Rattle.hybrid_time.specs.declared.times.Timestamp.{Timestamp}
use Rattle.hybrid_time.specs.declared.levels.Level.{Level}
use Rattle.hybrid_time.specs.Levels.{guarantee_of}
use Rattle.log_model.specs.declared.logs.Entry.{Entry}
use Rattle.log_model.specs.declared.queries.Plan.{Plan}
use Rattle.log_model.specs.declared.queries.Query.{Query}
use Rattle.log_model.specs.Logs.{live}
use Rattle.log_model.specs.Scans.{scan}
use Rattle.coarse_lists.specs.declared.collections.Collection.{Collection}
use Rattle.answer_lines.specs.declared.answers.Answer.{Answer}
use Rattle.answer_lines.specs.declared.answers.Answer.TheVariants as answers
use Rattle.request_lines.specs.declared.requests.Ask.TheVariants as asks
use Rattle.journal_model.specs.declared.notes.Note.{Note}
use Rattle.journal_model.specs.Notes.{log_of}
use Rattle.view_laws.specs.Wholes.{AreOfChannels, Looked as LookedAt, ServesAt, log_at_end, whole}
use Rattle.channel_view.specs.Views.{ChannelView, view_in}
use Rattle.seat_walks.specs.Walks.{Turned, Step, Took, Draw}
use Rattle.seat_walks.proofs.Walking.{walks_append}
use Rattle.shard_core.specs.Keys.{channel_of}
use Rattle.shard_core.specs.Shards.{ChannelBase, IfServed}
use Rattle.shard_core.specs.declared.replies.Looked.{Looked}
use Rattle.shard_core.specs.declared.replies.Looked.TheVariants as looks
use Rattle.call_model.specs.Turns.{by_of, time_of, Looks}
use Rattle.call_model.specs.Calls.{IsCall, LooksAt, log_before, plan_of, tick_left, whole_before}
use Rattle.call_model.specs.Walks.{Did}
use Rattle.shard_calls.specs.Fronts.{FrontView, base_at}
use Rattle.shard_calls.specs.Calls.{Gives}
use Rattle.proxy_search.specs.declared.rounds.Round.{Round}
use Rattle.proxy_search.specs.declared.rounds.Round.TheVariants as rounds
use Rattle.proxy_search.specs.Rounds.{IsRound, ServesFirst, EndsAt, HaveDim, SaysHits, SaysRow, AreHitsOf, least_in}
use Rattle.proxy_search.proofs.Stepping.{LooksOnce}
use Rattle.proxy_search.proofs.Finding.{looks_log, least_same, founds, founds_shown, founds_logs, founds_serve_least, founds_home, dims}

module _ (front : FrontView) (line mine : ℕ) (level : Level) (wait : Bool) (now guarantee : Timestamp) (s m e : SeatView Note ChannelBase) (guaranteed : guarantee.0 ≡ guarantee_of level now.0 mine) (drew : Did s (Draw now.0 ∷ []) m) (named : m.number ≡ s.number) where
  -- ---- searches

  pub round_dims : {E : Type 0} (dim : ℕ) (turns : List (Turned Note)) (round : Result Round E) → dim ≡ front.collection.dim → IfOk round (IsRound front m.number line guarantee.0 wait turns) → IfOk round (HaveDim dim)
  round_dims dim turns (Ok (rounds.Served views)) same is = dims front dim 0 turns views same is.shown
  round_dims dim turns (Ok (rounds.Pending channel tick)) same is = tt
  round_dims dim turns (Err failed) same is = tt

  -- the answer to a search is that of its call
  abbrev IsSearch : Query → Answer → List (Step Note) → Type 0
  IsSearch query answer xs = IsCall front.collection s.number line mine (asks.Search query level wait) answer xs

  finds : (query : Query) (turns : List (Turned Note)) (views : List ChannelView) (ts : Timestamp) (hits : List Hit) → ServesFirst front s.number line guarantee.0 wait front.collection.channels turns views → ts.0 ≡ least_in views
      → AreHitsOf front.collection query ts.0 views hits → IsSearch query (answers.Hits now guarantee ts hits) (Draw now.0 ∷ map Took turns)
  finds query turns views ts hits is at all = record {
    turns = turns;
    only = refl;
    guaranteed = guaranteed;
    looks = is.looks;
    all = is.many;
    least = at ∙ least_same front 0 turns views is.shown;
    scanned =
        all (channel_of front.collection.channels) (founds front turns views) (founds_shown front 0 turns views is.shown)
        (subst (λ (n : ℕ). AllByRecursion (ServesAt n) (founds front turns views)) (sym at) (founds_serve_least front 0 turns views is.shown))
        (founds_home front 0 turns views is.shown)
        ∙ ap (λ (logs : List (List Entry)). scan (whole logs) ts.0 (plan_of front.collection) query) (founds_logs front s.number line guarantee.0 wait 0 0 turns views is.looks is.shown);
  }

  pends : (query : Query) (turns : List (Turned Note)) (channel : ℕ) (tick : Timestamp) → EndsAt front s.number line guarantee.0 wait channel tick.0 turns → IsSearch query (answers.Pending now guarantee channel tick) (Draw now.0 ∷ map Took turns)
  pends query turns channel tick is = record {
    front = is.served;
    last = is.last;
    only = ap (λ (l : List (Turned Note)). Draw now.0 ∷ map Took l) is.only;
    looks = is.looks;
    place = is.place;
    within = is.within;
    pends = record {
      guaranteed = guaranteed;
      look = is.look;
      alone = is.alone;
      told = is.told;
      below = is.below;
    };
  }

  says : {E : Type 0} (query : Query) (turns : List (Turned Note)) (round : Result Round E) (answer : Answer) → IfOk round (IsRound front s.number line guarantee.0 wait turns) → IsOkAnd round (λ r. SaysHits front.collection query now guarantee r answer)
      → IsSearch query answer (Draw now.0 ∷ map Took turns)
  says query turns (Ok (rounds.Served views)) answer is h = subst (λ (a : Answer). IsSearch query a (Draw now.0 ∷ map Took turns)) (sym h.2) (finds query turns views h.0 h.1 is h.3 h.4)
  says query turns (Ok (rounds.Pending channel tick)) answer is h = subst (λ (a : Answer). IsSearch query a (Draw now.0 ∷ map Took turns)) (sym h) (pends query turns channel tick is)
  says query turns (Err failed) answer is h = absurd h

  if_says : {E : Type 0} (query : Query) (turns : List (Turned Note)) (round : Result Round E) (result : Result Answer E) → IfOk round (IsRound front s.number line guarantee.0 wait turns)
      → IfOk result (λ answer. IsOkAnd round (λ r. SaysHits front.collection query now guarantee r answer)) → IfOk result (λ answer. IsSearch query answer (Draw now.0 ∷ map Took turns))
  if_says query turns round (Ok answer) is h = says query turns round answer is h
  if_says query turns round (Err failed) is h = tt

  pub searched : {E : Type 0} (query : Query) (round : Result Round E) (result : Result Answer E)
      → ((turns : List (Turned Note)) × Did m (map Took turns) e × IfOk round (IsRound front m.number line guarantee.0 wait turns))
      → IfOk result (λ answer. IsOkAnd round (λ r. SaysHits front.collection query now guarantee r answer))
      → (xs : List (Step Note)) × Did s xs e × IfOk result (λ answer. IsSearch query answer xs)
  searched query round result looked h =
      let turns : List (Turned Note) = looked.0 in (
        Draw now.0 ∷ map Took turns,
        walks_append by_of time_of s m e (Draw now.0 ∷ []) (map Took turns) drew looked.1,
        if_says query turns round result (subst (λ (n : ℕ). IfOk round (IsRound front n line guarantee.0 wait turns)) named looked.2) h,
      )

  -- ---- gets

  abbrev IsGet : Key → Answer → List (Step Note) → Type 0
  IsGet key answer xs = IsCall front.collection s.number line mine (asks.Get key level wait) answer xs

  module _ (key : Key) (channel : ℕ) (home : channel ≡ channel_of front.collection.channels key.0) where
    abbrev pub GivesAt : Turned Note → Looked → Type 0
    GivesAt t looked = Looks m.number line guarantee.0 wait t.before t.notes t.drawn × Gives (base_at front.collection front.floor channel) guarantee.0 wait (t.before ++ t.notes) looked

    at_home : (t : Turned Note) → t.slot ≡ channel → Looks m.number line guarantee.0 wait t.before t.notes t.drawn → LooksAt s.number line guarantee.0 wait (channel_of front.collection.channels key.0) t
    at_home t slot l = (slot ∙ home, subst (λ (n : ℕ). Looks n line guarantee.0 wait t.before t.notes t.drawn) named l)

    tells : {E : Type 0} (t : Turned Note) (looked : Result Looked E) (answer : Answer) (Q : E → Type 0) → t.slot ≡ channel → MatchResult looked (GivesAt t) Q → IsOkAnd looked (λ l. SaysRow front.collection key now guarantee channel l answer)
        → IsGet key answer (Draw now.0 ∷ Took t ∷ [])
    tells t (Ok (looks.Served view)) answer Q slot g h =
        let told : h.0.0 ≡ tick_left t = h.3 ∙ g.1.0.exact.tick_is in
        subst (λ (a : Answer). IsGet key a (Draw now.0 ∷ Took t ∷ [])) (sym h.2) (record {
          turn = t;
          only = refl;
          guaranteed = guaranteed;
          look = at_home t slot g.0;
          reached = g.1.1;
          tick = told;
          found = h.4 (t.before ++ t.notes) g.1.0.exact g.1.0.sound.journal ∙ ap (λ (log : List Entry). fin.get (live log h.0.0) key.0) (looks_log m.number line guarantee.0 wait t.before t.notes t.drawn g.0);
          columns = h.5;
        })
    tells t (Ok (looks.Pending tick)) answer Q slot g h =
        subst (λ (a : Answer). IsGet key a (Draw now.0 ∷ Took t ∷ [])) (sym h) (record {
          turn = t;
          only = refl;
          home = home;
          pends = record {
            guaranteed = guaranteed;
            look = (slot, subst (λ (n : ℕ). Looks n line guarantee.0 wait t.before t.notes t.drawn) named g.0);
            alone = g.1.0;
            told = g.1.1;
            below = g.1.2;
          };
        })
    tells t (Err failed) answer Q slot g h = absurd h

    if_tells : {E : Type 0} (t : Turned Note) (looked : Result Looked E) (result : Result Answer E) (Q : E → Type 0) → t.slot ≡ channel → MatchResult looked (GivesAt t) Q
        → IfOk result (λ answer. IsOkAnd looked (λ l. SaysRow front.collection key now guarantee channel l answer)) → IfOk result (λ answer. IsGet key answer (Draw now.0 ∷ Took t ∷ []))
    if_tells t looked (Ok answer) Q slot g h = tells t looked answer Q slot g h
    if_tells t looked (Err failed) Q slot g h = tt

    pub got : {E : Type 0} (looked : Result Looked E) (result : Result Answer E) → LooksOnce front line guarantee.0 wait m e channel looked
        → IfOk result (λ answer. IsOkAnd looked (λ l. SaysRow front.collection key now guarantee channel l answer))
        → (xs : List (Step Note)) × Did s xs e × IfOk result (λ answer. IsGet key answer xs)
    got looked result l h =
        let t : Turned Note = l.0 in
        (Draw now.0 ∷ Took t ∷ [], walks_append by_of time_of s m e (Draw now.0 ∷ []) (Took t ∷ []) drew l.1, if_tells t looked result _ l.2 l.3 h)

pub served_here : {E : Type 0} (front : FrontView) (line guarantee : ℕ) (wait : Bool) (m e : SeatView Note ChannelBase) (channel : ℕ) (looked : Result Looked E) → LooksOnce front line guarantee wait m e channel looked
    → IfOk looked (λ l. IfServed l (λ view. view.collection ≡ front.collection))
served_here front line guarantee wait m e channel (Ok (looks.Served view)) l = l.3.1.0.collection
served_here front line guarantee wait m e channel (Ok (looks.Pending tick)) l = tt
served_here front line guarantee wait m e channel (Err failed) l = tt

-- the hits that a search of the views gave
pub hits_are : (collection : Collection) (plan : Plan) (query : Query) (ts : ℕ) (views : List ChannelView) (hits given : List Hit) → hits ≡ given → plan ≡ plan_of collection
    → ((home : ℤ → ℕ) (found : List LookedAt) → map (λ l. l.view) found ≡ map view_in views → AllByRecursion (ServesAt ts) found → AreOfChannels home (map log_at_end found) → given ≡ scan (whole (map log_at_end found)) ts plan query)
    → AreHitsOf collection query ts views hits
hits_are collection plan query ts views hits given same by all = λ home found shown serve homes.
    same ∙ all home found shown serve homes ∙ ap (λ (p : Plan). scan (whole (map log_at_end found)) ts p query) by
