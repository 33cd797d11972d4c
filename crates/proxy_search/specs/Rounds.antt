-- What stands between the looks of a read and its answer. Only proofs need it.
use Rattle.std.specs.Prelude.{◌≡◌, ℕ, ℤ, ◌+◌, ◌<◌, ◌≤◌, min, Bool, false, List, [], ◌∷◌, ◌++◌, map, length, Option, Some, None}
use Rattle.std.specs.List.{AllByRecursion}
use Rattle.std.specs.Option.{option_map}
use Rattle.std.specs.FinMap as fin
use Rattle.row_types.specs.declared.rows.Key.{Key}
use Rattle.row_types.specs.declared.rows.Row.{Row}
use Rattle.row_types.specs.declared.hits.Hit.{Hit}
use Rattle.hybrid_time.specs.declared.times.Timestamp.{Timestamp}
use Rattle.log_model.specs.declared.queries.Query.{Query}
use Rattle.log_model.specs.Logs.{live}
use Rattle.log_model.specs.Scans.{scan}
use Rattle.coarse_lists.specs.declared.collections.Collection.{Collection}
use Rattle.answer_lines.specs.declared.answers.Named.{Named}
use Rattle.answer_lines.specs.declared.answers.Answer.{Answer}
use Rattle.answer_lines.specs.declared.answers.Answer.TheVariants as answers
use Rattle.legal_output.specs.Lines.{IsRowOf}
use Rattle.journal_model.specs.declared.notes.Note.{Note}
use Rattle.journal_model.specs.Notes.{log_of}
use Rattle.journal_model.specs.Journals.{IsJournal}
use Rattle.journal_model.specs.Views.{IsExact}
use Rattle.view_laws.specs.Wholes.{AreOfChannels, Looked as LookedAt, ServesAt, log_at_end, whole}
use Rattle.channel_view.specs.Views.{ChannelView, view_in}
use Rattle.channel_search.specs.Found.{AreOfDim}
use Rattle.seat_walks.specs.Walks.{Turned}
use Rattle.shard_core.specs.declared.replies.Looked.{Looked}
use Rattle.shard_core.specs.declared.replies.Looked.TheVariants as looks
use Rattle.call_model.specs.Calls.{AreLooks, LooksAt, tick_left, plan_of}
use Rattle.shard_calls.specs.Fronts.{FrontView, base_at}
use Rattle.shard_calls.specs.Calls.{IsViewAt}
use Rattle.proxy_search.specs.declared.rounds.Round.{Round}
use Rattle.proxy_search.specs.declared.rounds.Round.TheVariants as rounds

-- ---- looks

-- a view of what each turn left, in the channels from k on
abbrev pub AreViewsAt : FrontView → ℕ → List (Turned Note) → List ChannelView → Type 0
AreViewsAt front k [] [] = Unit {0}
AreViewsAt front k [] (view ∷ views) = ⊥
AreViewsAt front k (t ∷ turns) [] = ⊥
AreViewsAt front k (t ∷ turns) (view ∷ views) = IsViewAt (base_at front.collection front.floor k) (t.before ++ t.notes) view × AreViewsAt front (k + 1) turns views

-- looks at the first so many channels, which were all served with these views
pub record ServesFirst (front : FrontView) (by line guarantee : ℕ) (wait : Bool) (channels : ℕ) (turns : List (Turned Note)) (views : List ChannelView) : Type 0 where
  pub looks : AreLooks by line guarantee wait 0 turns
  pub many : length turns ≡ channels
  pub shown : AreViewsAt front 0 turns views

-- looks at channels that were served, and at last at one whose tick is below the guarantee
pub record EndsAt (front : FrontView) (by line guarantee : ℕ) (wait : Bool) (channel tick : ℕ) (turns : List (Turned Note)) : Type 0 where
  pub served : List (Turned Note)
  pub last : Turned Note
  pub only : turns ≡ served ++ last ∷ []
  pub looks : AreLooks by line guarantee wait 0 served
  pub place : length served ≡ channel
  pub within : channel < front.collection.channels
  pub look : LooksAt by line guarantee wait channel last
  pub alone : wait ≡ false
  pub told : tick ≡ tick_left last
  pub below : tick < guarantee

abbrev pub IsRound : FrontView → ℕ → ℕ → ℕ → Bool → List (Turned Note) → Round → Type 0
IsRound front by line guarantee wait turns (rounds.Served views) = ServesFirst front by line guarantee wait front.collection.channels turns views
IsRound front by line guarantee wait turns (rounds.Pending channel tick) = EndsAt front by line guarantee wait channel tick.0 turns

-- the views of a round are of a collection of this dimension
abbrev pub HaveDim : ℕ → Round → Type 0
HaveDim dim (rounds.Served views) = AreOfDim dim views
HaveDim dim (rounds.Pending channel tick) = Unit {0}

-- ---- ticks

abbrev pub least_after : ℕ → List ChannelView → ℕ
least_after ts [] = ts
least_after ts (view ∷ views) = least_after (min ts view.tick) views

-- the least of the ticks of views
abbrev pub least_in : List ChannelView → ℕ
least_in [] = 0
least_in (view ∷ views) = least_after view.tick views

-- ---- answers

-- where the views are those of looks at all channels that serve the timestamp, the hits are the scan of the whole
abbrev pub AreHitsOf : Collection → Query → ℕ → List ChannelView → List Hit → Type 0
AreHitsOf collection query ts views hits = (home : ℤ → ℕ) (found : List LookedAt) → map (λ l. l.view) found ≡ map view_in views
    → AllByRecursion (ServesAt ts) found → AreOfChannels home (map log_at_end found)
    → hits ≡ scan (whole (map log_at_end found)) ts (plan_of collection) query

-- what a search says of a round
abbrev pub SaysHits : Collection → Query → Timestamp → Timestamp → Round → Answer → Type 0
SaysHits collection query now guarantee (rounds.Served views) answer =
    (ts : Timestamp) × (hits : List Hit) × (answer ≡ answers.Hits now guarantee ts hits) × (ts.0 ≡ least_in views) × AreHitsOf collection query ts.0 views hits
SaysHits collection query now guarantee (rounds.Pending channel tick) answer = answer ≡ answers.Pending now guarantee channel tick

-- where the view is exact for a journal, the row is that of the key in the journal's log
abbrev pub IsFoundIn : Key → ℕ → ChannelView → Option Named → Type 0
IsFoundIn key ts view row = (notes : List Note) → IsExact notes (view_in view) → IsJournal notes → option_map (λ named. named.row) row ≡ fin.get (live (log_of notes) ts) key.0

-- what a get says of a look
abbrev pub SaysRow : Collection → Key → Timestamp → Timestamp → ℕ → Looked → Answer → Type 0
SaysRow collection key now guarantee channel (looks.Served view) answer =
    (ts : Timestamp) × (row : Option Named) × (answer ≡ answers.Found now guarantee ts row) × (ts.0 ≡ view.tick) × IsFoundIn key ts.0 view row × IsRowOf collection.schema.columns row
SaysRow collection key now guarantee channel (looks.Pending tick) answer = answer ≡ answers.Pending now guarantee channel tick
