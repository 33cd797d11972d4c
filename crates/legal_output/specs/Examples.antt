-- Small outputs of a collection of one channel: one that is legal, and for each clause one that breaks it alone.
use Rattle.std.specs.Prelude.{◌≢◌, ℕ, pos, Bool, true, false, List, [], ◌∷◌, map, Some, None}
use Rattle.std.specs.List.{AllByRecursion as Each}
use Rattle.row_types.specs.declared.rows.Key.{Key}
use Rattle.row_types.specs.declared.rows.Row.{Row}
use Rattle.row_types.specs.declared.hits.Hit.{Hit}
use Rattle.row_types.specs.declared.hits.Metric.TheVariants.{Hamming}
use Rattle.hybrid_time.specs.declared.times.Timestamp.{Timestamp}
use Rattle.hybrid_time.specs.declared.levels.Level.{Level}
use Rattle.hybrid_time.specs.declared.levels.Level.TheVariants.{Strong, Session, Eventually}
use Rattle.log_model.specs.declared.logs.Write.TheVariants.{Insert}
use Rattle.log_model.specs.declared.queries.Query.{Query}
use Rattle.log_model.specs.Scans.{hit_of}
use Rattle.answer_lines.specs.declared.reasons.Reason.TheVariants.{NotJson}
use Rattle.answer_lines.specs.declared.answers.Wrote.{Wrote}
use Rattle.answer_lines.specs.declared.answers.Wrote.TheVariants.{Inserted, Exists}
use Rattle.answer_lines.specs.declared.answers.MeetReply.{MeetReply}
use Rattle.answer_lines.specs.declared.answers.Answer.{Answer}
use Rattle.answer_lines.specs.declared.answers.Answer.TheVariants as answers
use Rattle.request_lines.specs.declared.requests.Ask.{Ask}
use Rattle.request_lines.specs.declared.requests.Ask.TheVariants as asks
use Rattle.legal_output.specs.Lines.{Asked, Bad, Given, Finish, Line, Start}
use Rattle.legal_output.specs.Printed.{printed_log, past_of, all_drawn}
use Rattle.legal_output.specs.Legal.{AtEach, HasForm, RefusedRightly, HasNumbers, Replied, HasContent, HasLevel, InOrder, PendingRightly, CountsRightly}

pub data Clause : Type 0 where
  Form : Clause
  Refusals : Clause
  Numbers : Clause
  Writes : Clause
  Content : Clause
  Levels : Clause
  Order : Clause
  Pending : Clause
  Meets : Clause

abbrev pub asks_in : List Line → List Asked
asks_in lines = map (λ line. line.asked) lines

-- one clause of a legal output
abbrev pub Holds : Start → List Line → Clause → Type 0
Holds start lines Form = HasForm start (asks_in lines) lines
Holds start lines Refusals = Each (λ line. RefusedRightly line.asked line.answer) lines
Holds start lines Numbers = HasNumbers start (all_drawn lines)
Holds start lines Writes = Each (λ line. Replied (printed_log start lines) line.asked line.answer) lines
Holds start lines Content = Each (λ line. HasContent start.plan (printed_log start lines) line.asked line.answer) lines
Holds start lines Levels = AtEach (λ earlier line. HasLevel start.channels (past_of start earlier line) line.asked line.answer) [] lines
Holds start lines Order = AtEach (λ earlier line. InOrder (past_of start earlier line) line.answer) [] lines
Holds start lines Pending = AtEach (λ earlier line. PendingRightly start.channels (past_of start earlier line) line.asked line.answer) [] lines
Holds start lines Meets = AtEach (λ earlier line. CountsRightly start lines earlier line.answer) [] lines

-- the lines break a clause, and keep all others
pub record BreaksJust (start : Start) (lines : List Line) (clause : Clause) : Type 0 where
  pub broken : Holds start lines clause → ⊥
  pub others : (other : Clause) → other ≢ clause → Holds start lines other

-- a new collection of one channel, under Hamming distances, whose tails become segments at two rows
abbrev pub one_channel : Start
one_channel = record { channels = 1; seal_rows = 2; plan = record { metric = Hamming }; columns = []; base = []; m0 = 0 }

abbrev pub stamp : ℕ → Timestamp
stamp n = record { 0 = n }

abbrev pub seven : Key
seven = record { 0 = pos 7 }

abbrev pub row_seven : List Bool → Row
row_seven vector = record { key = seven; vector = vector; fields = [] }

-- the one row that is nearest to a vector
abbrev pub nearest_to : List Bool → Query
nearest_to vector = record { vector = vector; k = 1; filter = None }

-- the row as a search for its vector finds it
abbrev pub found : List Bool → Hit
found vector = hit_of one_channel.plan (nearest_to vector) (row_seven vector)

abbrev pub ask_line : ℕ → ℕ → Ask → Answer → Line
ask_line number caller ask answer = record { number = number; asked = Given (record { caller = caller; what = ask }); answer = answer }

abbrev pub insert_line : ℕ → List Bool → ℕ → Wrote → Line
insert_line number vector ts what = ask_line number 0 (asks.Write (Insert (row_seven vector))) (answers.Wrote (record { ts = stamp ts; what = what }))

abbrev pub tick_line : ℕ → ℕ → ℕ → Line
tick_line number caller ts = ask_line number caller asks.Tick (answers.Ticked (stamp ts ∷ []))

abbrev pub seal_line : ℕ → ℕ → ℕ → Line
seal_line number ts rows = ask_line number 0 asks.Seal (answers.Sealed ((stamp ts, rows) ∷ []))

-- a search that began at `now`
abbrev pub search_line : ℕ → List Bool → Level → ℕ → ℕ → ℕ → List Hit → Line
search_line number vector level now guarantee ts hits = ask_line number 0 (asks.Search (nearest_to vector) level true) (answers.Hits (stamp now) (stamp guarantee) (stamp ts) hits)

abbrev pub get_line : ℕ → List Bool → ℕ → ℕ → ℕ → Line
get_line number vector now guarantee ts =
    ask_line number 0 (asks.Get seven Session true) (answers.Found (stamp now) (stamp guarantee) (stamp ts) (Some (record { row = row_seven vector; names = [] })))

-- a get of another caller
abbrev pub pending_line : ℕ → Bool → ℕ → ℕ → Line
pending_line number wait now tick = ask_line number 1 (asks.Get seven Strong wait) (answers.Pending (stamp now) (stamp now) 0 (stamp tick))

abbrev pub refused_line : ℕ → Line
refused_line number = record { number = number; asked = Bad NotJson; answer = answers.Refused NotJson }

-- what is counted where no node has rows: the live keys, the rows in the tail, and the segments that wait
abbrev pub in_tail : ℕ → ℕ → ℕ → ℕ → MeetReply
in_tail ts live tail waiting = record { ts = stamp ts; live = live; tail = tail; waiting = waiting; node_rows = 0; node_live = 0; failed = 0 }

-- and where all rows are on nodes
abbrev pub on_nodes : ℕ → ℕ → ℕ → ℕ → MeetReply
on_nodes ts live node_rows node_live = record { ts = stamp ts; live = live; tail = 0; waiting = 0; node_rows = node_rows; node_live = node_live; failed = 0 }

abbrev pub meet_line : ℕ → MeetReply → Line
meet_line number counted = ask_line number 0 asks.Meet (answers.Met counted)

abbrev pub end_line : ℕ → MeetReply → Line
end_line number counted = record { number = number; asked = Finish; answer = answers.End counted }

-- an end with nothing to count
abbrev pub empty_end : ℕ → ℕ → Line
empty_end number ts = end_line number (in_tail ts 0 0 0)

-- the timestamps of two callers cross: the second one's tick is below the first one's insert; the first sees its row
-- in a search and in a get, the second does not wait; the tail of one row is sealed
abbrev pub legal_lines : List Bool → List Line
legal_lines vector =
    insert_line 2 vector 2 Inserted ∷ tick_line 3 1 1 ∷ search_line 4 vector Strong 3 3 4 (found vector ∷ []) ∷ refused_line 5
    ∷ get_line 6 vector 5 2 4 ∷ pending_line 7 false 6 4 ∷ seal_line 8 7 1 ∷ meet_line 9 (in_tail 8 1 0 1) ∷ end_line 10 (in_tail 9 1 0 1) ∷ []

-- a tick that tells none
abbrev pub without_a_tick : List Line
without_a_tick = ask_line 2 0 asks.Tick (answers.Ticked []) ∷ empty_end 3 1 ∷ []

-- a request that is refused
abbrev pub request_refused : List Line
request_refused = ask_line 2 0 asks.Tick (answers.Refused NotJson) ∷ empty_end 3 1 ∷ []

-- two callers have one number
abbrev pub number_twice : List Line
number_twice = tick_line 2 0 1 ∷ tick_line 3 1 1 ∷ empty_end 4 2 ∷ []

-- the first insert of a key is told that the key is live; the row is counted on a node, since it is none of the tail
abbrev pub first_exists : List Bool → List Line
first_exists vector = insert_line 2 vector 1 Exists ∷ end_line 3 (on_nodes 2 1 1 1) ∷ []

-- a hit where nothing was written
abbrev pub hit_of_nothing : List Bool → List Line
hit_of_nothing vector = search_line 2 vector Strong 1 1 2 (found vector ∷ []) ∷ empty_end 3 3 ∷ []

-- a row where nothing was written
abbrev pub row_of_nothing : List Bool → List Line
row_of_nothing vector = get_line 2 vector 1 0 0 ∷ empty_end 3 2 ∷ []

-- a search at level Strong that states a guarantee below its number
abbrev pub weak_guarantee : List Bool → List Line
weak_guarantee vector = search_line 2 vector Strong 1 0 2 [] ∷ empty_end 3 3 ∷ []

-- a snapshot that is older than the guarantee
abbrev pub older_than_guarantee : List Bool → List Line
older_than_guarantee vector = search_line 2 vector Strong 1 1 0 [] ∷ empty_end 3 2 ∷ []

-- a snapshot that is older than a tick that the caller was told
abbrev pub older_than_known : List Bool → List Line
older_than_known vector = tick_line 2 0 1 ∷ search_line 3 vector Eventually 2 0 0 [] ∷ empty_end 4 3 ∷ []

-- a caller's second tick is below its first
abbrev pub falls_back : List Line
falls_back = tick_line 2 0 2 ∷ tick_line 3 0 1 ∷ empty_end 4 3 ∷ []

-- a tick of another caller that is below the meet before it
abbrev pub falls_behind_a_meet : List Line
falls_behind_a_meet = meet_line 2 (in_tail 2 0 0 0) ∷ tick_line 3 1 1 ∷ empty_end 4 3 ∷ []

-- a get that may wait is pending
abbrev pub pends_though_it_waits : List Line
pends_though_it_waits = pending_line 2 true 1 0 ∷ empty_end 3 2 ∷ []

-- a get is pending for a tick that reaches its guarantee
abbrev pub pends_at_its_guarantee : List Line
pends_at_its_guarantee = pending_line 2 false 1 1 ∷ empty_end 3 2 ∷ []

-- a seal that tells no row of a tail that has one
abbrev pub seals_no_row : List Bool → List Line
seals_no_row vector = insert_line 2 vector 1 Inserted ∷ seal_line 3 2 0 ∷ end_line 4 (in_tail 3 1 0 1) ∷ []

-- a meet that leaves the tail out
abbrev pub leaves_the_tail_out : List Bool → List Line
leaves_the_tail_out vector = insert_line 2 vector 1 Inserted ∷ meet_line 3 (on_nodes 2 1 1 1) ∷ end_line 4 (in_tail 3 1 1 0) ∷ []

-- a meet where more segments wait than were made
abbrev pub too_many_wait : List Bool → List Line
too_many_wait vector = insert_line 2 vector 1 Inserted ∷ meet_line 3 (in_tail 2 1 1 1) ∷ end_line 4 (in_tail 3 1 1 0) ∷ []

-- a live row is counted where nothing was written
abbrev pub counts_too_many : List Line
counts_too_many = end_line 2 (on_nodes 1 1 1 1) ∷ []

-- an end that leaves the tail out
abbrev pub end_leaves_the_tail_out : List Bool → List Line
end_leaves_the_tail_out vector = insert_line 2 vector 1 Inserted ∷ end_line 3 (on_nodes 2 1 1 1) ∷ []

-- an end where more segments wait than were made
abbrev pub too_many_wait_at_the_end : List Bool → List Line
too_many_wait_at_the_end vector = insert_line 2 vector 1 Inserted ∷ end_line 3 (in_tail 2 1 1 1) ∷ []

-- an end where more than half of the rows on nodes are dead, though nothing failed
abbrev pub end_keeps_dead_rows : List Line
end_keeps_dead_rows = end_line 2 (on_nodes 1 0 1 0) ∷ []
