-- What the steps within this crate do. The clauses of its public calls do not speak of it, so it need not be believed.
use Rattle.std.specs.Prelude.{◌≡◌, ◌≢◌, ℕ, zero, suc, ◌+◌, ◌<◌, ◌≤◌, List, [], ◌∷◌, ◌++◌, length, map, drop, slice_index}
use Rattle.std.specs.Global.{Vec}
use Rattle.answer_lines.specs.declared.answers.Answer.{Answer}
use Rattle.answer_lines.specs.declared.answers.Answer.TheVariants as answers
use Rattle.answer_lines.specs.Lines.{text_of}
use Rattle.hybrid_time.specs.declared.times.Timestamp.{Timestamp}
use Rattle.request_lines.specs.declared.requests.Request.{Request}
use Rattle.turn_facts.specs.Counts.{Among, NoneTwice}
use Rattle.turn_facts.specs.Prefixes.{IsAt, put}
use Rattle.phase_run.specs.declared.works.Work.{Work}
use Rattle.phase_run.specs.declared.works.Done.{Done}
use Rattle.phase_lines.specs.declared.lines.PhaseLines.{PhaseLines}
use Rattle.phase_lines.specs.declared.lines.Slot.{Slot}
use Rattle.phase_lines.specs.declared.lines.Slot.TheVariants.{Refused, Asked}
use Rattle.phase_lines.specs.Waiting.{Read, own, slot_of}

-- ---- lines that come

-- each caller has gained these requests behind its own
pub record Gains (more : ℕ → List (ℕ × Request)) (old new : List (Vec (ℕ × Request))) : Type 0 where
  pub many : length new ≡ length old
  pub each : (caller : ℕ) (a b : Vec (ℕ × Request)) → IsAt old caller a → IsAt new caller b → b.items ≡ a.items ++ more caller

-- the next line was taken in
pub record Takes (read : Read) (old new : PhaseLines) : Type 0 where
  pub first : new.first ≡ old.first
  pub slots : new.slots.items ≡ old.slots.items ++ slot_of read ∷ []
  pub places : Gains (λ caller. own caller (old.first + length old.slots.items) read) old.places.items new.places.items

-- nothing was taken in
pub record Stays (old new : PhaseLines) : Type 0 where
  pub first : new.first ≡ old.first
  pub slots : new.slots.items ≡ old.slots.items
  pub places : Gains (λ caller. []) old.places.items new.places.items

-- a work for each caller that has requests at its place
pub record AreWorksOf (places : List (Vec (ℕ × Request))) (mine : List Timestamp) (works : List Work) : Type 0 where
  pub few : length works ≤ length places
  pub each : (i : ℕ) (work : Work) → IsAt works i work → IsAt places work.caller work.requests × IsAt mine work.caller work.mine
  pub apart : NoneTwice (map (λ (work : Work). work.caller) works)
  pub all : (caller : ℕ) (place : Vec (ℕ × Request)) → IsAt places caller place → place.items ≢ [] → Among caller (map (λ (work : Work). work.caller) works)

-- ---- answers that are left

-- the answers of a caller that stand at its place
abbrev pub items_at : List (Vec (ℕ × Answer)) → ℕ → List (ℕ × Answer)
items_at [] caller = []
items_at (place ∷ places) zero = place.items
items_at (place ∷ places) (suc caller) = items_at places caller

-- those of a caller that are left where so many of each caller were told
abbrev pub left_of : List (Vec (ℕ × Answer)) → List ℕ → ℕ → List (ℕ × Answer)
left_of places told caller = drop (slice_index told caller) (items_at places caller)

-- the answers of each caller stand at its place, where no caller did two works
abbrev pub StandAt : List Done → List (Vec (ℕ × Answer)) → Type 0
StandAt dones places = NoneTwice (map (λ (done : Done). done.caller) dones) → (i : ℕ) (done : Done) → IsAt dones i done → items_at places done.caller ≡ done.answers.items

-- ---- the text of slots, where these answers are left of each caller's

-- the first answer; the other case does not come about
abbrev pub first_of : List (ℕ × Answer) → Answer
first_of [] = answers.Created
first_of (answer ∷ others) = answer.1

abbrev pub answer_at : Slot → (ℕ → List (ℕ × Answer)) → Answer
answer_at (Refused reason) left = answers.Refused reason
answer_at (Asked caller) left = first_of (left caller)

abbrev pub left_behind : Slot → (ℕ → List (ℕ × Answer)) → ℕ → List (ℕ × Answer)
left_behind (Refused reason) left = left
left_behind (Asked caller) left = put left caller (drop 1 (left caller))

abbrev pub text_of_slots : ℕ → List Slot → (ℕ → List (ℕ × Answer)) → List ℕ
text_of_slots number [] left = []
text_of_slots number (slot ∷ slots) left = text_of number (answer_at slot left) ++ text_of_slots (number + 1) slots (left_behind slot left)

-- the slot's caller is one of 16, and has an answer left
abbrev pub HasAnswer : Slot → (ℕ → List (ℕ × Answer)) → Type 0
HasAnswer (Refused reason) left = Unit {0}
HasAnswer (Asked caller) left = (caller < 16) × (1 ≤ length (left caller))

abbrev pub HaveAnswers : List Slot → (ℕ → List (ℕ × Answer)) → Type 0
HaveAnswers [] left = Unit {0}
HaveAnswers (slot ∷ slots) left = HasAnswer slot left × HaveAnswers slots (left_behind slot left)
