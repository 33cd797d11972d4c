-- Whether the meet of the lines that wait came, and what may be done then.
use Rattle.std.proofs.Common.{◌≡◌, ◌≢◌, ℕ, ◌+◌, ◌*◌, ◌^◌, ◌<◌, ◌≤◌, Bool, true, false, List, [], ◌∷◌, ◌++◌, map, length, Ok, Err, refl, sym, ap, ◌∙◌, subst, arith}
use Rattle.std.specs.Prelude.{Option, Some}
use Rattle.std.specs.List.{AllByRecursion as Each}
use Rattle.std.proofs.lemmas.List.{length-map, map-append, length-append}
use Rattle.coarse_lists.specs.declared.collections.Collection.{Collection}
use Rattle.input_lines.specs.declared.limits.TheConstants.{MAX_LINES}
use Rattle.request_lines.specs.declared.requests.Ask.{Ask}
use Rattle.request_lines.specs.declared.requests.Ask.TheVariants as asks
use Rattle.request_lines.specs.Headers.{header_of}
use Rattle.request_lines.specs.Requests.{request_of}
use Rattle.phase_reading.specs.Engines.{CanTake, CanRun, CanEnd}
use Rattle.phase_lines.specs.declared.lines.PhaseLines.{PhaseLines}
use Rattle.phase_lines.specs.Waiting.{Read, MayWait, AreHeld, slot_of}
use Rattle.phase_channels.specs.Rests.{collection_in}
use Rattle.phase_channels.specs.Steps.{CanRunLines}
use Rattle.phase_engine.specs.declared.running.Running.{Running}
use Rattle.phase_engine.specs.Outputs.{asks_meet, is_meet, meets_in, meets}
use Rattle.phase_engine.specs.Accounts.{HaveCome, IsRunning}
use Rattle.phase_engine.specs.Steps.{CanHold, CanSettle}
use Rattle.phase_engine.proofs.Lists.{each_last, each-map}

-- ---- no line that waits for a meet is one

not_meet : (ask : Ask) → ask ≢ asks.Meet → asks_meet ask ≡ false
not_meet asks.Meet differs = absurd (differs refl)
not_meet ask differs = refl

no_meet : (read : Read) → MayWait read → is_meet read ≡ false
no_meet (Ok request) may = not_meet request.what may.1
no_meet (Err reason) may = refl

none_of : (f : List ℕ → Read) (reads : List Read) (phase : List (List ℕ)) (meet : List ℕ) → map f (phase ++ meet ∷ []) ≡ reads → Each MayWait reads → is_meet (f meet) ≡ true → ⊥
none_of f reads phase meet e may is =
    let all : Each MayWait (map f phase ++ f meet ∷ []) = subst (Each MayWait) (sym e ∙ map-append f phase (meet ∷ [])) may in
    let never : is_meet (f meet) ≡ false = no_meet (f meet) (each_last MayWait (map f phase) (f meet) all) in cc

pub has_come : (collection : Collection) (reads : List Read) (flag : Bool) (phase : List (List ℕ)) (meet : List ℕ) → HaveCome collection reads flag (phase ++ meet ∷ []) → Each MayWait reads
    → is_meet (request_of collection meet) ≡ true → flag ≡ true
has_come collection reads true phase meet come may is = refl
has_come collection reads false phase meet come may is = absurd (none_of (λ line. request_of collection line) reads phase meet come may is)

last_plain : (f : List ℕ → Read) (reads : List Read) (last : Read) (waiting : List (List ℕ)) → map f waiting ≡ reads ++ last ∷ [] → Each (λ line. is_meet (f line) ≡ false) waiting → is_meet last ≡ false
last_plain f reads last waiting e plain =
    each_last (λ (read : Read). is_meet read ≡ false) reads last (subst (Each (λ (read : Read). is_meet read ≡ false)) e (each-map (λ (read : Read). is_meet read ≡ false) f waiting plain))

pub has_not_come : (collection : Collection) (reads : List Read) (flag : Bool) (waiting : List (List ℕ)) → HaveCome collection reads flag waiting
    → Each (λ line. is_meet (request_of collection line) ≡ false) waiting → flag ≡ false
has_not_come collection reads false waiting come plain = refl
has_not_come collection reads true waiting come plain =
    let never : true ≡ false = last_plain (λ line. request_of collection line) reads (Ok (record { caller = come.0; what = asks.Meet })) waiting come.1 plain in cc

-- ---- how many lines wait

come_long : (collection : Collection) (reads : List Read) (flag : Bool) (waiting : List (List ℕ)) → HaveCome collection reads flag waiting → length reads ≤ length waiting
come_long collection reads false waiting come =
    let e : length waiting ≡ length reads = sym (length-map waiting (λ line. request_of collection line)) ∙ ap length come in omega arith
come_long collection reads true waiting come =
    let last : Read = Ok (record { caller = come.0; what = asks.Meet }) in
    let e : length waiting ≡ length (reads ++ last ∷ []) = sym (length-map waiting (λ line. request_of collection line)) ∙ ap length come.1 in
    let long : length (reads ++ last ∷ []) ≡ length reads + 1 = length-append reads (last ∷ []) in omega arith

pub held_long : (first : ℕ) (reads : List Read) (lines : PhaseLines) → AreHeld first reads lines → length lines.slots.items ≡ length reads
held_long first reads lines held = ap length held.slots ∙ length-map reads slot_of

-- ---- from what the reader tells

head_of : (x y : List ℕ) (xs ys : List (List ℕ)) → x ∷ xs ≡ y ∷ ys → (x ≡ y) × (xs ≡ ys)
head_of x y xs ys e = (cc, cc)

-- behind this line 1 a line is a meet where the collection reads it as one
pub known_meets : (header line : List ℕ) (collection : Collection) → header_of header ≡ Some collection → meets header line ≡ is_meet (request_of collection line)
known_meets header line collection is = ap (λ (o : Option Collection). meets_in o line) is

pub known_header : (least : ℕ) (running : Running) (header : List ℕ) (done waiting : List (List ℕ)) (output : List ℕ) → IsRunning least running (header ∷ done) waiting output
    → header_of header ≡ Some (collection_in running.channels)
known_header least running header done waiting output s = ap header_of (head_of header s.header done s.lines s.split).0 ∙ s.header_is

pub can_hold : (least : ℕ) (running : Running) → CanTake (IsRunning least running) meets → CanHold running
can_hold least running t =
    let s = t.told in
    let collection = collection_in running.channels in
    let header : header_of t.header ≡ Some collection = known_header least running t.header t.done t.waiting t.output s in
    let plain : Each (λ line. is_meet (request_of collection line) ≡ false) t.waiting = subst (λ (o : Option Collection). Each (λ line. meets_in o line ≡ false) t.waiting) header t.plain in
    let long : length s.reads ≤ length t.waiting = come_long collection s.reads running.meet_came t.waiting s.come in
    let same : length (t.header ∷ t.done) ≡ length (s.header ∷ s.lines) = ap length s.split in
    record {
      first = 2 + length s.lines;
      reads = s.reads;
      held = s.held;
      room = (let room = t.room in omega arith);
      range = s.at_rest.bases.range;
      none_came = has_not_come collection s.reads running.meet_came t.waiting s.come plain;
    }

-- the lines that wait are few enough to be run
few_settle : (least : ℕ) (running : Running) (done waiting : List (List ℕ)) (output : List ℕ) → IsRunning least running done waiting output → length done + length waiting ≤ MAX_LINES → CanSettle running
few_settle least running done waiting output s few =
    let collection = collection_in running.channels in
    let long : length s.reads ≤ length waiting = come_long collection s.reads running.meet_came waiting s.come in
    let same : length done ≡ length (s.header ∷ s.lines) = ap length s.split in
    let met : length s.phases ≤ length s.lines = s.met in
    let low : running.channels.clock ≤ 2 ^ 63 + length s.phases * (2 ^ 40 + 1) = s.low in
    record {
      rest = s.rest;
      first = 2 + length s.lines;
      reads = s.reads;
      lines = record { journals = s.ran.journals; at_rest = s.at_rest; held = s.held; fit = s.fit; few = omega arith };
      room = omega arith;
      low = omega arith;
    }

pub run_settles : (least : ℕ) (running : Running) → CanRun (IsRunning least running) meets → CanSettle running
run_settles least running r = few_settle least running (r.header ∷ r.done) (r.phase ++ r.meet ∷ []) r.output r.told r.few

pub end_settles : (least : ℕ) (running : Running) → CanEnd (IsRunning least running) meets → CanSettle running
end_settles least running e = few_settle least running (e.header ∷ e.done) e.waiting e.output e.told e.few

pub run_came : (least : ℕ) (running : Running) → CanRun (IsRunning least running) meets → running.meet_came ≡ true
run_came least running r =
    let s = r.told in
    let collection = collection_in running.channels in
    let header : header_of r.header ≡ Some collection = known_header least running r.header r.done (r.phase ++ r.meet ∷ []) r.output s in
    has_come collection s.reads running.meet_came r.phase r.meet s.come s.held.may (sym (known_meets r.header r.meet collection header) ∙ r.meets_there)

pub end_none_came : (least : ℕ) (running : Running) → CanEnd (IsRunning least running) meets → running.meet_came ≡ false
end_none_came least running r =
    let s = r.told in
    let collection = collection_in running.channels in
    let header : header_of r.header ≡ Some collection = known_header least running r.header r.done r.waiting r.output s in
    let plain : Each (λ line. is_meet (request_of collection line) ≡ false) r.waiting = subst (λ (o : Option Collection). Each (λ line. meets_in o line ≡ false) r.waiting) header r.plain in
    has_not_come collection s.reads running.meet_came r.waiting s.come plain

-- whatever was answered before, the lines that wait may be run
pub can_run_lines : (least : ℕ) (running : Running) (done waiting : List (List ℕ)) (output : List ℕ) → CanSettle running → (s : IsRunning least running done waiting output)
    → CanRunLines s.rest (2 + length s.lines) s.reads running.channels running.lines
can_run_lines least running done waiting output can s =
    let known = can.lines.held in
    let one : length running.lines.slots.items ≡ length can.reads = held_long can.first can.reads running.lines known in
    let other : length running.lines.slots.items ≡ length s.reads = held_long (2 + length s.lines) s.reads running.lines s.held in
    let few : length can.reads ≤ 2 ^ 18 = can.lines.few in
    record { journals = s.ran.journals; at_rest = s.at_rest; held = s.held; fit = s.fit; few = omega arith }
