-- Line 1, and a line that comes behind it.
use Rattle.std.proofs.Common.{◌≡◌, ℕ, ◌+◌, ◌*◌, ◌^◌, ◌<◌, ◌≤◌, Bool, true, false, List, [], ◌∷◌, ◌++◌, map, length, Ok, Err, refl, sym, ap, ◌∙◌, subst, arith}
use Rattle.std.specs.Prelude.{Option, Some, Result, IfOk, ◌≢◌}
use Rattle.std.specs.List.{AllByRecursion as Each}
use Rattle.std.proofs.lemmas.List.{append-nil, map-append}
use Rattle.coarse_lists.specs.declared.collections.Collection.{Collection}
use Rattle.answer_lines.specs.declared.answers.Answer.TheVariants as answers
use Rattle.answer_lines.specs.declared.reasons.Reason.{Reason}
use Rattle.answer_lines.specs.Lines.{text_of}
use Rattle.request_lines.specs.declared.requests.Ask.{Ask}
use Rattle.request_lines.specs.declared.requests.Ask.TheVariants as asks
use Rattle.request_lines.specs.declared.requests.Request.{Request}
use Rattle.request_lines.specs.Members.{max_caller}
use Rattle.request_lines.specs.Headers.{header_of}
use Rattle.request_lines.specs.Requests.{request_of, Fits}
use Rattle.legal_output.proofs.Grown.{each-push}
use Rattle.phase_model.specs.Rests.{new_rest}
use Rattle.phase_laws.proofs.Begun.{new_run}
use Rattle.phase_reading.specs.Engines.{Takes}
use Rattle.phase_lines.specs.declared.lines.PhaseLines.{PhaseLines}
use Rattle.phase_lines.specs.Waiting.{Read, MayWait, AreHeld}
use Rattle.phase_channels.specs.declared.channels.Channels.{Channels}
use Rattle.phase_channels.specs.Rests.{collection_in, AreAtRest}
use Rattle.phase_channels.specs.Steps.{FitsRead}
use Rattle.phase_engine.specs.declared.running.Running.{Running}
use Rattle.phase_engine.specs.Outputs.{asks_meet, is_meet, meets}
use Rattle.phase_engine.specs.Accounts.{HaveCome, IsRunning}
use Rattle.phase_engine.specs.Steps.{IsReadOf}
use Rattle.phase_engine.proofs.Coming.{known_meets, known_header}

-- ---- line 1

pub begun : (collection : Collection) (channels : Channels) (lines : PhaseLines) → AreAtRest (new_rest collection 1) channels → collection_in channels ≡ collection → AreHeld 2 [] lines
    → (least : ℕ) (header : List ℕ) → header_of header ≡ Some collection
    → IsRunning least (record { channels = channels; lines = lines; meet_came = false }) (header ∷ []) [] (text_of 1 answers.Created)
begun collection channels lines rest same held least header is = record {
  header = header;
  lines = [];
  split = refl;
  header_is = is ∙ ap (λ (c : Collection). Some c) (sym same);
  phases = [];
  rest = new_rest (collection_in channels) 1;
  ran = new_run (collection_in channels) 1 (let one : 1 ≤ 1 = omega arith in one) least;
  at_rest = subst (λ (c : Collection). AreAtRest (new_rest c 1) channels) (sym same) rest;
  text = sym (append-nil (text_of 1 answers.Created));
  numbered = tt;
  asked = refl;
  reads = [];
  held = held;
  come = refl;
  fit = tt;
  met = (let none : 0 ≤ 0 = omega arith in none);
  low = (let clock : 1 ≡ channels.clock = rest.clock in omega arith);
}

-- ---- a line behind it

-- a request that is no meet may wait
asks_other : (ask : Ask) → asks_meet ask ≡ false → ask ≢ asks.Meet
asks_other ask differs_there is = let meets_there : asks_meet ask ≡ true = ap asks_meet is in cc

pub may_wait : (collection : Collection) (line : List ℕ) (read : Read) → IsReadOf collection line read → is_meet read ≡ false → MayWait read
may_wait collection line (Ok request) was differs_there = (let few : request.caller ≤ max_caller = was.caller in omega arith, asks_other request.what differs_there)
may_wait collection line (Err reason) was differs_there = tt

asks_it : (ask : Ask) → asks_meet ask ≡ true → ask ≡ asks.Meet
asks_it asks.Meet meets_there = refl
asks_it ask meets_there = cc

-- a line that is read as a meet is a meet of some caller
meet_read : (read : Read) → is_meet read ≡ true → (caller : ℕ) × (read ≡ Ok (record { caller = caller; what = asks.Meet }))
meet_read (Ok request) meets_there = (request.caller, ap (λ (ask : Ask). Ok (record { caller = request.caller; what = ask })) (asks_it request.what meets_there))
meet_read (Err reason) meets_there = absurd (cc)

come_meet : (collection : Collection) (reads : List Read) (waiting : List (List ℕ)) (line : List ℕ) (read : Read) → HaveCome collection reads false waiting → request_of collection line ≡ read
    → is_meet read ≡ true → HaveCome collection reads true (waiting ++ line ∷ [])
come_meet collection reads waiting line read come is meets_there =
    let m = meet_read read meets_there in
    (m.0, map-append (λ line. request_of collection line) waiting (line ∷ []) ∙ ap (λ (l : List Read). l ++ request_of collection line ∷ []) come ∙ ap (λ (r : Read). reads ++ r ∷ []) (is ∙ m.1))

come_line : (collection : Collection) (reads : List Read) (waiting : List (List ℕ)) (line : List ℕ) (read : Read) → HaveCome collection reads false waiting → request_of collection line ≡ read
    → HaveCome collection (reads ++ read ∷ []) false (waiting ++ line ∷ [])
come_line collection reads waiting line read come is =
    map-append (λ line. request_of collection line) waiting (line ∷ []) ∙ ap (λ (l : List Read). l ++ request_of collection line ∷ []) come ∙ ap (λ (r : Read). reads ++ r ∷ []) is

told_meet : (least : ℕ) (running : Running) (line : List ℕ) (read : Read) (flag : Bool) (header : List ℕ) (done waiting : List (List ℕ)) (output : List ℕ) → request_of (collection_in running.channels) line ≡ read
    → is_meet read ≡ flag → IsRunning least running (header ∷ done) waiting output → flag ≡ meets header line
told_meet least running line read flag header done waiting output is meet s =
    sym meet ∙ ap is_meet (sym is) ∙ sym (known_meets header line (collection_in running.channels) (known_header least running header done waiting output s))

pub took_meet : (least : ℕ) (running : Running) (line : List ℕ) (read : Read) → running.meet_came ≡ false → IsReadOf (collection_in running.channels) line read → is_meet read ≡ true
    → Takes (IsRunning least running) (IsRunning least (record { channels = running.channels; lines = running.lines; meet_came = true })) meets line true
took_meet least running line read none was meets_there header done waiting output s =
    let collection = collection_in running.channels in
    let come : HaveCome collection s.reads false waiting = subst (λ (b : Bool). HaveCome collection s.reads b waiting) none s.come in (
      told_meet least running line read true header done waiting output was.is meets_there s,
      record {
        header = s.header;
        lines = s.lines;
        split = s.split;
        header_is = s.header_is;
        phases = s.phases;
        rest = s.rest;
        ran = s.ran;
        at_rest = s.at_rest;
        text = s.text;
        numbered = s.numbered;
        asked = s.asked;
        reads = s.reads;
        held = s.held;
        come = come_meet collection s.reads waiting line read come was.is meets_there;
        fit = s.fit;
        met = s.met;
        low = s.low;
      },
    )

pub took_line : (least : ℕ) (running : Running) (lines : PhaseLines) (line : List ℕ) (read : Read) → running.meet_came ≡ false → IsReadOf (collection_in running.channels) line read → is_meet read ≡ false
    → ((first : ℕ) (reads : List Read) → AreHeld first reads running.lines → AreHeld first (reads ++ read ∷ []) lines)
    → Takes (IsRunning least running) (IsRunning least (record { channels = running.channels; lines = lines; meet_came = false })) meets line false
took_line least running lines line read none was differs_there added header done waiting output s =
    let collection = collection_in running.channels in
    let come : HaveCome collection s.reads false waiting = subst (λ (b : Bool). HaveCome collection s.reads b waiting) none s.come in (
      told_meet least running line read false header done waiting output was.is differs_there s,
      record {
        header = s.header;
        lines = s.lines;
        split = s.split;
        header_is = s.header_is;
        phases = s.phases;
        rest = s.rest;
        ran = s.ran;
        at_rest = s.at_rest;
        text = s.text;
        numbered = s.numbered;
        asked = s.asked;
        reads = s.reads ++ read ∷ [];
        held = added (2 + length s.lines) s.reads s.held;
        come = come_line collection s.reads waiting line read come was.is;
        fit = each-push (FitsRead collection) s.reads read s.fit was.fits;
        met = s.met;
        low = s.low;
      },
    )
