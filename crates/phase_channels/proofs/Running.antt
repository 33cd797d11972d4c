-- A phase of lines over channels at rest.
use Rattle.std.proofs.Common.{◌≡◌, ◌≢◌, ⊎_elim, ℕ, ◌+◌, ◌^◌, ◌<◌, ◌≤◌, Bool, true, false, Option, Some, None, Ok, Err, List, [], ◌∷◌, ◌++◌, All, length, map, get_or, max, refl, ap, sym, ◌∙◌, subst, arith, ltb-true, length-append}
use Rattle.std.specs.Prelude.{if◌then◌else◌}
use Rattle.std.specs.List.{flat_map, AllByRecursion as Each}
use Rattle.std.proofs.lemmas.List.{length-map}
use Rattle.std.proofs.lemmas.List.Elements.{All-nil, All-cons, All-append}
use Rattle.coarse_lists.specs.declared.collections.Collection.{Collection}
use Rattle.hybrid_time.specs.declared.times.Timestamp.{Timestamp}
use Rattle.request_lines.specs.declared.requests.Request.{Request}
use Rattle.request_lines.specs.declared.requests.Ask.{Ask}
use Rattle.request_lines.specs.declared.requests.Ask.TheVariants as asks
use Rattle.request_lines.specs.Requests.{FitsAsk}
use Rattle.legal_output.specs.Lines.{Line, caller_in}
use Rattle.legal_output.specs.Printed.{is_caller}
use Rattle.legal_output.specs.Outputs.{text_of_line}
use Rattle.journal_model.specs.declared.notes.Note.{Note}
use Rattle.journal_model.specs.Notes.{ts_of}
use Rattle.journal_model.specs.Journals.{is_below, AreBelow}
use Rattle.turn_facts.specs.Counts.{count, Among}
use Rattle.turn_facts.specs.Notes.{times, with_time}
use Rattle.turn_facts.specs.Prefixes.{IsAt}
use Rattle.turn_facts.proofs.Counts.{count-else}
use Rattle.turn_facts.proofs.Places.{same_or, at_get, at_below, at_some, at_map}
use Rattle.turn_table.specs.Knowledge.{at_slot}
use Rattle.shard_core.specs.Shards.{ChannelShard, ChannelBase, base_of}
use Rattle.call_model.specs.Turns.{time_of}
use Rattle.shard_calls.specs.Fronts.{notes_of, AreShards, AreBases}
use Rattle.phase_model.specs.Rests.{Rest, IsChannel, AreJournals}
use Rattle.phase_model.specs.Phases.{IsPhase}
use Rattle.phase_run.specs.declared.works.Work.{Work}
use Rattle.phase_run.specs.declared.works.Done.{Done}
use Rattle.phase_run.specs.Callers.{MayAsk}
use Rattle.phase_run.specs.declared.works.Stop.{Stop}
use Rattle.phase_run.specs.declared.works.Stop.TheVariants.{All as Whole, Memory}
use Rattle.phase_run.specs.Phases.{MayBeAsked, MayRun, IsRestOf, ran_rest, AreLines, AreDone, AreAnswered}
use Rattle.phase_run.proofs.Planning.{same_bases}
use Rattle.phase_lines.specs.declared.lines.PhaseLines.{PhaseLines}
use Rattle.phase_lines.specs.declared.lines.Slot.{Slot}
use Rattle.phase_lines.specs.Waiting.{Read, MayWait, slot_of, own, requests_of, AreHeld, IsWorkOf, AreWorks}
use Rattle.phase_lines.specs.Blocks.{CanAppend, IsBlock}
use Rattle.phase_channels.specs.declared.channels.Channels.{Channels}
use Rattle.phase_channels.specs.Rests.{collection_in, AreAtRest}
use Rattle.phase_channels.specs.Steps.{FitsRead, CanRunLines, HasRunPhase, IsLow}
use Rattle.phase_channels.specs.Keeping.{kept}
use Rattle.phase_channels.proofs.Lasting.{kept_long, last_writes}

-- ---- timestamps below a clock

among_with : (clock : ℕ) (o : Option ℕ) (l : List ℕ) → is_below o (Some clock) ≡ true → ((t : ℕ) → Among t l → t < clock) → (t : ℕ) → Among t (with_time o l) → t < clock
among_with clock None l below rest t a = rest t a
among_with clock (Some s) l below rest t a =
    ⊎_elim (λ (e : s ≡ t). let low : s < clock = ltb-true s clock below in omega arith)
    (λ (n : s ≢ t). let same : count t (s ∷ l) ≡ count t l = count-else t s l n in rest t (omega arith))
    (same_or s t)

times_low : (clock : ℕ) (notes : List Note) → AreBelow clock notes → (t : ℕ) → Among t (times time_of notes) → t < clock
unfolding times count
times_low clock [] below t a = absurd (omega arith)
times_low clock (note ∷ notes) below t a = among_with clock (ts_of note.kind) (times time_of notes) below.0 (times_low clock notes below.1) t a

-- ---- channels at rest

module _ (rest : Rest) (channels : Channels) (journals : AreJournals (collection_in channels) rest) (at_rest : AreAtRest rest channels) where
  many_shards : length channels.shards.items ≡ (collection_in channels).channels
  many_shards = sym (length-map channels.shards.items base_of) ∙ at_rest.bases.many

  -- the timestamps of a shard are below the clock
  pub shard_below : (k : ℕ) (x : ChannelShard) → IsAt channels.shards.items k x → AreBelow channels.clock x.state.notes
  shard_below k x at =
      let low : k < length channels.shards.items = at_below channels.shards.items k x at in
      let many : length channels.shards.items ≡ (collection_in channels).channels = many_shards in
      let channel : IsChannel (collection_in channels) rest k (at_slot rest.journals k) = journals.each k (omega arith) in
      let notes : at_slot rest.journals k ≡ x.state.notes = ap (λ (l : List (List Note)). at_slot l k) at_rest.journals ∙ at_get (map notes_of channels.shards.items) k (notes_of x) [] (at_map notes_of channels.shards.items k x at) in
      subst (λ (n : ℕ). AreBelow n x.state.notes) at_rest.clock (subst (AreBelow rest.clock) notes channel.below)

  pub times_before : (k : ℕ) (x : ChannelShard) (t : ℕ) → IsAt channels.shards.items k x → Among t (times time_of x.state.notes) → t < channels.clock
  times_before k x t at a = times_low channels.clock x.state.notes (shard_below k x at) t a

  pub clock_least : 1 ≤ channels.clock
  clock_least = let met : rest.met < rest.clock = journals.met in let same : rest.clock ≡ channels.clock = at_rest.clock in omega arith

  pub shards_are : AreShards channels.shards.items
  shards_are = record { collection = collection_in channels; floor = rest.floor; bases = at_rest.bases }

-- ---- what callers may ask

may_ask : (collection : Collection) (ask : Ask) → FitsAsk collection ask → ask ≢ asks.Meet → MayAsk collection ask
may_ask collection (asks.Write write) fits no_meet = fits
may_ask collection (asks.Search query level wait) fits no_meet = fits
may_ask collection (asks.Get key level wait) fits no_meet = tt
may_ask collection asks.Tick fits no_meet = tt
may_ask collection asks.Seal fits no_meet = tt
may_ask collection asks.Meet fits no_meet = absurd (no_meet refl)

abbrev MayBe : Collection → ℕ × Request → Type 0
MayBe collection request = MayAsk collection request.1.what

one_may : (collection : Collection) (is : Bool) (number : ℕ) (request : Request) → MayAsk collection request.what → All (MayBe collection) (if is then (number, request) ∷ [] else [])
one_may collection true number request may = All-cons (MayBe collection) (number, request) [] may (All-nil (MayBe collection))
one_may collection false number request may = All-nil (MayBe collection)

own_may : (collection : Collection) (caller number : ℕ) (read : Read) → FitsRead collection read → MayWait read → All (MayBe collection) (own caller number read)
own_may collection caller number (Ok request) fits may = one_may collection (is_caller caller (caller_in request.caller request.what)) number request (may_ask collection request.what fits may.1)
own_may collection caller number (Err reason) fits may = All-nil (MayBe collection)

all_may : (collection : Collection) (caller number : ℕ) (reads : List Read) → Each (FitsRead collection) reads → Each MayWait reads → All (MayBe collection) (requests_of caller number reads)
all_may collection caller number [] fit may = All-nil (MayBe collection)
all_may collection caller number (read ∷ reads) fit may =
    All-append (MayBe collection) (own caller number read) (requests_of caller (number + 1) reads) (own_may collection caller number read fit.0 may.0) (all_may collection caller (number + 1) reads fit.1 may.1)

one_few : (is : Bool) (number : ℕ) (request : Request) → length {A = ℕ × Request} (if is then (number, request) ∷ [] else []) ≤ 1
one_few true number request = omega arith
one_few false number request = omega arith

own_few : (caller number : ℕ) (read : Read) → length (own caller number read) ≤ 1
own_few caller number (Ok request) = one_few (is_caller caller (caller_in request.caller request.what)) number request
own_few caller number (Err reason) = omega arith

all_few : (caller number : ℕ) (reads : List Read) → length (requests_of caller number reads) ≤ length reads
all_few caller number [] = omega arith
all_few caller number (read ∷ reads) =
    let one : length (own caller number read) ≤ 1 = own_few caller number read in
    let others : length (requests_of caller (number + 1) reads) ≤ length reads = all_few caller (number + 1) reads in
    let all : length (own caller number read ++ requests_of caller (number + 1) reads) ≡ length (own caller number read) + length (requests_of caller (number + 1) reads) = length-append (own caller number read) (requests_of caller (number + 1) reads) in omega arith

-- ---- a phase

module _ (rest : Rest) (first : ℕ) (reads : List Read) (channels : Channels) (lines : PhaseLines) (can : CanRunLines rest first reads channels lines) (works : List Work) (are : AreWorks first reads channels.mine.items works) where
  asked_at : (i : ℕ) (work : Work) → IsAt works i work → MayBeAsked (collection_in channels) channels.clock work
  asked_at i work at =
      let of : IsWorkOf first reads channels.mine.items work = are.each i work at in
      record {
        many = let n : length work.requests.items ≡ length (requests_of work.caller first reads) = ap length of.requests in let few : length (requests_of work.caller first reads) ≤ length reads = all_few work.caller first reads in let all : length reads ≤ 2 ^ 18 = can.few in omega arith;
        may = subst (All (MayBe (collection_in channels))) (sym of.requests) (all_may (collection_in channels) work.caller first reads can.fit can.held.may);
        mine_is = let is : work.mine.0 ≡ rest.mine work.caller = can.at_rest.mine work.caller work.mine of.mine_is in let low : rest.mine work.caller < rest.clock = can.journals.mine work.caller in let same : rest.clock ≡ channels.clock = can.at_rest.clock in omega arith;
      }

  pub may_run : (collection : Collection) (floor : ℕ) → AreBases collection floor (map base_of channels.shards.items) → MayRun collection channels.clock works
  may_run collection floor bases =
      let same = same_bases (collection_in channels) collection rest.floor floor (map base_of channels.shards.items) can.at_rest.bases bases in
      subst (λ (c : Collection). MayRun c channels.clock works) same.0 (record { callers = are.few; each = each })
    where
      each : All (MayBeAsked (collection_in channels) channels.clock) works
      each i d below = let p = at_some works i below in subst (MayBeAsked (collection_in channels) channels.clock) (sym (at_get works i p.0 d p.1)) (asked_at i p.0 p.1)

  is_rest : IsRestOf rest channels.clock rest.floor (map notes_of channels.shards.items) works
  is_rest = record {
    clock_is = can.at_rest.clock;
    floor_is = refl;
    journals_are = can.at_rest.journals;
    mine_is = λ i work at. can.at_rest.mine work.caller work.mine (are.each i work at).mine_is;
  }

  module _ (dones : List Done) (done : AreDone works dones) (block : List Line) (is : IsBlock first reads works dones block) (after : Channels) (of : collection_in after ≡ collection_in channels)
      (bases : map base_of after.shards.items ≡ map base_of channels.shards.items) (mine : after.mine.items ≡ kept channels.mine.items dones) where
    abbrev new : Rest
    new = ran_rest rest after.clock (map notes_of after.shards.items) block

    rested : AreAtRest new after
    rested = record {
      bases = subst (λ (c : Collection). AreBases c rest.floor (map base_of after.shards.items)) (sym of) (subst (AreBases (collection_in channels) rest.floor) (sym bases) can.at_rest.bases);
      journals = refl;
      clock = refl;
      many = ap length mine ∙ kept_long channels.mine.items dones ∙ can.at_rest.many;
      mine = λ caller ts at. last_writes first reads channels.mine.items can.at_rest.many works are dones done rest can.at_rest.mine block is caller ts (subst (λ (l : List Timestamp). IsAt l caller ts) mine at);
    }

    has_run : (least : ℕ) → IsPhase ChannelBase (collection_in channels) least rest new block → HasRunPhase least first reads rest channels after (flat_map text_of_line block)
    has_run least phase = record { new = new; block = block; phase = phase; rest = rested; same = of; text_is = refl; numbered = is.numbered; asked = is.asked }

-- ---- the steps of the call that runs a phase

pub all_done : (stop : Stop) → (stop ≡ Memory → ⊥) → stop ≡ Whole
all_done Whole none = refl
all_done Memory none = absurd (none refl)

module _ {A : Type 0} where
  -- an element that was read is at its place
  pub read_at : (l : List A) (k : ℕ) (x : A) → k < length l → x ≡ get_or l k x → IsAt l k x
  read_at l k x low is = let p = at_some l k low in subst (λ (y : A). IsAt l k y) (sym (is ∙ at_get l k p.0 x p.1)) p.1

module _ (channels : Channels) (lines : PhaseLines) (number : ℕ) (number_is : number ≡ lines.first) (slots : List Slot) (works : List Work)
    (slots_are : (first : ℕ) (reads : List Read) → AreHeld first reads lines → slots ≡ map slot_of reads)
    (works_are : (first : ℕ) (reads : List Read) → AreHeld first reads lines → AreWorks first reads channels.mine.items works)
    (dones : List Done) (done : AreDone works dones) (answered : AreAnswered works dones) where
  first_is : (first : ℕ) (reads : List Read) → AreHeld first reads lines → number ≡ first
  first_is first reads held = number_is ∙ held.first_is

  pub can_append : (rest : Rest) (first : ℕ) (reads : List Read) → CanRunLines rest first reads channels lines → CanAppend number slots dones reads channels.mine.items works
  can_append rest first reads can = record {
    slots_are = slots_are first reads can.held;
    may = can.held.may;
    works_are = subst (λ (n : ℕ). AreWorks n reads channels.mine.items works) (sym (first_is first reads can.held)) (works_are first reads can.held);
    done = done;
    answered = answered;
  }

  module _ (least : ℕ) (after : Channels) (of : collection_in after ≡ collection_in channels) (bases : map base_of after.shards.items ≡ map base_of channels.shards.items) (mine : after.mine.items ≡ kept channels.mine.items dones)
      (phase : (collection : Collection) (floor : ℕ) (old : Rest) (block : List Line) → AreBases collection floor (map base_of channels.shards.items) → IsRestOf old channels.clock floor (map notes_of channels.shards.items) works
      → AreLines works dones block → IsPhase ChannelBase collection least old (ran_rest old after.clock (map notes_of after.shards.items) block) block)
      (text text' : List ℕ)
      (appended : (reads : List Read) (mine : List Timestamp) (works : List Work) → CanAppend number slots dones reads mine works → (block : List Line) × (text' ≡ text ++ flat_map text_of_line block) × IsBlock number reads works dones block) where
    phase_of : (rest : Rest) (first : ℕ) (reads : List Read) (can : CanRunLines rest first reads channels lines) (block : List Line) → IsBlock number reads works dones block
        → IsPhase ChannelBase (collection_in channels) least rest (ran_rest rest after.clock (map notes_of after.shards.items) block) block
    phase_of rest first reads can block is = phase (collection_in channels) rest.floor rest block can.at_rest.bases (is_rest rest first reads channels lines can works (works_are first reads can.held)) is.lines

    pub ran : (rest : Rest) (first : ℕ) (reads : List Read) → CanRunLines rest first reads channels lines → (written : List ℕ) × (text' ≡ text ++ written) × HasRunPhase least first reads rest channels after written
    ran rest first reads can =
        let a = appended reads channels.mine.items works (can_append rest first reads can) in
        let is : IsBlock first reads works dones a.0 = subst (λ (n : ℕ). IsBlock n reads works dones a.0) (first_is first reads can.held) a.2 in
        (flat_map text_of_line a.0, a.1, has_run rest first reads channels lines can works (works_are first reads can.held) dones done a.0 is after of bases mine least (phase_of rest first reads can a.0 a.2))

    pub ran_low : (rest : Rest) (first : ℕ) (reads : List Read) → CanRunLines rest first reads channels lines → IsLow (2 ^ 40) channels.clock after.clock
    ran_low rest first reads can =
        let a = appended reads channels.mine.items works (can_append rest first reads can) in
        let most : after.clock ≤ 2 ^ 40 + max rest.clock (2 ^ 63) = (phase_of rest first reads can a.0 a.2).closed.most in
        let same : rest.clock ≡ channels.clock = can.at_rest.clock in omega arith
