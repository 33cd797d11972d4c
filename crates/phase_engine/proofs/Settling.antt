-- The lines that wait are run, and a meet or the end stands behind them.
use Rattle.std.proofs.Common.{◌≡◌, ℕ, suc, ◌+◌, ◌*◌, ◌^◌, ◌<◌, ◌≤◌, Bool, true, false, List, [], ◌∷◌, ◌++◌, map, length, Ok, refl, sym, ap, ◌∙◌, subst, arith, append_assoc}
use Rattle.std.specs.Prelude.{Option, Some, max}
use Rattle.std.specs.List.{AllByRecursion as Each, flat_map}
use Rattle.std.proofs.lemmas.List.{append-nil, length-append, length-map, map-append}
use Rattle.std.proofs.lemmas.Grind.{flat_map-append}
use Rattle.coarse_lists.specs.declared.collections.Collection.{Collection}
use Rattle.answer_lines.specs.declared.answers.Answer.{Answer}
use Rattle.answer_lines.specs.declared.answers.Answer.TheVariants as answers
use Rattle.answer_lines.specs.Lines.{text_of}
use Rattle.request_lines.specs.declared.requests.Ask.TheVariants as asks
use Rattle.request_lines.specs.Headers.{header_of}
use Rattle.request_lines.specs.Requests.{request_of}
use Rattle.legal_output.specs.Lines.{Asked, Given, Finish, Line}
use Rattle.legal_output.specs.Legal.{Numbered}
use Rattle.legal_output.specs.Phases.{Phase, lines_in}
use Rattle.legal_output.specs.Outputs.{asked_of, printed, text_of_line}
use Rattle.shard_core.specs.Shards.{ChannelBase}
use Rattle.hybrid_time.specs.Times.{of_moment}
use Rattle.phase_order.proofs.Kept.{phase_journals}
use Rattle.phase_model.specs.Rests.{Rest, AreJournals}
use Rattle.phase_model.specs.Meets.{Meets, IsMeet, IsEnd}
use Rattle.phase_laws.specs.Runs.{HasRun}
use Rattle.phase_laws.proofs.Going.{goes_on, is_whole, whole_timely}
use Rattle.phase_reading.specs.Engines.{AnswersPhase, AnswersEnd}
use Rattle.phase_lines.specs.declared.lines.PhaseLines.{PhaseLines}
use Rattle.phase_lines.specs.Waiting.{Read, AreHeld}
use Rattle.phase_channels.specs.declared.channels.Channels.{Channels}
use Rattle.phase_channels.specs.Rests.{collection_in, AreAtRest}
use Rattle.phase_channels.specs.Steps.{CanRunLines, HasRunPhase, HaveMet, IsLow}
use Rattle.phase_engine.specs.declared.running.Running.{Running}
use Rattle.phase_engine.specs.declared.running.Settled.{Settled}
use Rattle.phase_engine.specs.Outputs.{asked_in, whole_at}
use Rattle.phase_engine.specs.Accounts.{HaveCome, IsRunning}
use Rattle.phase_engine.specs.Steps.{CanSettle, HasSettled, Tells, HasMet}
use Rattle.phase_engine.proofs.Lists.{numbered_behind, asks_in, asks_long, asked_behind, asked_one, lines-more}
use Rattle.phase_engine.proofs.Coming.{can_run_lines, held_long}

-- the text of a block and of the line behind it
block_text : (output text told : List ℕ) (before block : List Line) (last : Line) → output ≡ printed before → told ≡ flat_map text_of_line block → text ≡ told ++ text_of_line last
    → output ++ text ≡ printed (before ++ (block ++ last ∷ []))
block_text output text told before block last out is behind =
    let created = text_of 1 answers.Created in
    let all : flat_map text_of_line (before ++ (block ++ last ∷ [])) ≡ flat_map text_of_line before ++ (flat_map text_of_line block ++ text_of_line last) =
    flat_map-append text_of_line before (block ++ last ∷ [])
    ∙ ap (λ (l : List ℕ). flat_map text_of_line before ++ l) (flat_map-append text_of_line block (last ∷ []) ∙ ap (λ (l : List ℕ). flat_map text_of_line block ++ l) (append-nil (text_of_line last))) in
    ap (λ (l : List ℕ). l ++ text) out
    ∙ append_assoc created (flat_map text_of_line before) text
    ∙ ap (λ (l : List ℕ). created ++ (flat_map text_of_line before ++ l)) (behind ∙ ap (λ (l : List ℕ). l ++ text_of_line last) is)
    ∙ ap (λ (l : List ℕ). created ++ l) (sym all)

-- ---- numbers, and how far the clock has come

low_more : (phases old new : ℕ) → old ≤ 2 ^ 63 + phases * (2 ^ 40 + 1) → new ≤ max old (2 ^ 63) + (2 ^ 40 + 1) → new ≤ 2 ^ 63 + (phases + 1) * (2 ^ 40 + 1)
low_more phases old new low step = omega arith

lines_long : (collection : Collection) (lines : List (List ℕ)) (before : List Line) → asks_in before ≡ asked_in collection lines → length before ≡ length lines
lines_long collection lines before asked = asks_long before (asked_in collection lines) asked ∙ length-map lines (λ line. asked_of (request_of collection line))

reads_long : (reads : List Read) (block : List Line) → asks_in block ≡ map asked_of reads → length block ≡ length reads
reads_long reads block asked = asks_long block (map asked_of reads) asked ∙ length-map reads asked_of

numbered_so : (collection : Collection) (lines : List (List ℕ)) (reads : List Read) (before block : List Line) (last : Line) → asks_in before ≡ asked_in collection lines → asks_in block ≡ map asked_of reads
    → Numbered 2 before → Numbered (2 + length lines) block → last.number ≡ 2 + length lines + length reads → Numbered 2 (before ++ (block ++ last ∷ []))
numbered_so collection lines reads before block last asked_before asked_block left right is =
    let one : length before ≡ length lines = lines_long collection lines before asked_before in
    let other : length block ≡ length reads = reads_long reads block asked_block in
    let first : 2 + length lines ≡ 2 + length before = omega arith in
    numbered_behind 2 before block last left (subst (λ (n : ℕ). Numbered n block) first right) (omega arith)

-- ---- a phase and its meet

abbrev pub meet_line : ℕ → Settled → Line
meet_line caller settled = record { number = settled.number; asked = Given (record { caller = caller; what = asks.Meet }); answer = answers.Met settled.reply }

abbrev pub meet_of : ℕ → Read
meet_of caller = Ok (record { caller = caller; what = asks.Meet })

-- the lines of the phases and of one more, which is asked what waited
asked_more : (collection : Collection) (lines waiting : List (List ℕ)) (reads : List Read) (caller : ℕ) (settled : Settled) (before block : List Line) → asks_in before ≡ asked_in collection lines
    → asks_in block ≡ map asked_of reads → map (λ line. request_of collection line) waiting ≡ reads ++ meet_of caller ∷ []
    → asks_in (before ++ (block ++ meet_line caller settled ∷ [])) ≡ asked_in collection (lines ++ waiting)
asked_more collection lines waiting reads caller settled before block left right come =
    asked_behind (λ line. request_of collection line) lines waiting before (block ++ meet_line caller settled ∷ []) left
    (asked_one reads (meet_of caller) block (meet_line caller settled) right refl ∙ ap (map asked_of) (sym come))

ran_one : (least : ℕ) (before : Running) (settled : Settled) (lines : PhaseLines) (done waiting : List (List ℕ)) (output text : List ℕ) (caller : ℕ) (s : IsRunning least before done waiting output)
    → map (λ line. request_of (collection_in before.channels) line) waiting ≡ s.reads ++ meet_of caller ∷ [] → text ≡ settled.text.items ++ text_of settled.number (answers.Met settled.reply)
    → AreHeld (settled.number + 1) [] lines → HasSettled least (2 + length s.lines) s.reads s.rest before.channels settled
    → IsRunning least (record { channels = settled.channels; lines = lines; meet_came = false }) (done ++ waiting) [] (output ++ text)
ran_one least before settled lines done waiting output text caller s come behind held h =
    let collection = collection_in before.channels in
    let meet : Line = meet_line caller settled in
    let phase : Phase = record { lines = h.block; meet = meet } in
    let more : lines_in (s.phases ++ phase ∷ []) ≡ lines_in s.phases ++ (h.block ++ meet ∷ []) = lines-more s.phases phase in
    let is_meet : IsMeet collection least h.ran h.new meet = record { caller = caller; counted = settled.reply; asked = refl; answer = refl; meets = h.meets } in
    let ran : HasRun collection least (s.phases ++ phase ∷ []) h.new = goes_on ChannelBase collection least s.phases s.rest h.ran h.new h.block meet s.at_rest.bases.range s.ran h.phase is_meet in
    let number : settled.number ≡ 2 + length s.lines + length s.reads = h.number in
    let long : length waiting ≡ length s.reads + 1 = sym (length-map waiting (λ line. request_of collection line)) ∙ ap length come ∙ length-append s.reads (meet_of caller ∷ []) in
    let all : length (s.lines ++ waiting) ≡ length s.lines + length waiting = length-append s.lines waiting in
    let next : settled.number + 1 ≡ 2 + length (s.lines ++ waiting) = omega arith in
    let phases : length (s.phases ++ phase ∷ []) ≡ length s.phases + 1 = length-append s.phases (phase ∷ []) in
    let met : length s.phases ≤ length s.lines = s.met in
    let low : settled.channels.clock ≤ 2 ^ 63 + (length s.phases + 1) * (2 ^ 40 + 1) = low_more (length s.phases) before.channels.clock settled.channels.clock s.low h.low in
    let asked : asks_in (lines_in s.phases ++ (h.block ++ meet ∷ [])) ≡ asked_in collection (s.lines ++ waiting) = asked_more collection s.lines waiting s.reads caller settled (lines_in s.phases) h.block s.asked h.asked come in
    record {
      header = s.header;
      lines = s.lines ++ waiting;
      split = ap (λ (l : List (List ℕ)). l ++ waiting) s.split;
      header_is = s.header_is ∙ ap (λ (c : Collection). Some c) (sym h.same);
      phases = s.phases ++ phase ∷ [];
      rest = h.new;
      ran = subst (λ (c : Collection). HasRun c least (s.phases ++ phase ∷ []) h.new) (sym h.same) ran;
      at_rest = h.rest;
      text = block_text output text settled.text.items (lines_in s.phases) h.block meet s.text h.text_is behind ∙ ap printed (sym more);
      numbered = subst (Numbered 2) (sym more) (numbered_so collection s.lines s.reads (lines_in s.phases) h.block meet s.asked h.asked s.numbered h.numbered number);
      asked = ap asks_in more ∙ asked ∙ ap (λ (c : Collection). asked_in c (s.lines ++ waiting)) (sym h.same);
      reads = [];
      held = subst (λ (n : ℕ). AreHeld n [] lines) next held;
      come = refl;
      fit = tt;
      met = omega arith;
      low = subst (λ (n : ℕ). settled.channels.clock ≤ 2 ^ 63 + n * (2 ^ 40 + 1)) (sym phases) low;
    }

pub ran : (least : ℕ) (before after : Running) (settled : Settled) (text : List ℕ) → CanSettle before → before.meet_came ≡ true → Tells least before settled → HasMet settled after text
    → AnswersPhase (IsRunning least before) (IsRunning least after) text
ran least before after settled text can came tells met done waiting output s =
    let collection = collection_in before.channels in
    let h = tells s.rest (2 + length s.lines) s.reads (can_run_lines least before done waiting output can s) in
    let come : HaveCome collection s.reads true waiting = subst (λ (b : Bool). HaveCome collection s.reads b waiting) came s.come in
    subst (λ (running : Running). IsRunning least running (done ++ waiting) [] (output ++ text)) (sym met.running_is)
    (ran_one least before settled met.lines done waiting output text come.0 s come.1 met.text_is met.held h)

-- ---- a last phase and the end

abbrev pub end_line : Settled → Line
end_line settled = record { number = settled.number; asked = Finish; answer = answers.End settled.reply }

asked_whole : (collection : Collection) (lines waiting : List (List ℕ)) (reads : List Read) (settled : Settled) (before block : List Line) → asks_in before ≡ asked_in collection lines
    → asks_in block ≡ map asked_of reads → map (λ line. request_of collection line) waiting ≡ reads
    → asks_in ((before ++ block) ++ end_line settled ∷ []) ≡ asked_in collection (lines ++ waiting) ++ Finish ∷ []
asked_whole collection lines waiting reads settled before block left right come =
    map-append (λ (line : Line). line.asked) (before ++ block) (end_line settled ∷ [])
    ∙ ap (λ (l : List Asked). l ++ Finish ∷ []) (asked_behind (λ line. request_of collection line) lines waiting before block left (right ∙ ap (map asked_of) (sym come)))

ended_one : (least : ℕ) (before : Running) (settled : Settled) (done waiting : List (List ℕ)) (output text : List ℕ) (s : IsRunning least before done waiting output)
    → map (λ line. request_of (collection_in before.channels) line) waiting ≡ s.reads → text ≡ settled.text.items ++ text_of settled.number (answers.End settled.reply)
    → HasSettled least (2 + length s.lines) s.reads s.rest before.channels settled → whole_at least (done ++ waiting) (output ++ text)
ended_one least before settled done waiting output text s come behind h =
    let collection = collection_in before.channels in
    let end : Line = end_line settled in
    let range = s.at_rest.bases.range in
    let lines : List Line = lines_in s.phases in
    let same : (lines ++ h.block) ++ end ∷ [] ≡ lines ++ (h.block ++ end ∷ []) = append_assoc lines h.block (end ∷ []) in
    let is_end : IsEnd collection least h.ran h.new end = record { counted = settled.reply; asked = refl; answer = refl; meets = h.meets } in
    let numbered : Numbered 2 ((lines ++ h.block) ++ end ∷ []) = subst (Numbered 2) (sym same) (numbered_so collection s.lines s.reads lines h.block end s.asked h.asked s.numbered h.numbered h.number) in
    let asked = asked_whole collection s.lines waiting s.reads settled lines h.block s.asked h.asked come in
    subst (λ (l : List (List ℕ)). whole_at least l (output ++ text)) (sym (ap (λ (l : List (List ℕ)). l ++ waiting) s.split)) (record {
      collection = collection;
      header_is = s.header_is;
      lines = (lines ++ h.block) ++ end ∷ [];
      text = block_text output text settled.text.items lines h.block end s.text h.text_is behind ∙ ap printed (sym same);
      legal = is_whole ChannelBase collection least s.phases s.rest h.ran h.new h.block end (asked_in collection (s.lines ++ waiting) ++ Finish ∷ []) range s.ran h.phase is_end numbered asked;
      drawn_from = whole_timely ChannelBase collection least s.phases s.rest h.ran h.new h.block end s.ran h.phase is_end;
    })

pub ended : (least : ℕ) (before : Running) (settled : Settled) (text : List ℕ) → CanSettle before → before.meet_came ≡ false → Tells least before settled
    → text ≡ settled.text.items ++ text_of settled.number (answers.End settled.reply) → AnswersEnd (IsRunning least before) (whole_at least) text
ended least before settled text can none tells behind done waiting output s =
    let collection = collection_in before.channels in
    let h = tells s.rest (2 + length s.lines) s.reads (can_run_lines least before done waiting output can s) in
    let come : HaveCome collection s.reads false waiting = subst (λ (b : Bool). HaveCome collection s.reads b waiting) none s.come in
    ended_one least before settled done waiting output text s come behind h

-- a line has a number behind those that were run
pub next_fits : (least : ℕ) (before : Running) (settled : Settled) → CanSettle before → Tells least before settled → settled.number + 1 < 2 ^ 32
next_fits least before settled can tells =
    let h : settled.number ≡ can.first + length can.reads = (tells can.rest can.first can.reads can.lines).number in
    let room : can.first + length can.reads + 1 < 2 ^ 32 = can.room in omega arith

-- ---- what running the lines and meeting make

pub ran_rest : (least first : ℕ) (reads : List Read) (rest : Rest) (before ran : Channels) (text : List ℕ) → AreJournals (collection_in before) rest → (h : HasRunPhase least first reads rest before ran text)
    → AreJournals (collection_in ran) h.new
ran_rest least first reads rest before ran text journals h =
    subst (λ (c : Collection). AreJournals c h.new) (sym h.same) (phase_journals ChannelBase (collection_in before) least rest h.new h.block journals h.phase)

low_settled : (before ran after : ℕ) → IsLow (2 ^ 40) before ran → IsLow 1 ran after → after ≤ max before (2 ^ 63) + (2 ^ 40 + 1)
low_settled before ran after one other = omega arith

pub has_settled : (least moment first : ℕ) (reads : List Read) (rest : Rest) (before : Running) (ran : Channels) (settled : Settled) (start : List ℕ) → CanRunLines rest first reads before.channels before.lines
    → least ≤ of_moment moment → start ≡ [] → ((written : List ℕ) × (settled.text.items ≡ start ++ written) × HasRunPhase least first reads rest before.channels ran written)
    → ((other : Rest) (low : ℕ) → low ≤ of_moment moment → AreJournals (collection_in ran) other → AreAtRest other ran → HaveMet low other ran settled.channels settled.reply)
    → IsLow (2 ^ 40) before.channels.clock ran.clock → IsLow 1 ran.clock settled.channels.clock → settled.number ≡ before.lines.first + length before.lines.slots.items
    → HasSettled least first reads rest before.channels settled
has_settled least moment first reads rest before ran settled start can early empty did meets low lower number =
    let h = did.2 in
    let m = meets h.new least early (ran_rest least first reads rest before.channels ran did.0 can.journals h) h.rest in
    let long : length before.lines.slots.items ≡ length reads = held_long first reads before.lines can.held in
    let is : before.lines.first ≡ first = can.held.first_is in
    record {
      ran = h.new;
      new = m.new;
      block = h.block;
      phase = h.phase;
      meets = subst (λ (c : Collection). Meets c least h.new m.new settled.reply) h.same m.meets;
      rest = m.rest;
      same = m.same ∙ h.same;
      text_is = did.1 ∙ ap (λ (l : List ℕ). l ++ did.0) empty ∙ h.text_is;
      numbered = h.numbered;
      asked = h.asked;
      number = omega arith;
      low = low_settled before.channels.clock ran.clock settled.channels.clock low lower;
    }
