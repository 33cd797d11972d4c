-- Lines and answers woven together: each line takes the next answer of its caller.
use Rattle.std.proofs.Common.{◌≡◌, ◌≢◌, ◌⊎◌, ℕ, ◌+◌, ◌-◌, ◌<◌, ◌≤◌, Bool, List, [], ◌∷◌, ◌++◌, length, map, drop, Option, Some, Ok, Err, if◌then◌else◌, refl, ap, sym, ◌∙◌, subst, inl, inr, ⊎_elim, arith, eq-eqb, ne_eqb, append_assoc}
use Rattle.std.specs.List.{AllByRecursion as Each, flat_map}
use Rattle.std.proofs.lemmas.List.{append-nil, length-drop}
use Rattle.answer_lines.specs.declared.answers.Answer.{Answer}
use Rattle.answer_lines.specs.Lines.{text_of}
use Rattle.request_lines.specs.declared.requests.Request.{Request}
use Rattle.request_lines.specs.declared.requests.Ask.{Ask}
use Rattle.request_lines.specs.declared.requests.Ask.TheVariants as asks
use Rattle.legal_output.specs.Lines.{Asked as Wanted, Line, caller_in, caller_of}
use Rattle.legal_output.specs.Printed.{is_caller, lines_of}
use Rattle.legal_output.specs.Legal.{Numbered}
use Rattle.legal_output.specs.Outputs.{asked_of, text_of_line}
use Rattle.journal_model.specs.Lists.{IsIn}
use Rattle.turn_facts.specs.Prefixes.{put}
use Rattle.turn_facts.proofs.Places.{same_or, put_here, put_else}
use Rattle.phase_model.specs.Phases.{HasSeat, IsLineOf}
use Rattle.phase_run.specs.Callers.{line_of, answered}
use Rattle.phase_lines.specs.Waiting.{Read, own, requests_of, MayWait, slot_of}
use Rattle.phase_lines.specs.Steps.{first_of, answer_at, left_behind, text_of_slots, HaveAnswers}

-- the lines that answer these, where these answers are left of each caller's
abbrev pub weave : ℕ → List Read → (ℕ → List (ℕ × Answer)) → List Line
weave number [] left = []
weave number (read ∷ reads) left = record { number = number; asked = asked_of read; answer = answer_at (slot_of read) left } ∷ weave (number + 1) reads (left_behind (slot_of read) left)

pub weave_numbered : (number : ℕ) (reads : List Read) (left : ℕ → List (ℕ × Answer)) → Numbered number (weave number reads left)
weave_numbered number [] left = tt
weave_numbered number (read ∷ reads) left = (refl, weave_numbered (number + 1) reads (left_behind (slot_of read) left))

pub weave_asked : (number : ℕ) (reads : List Read) (left : ℕ → List (ℕ × Answer)) → map (λ (line : Line). line.asked) (weave number reads left) ≡ map asked_of reads
weave_asked number [] left = refl
weave_asked number (read ∷ reads) left = ap (λ (l : List Wanted). asked_of read ∷ l) (weave_asked (number + 1) reads (left_behind (slot_of read) left))

pub weave_text : (number : ℕ) (reads : List Read) (left : ℕ → List (ℕ × Answer)) → flat_map text_of_line (weave number reads left) ≡ text_of_slots number (map slot_of reads) left
weave_text number [] left = refl
weave_text number (read ∷ reads) left = ap (λ (l : List ℕ). text_of number (answer_at (slot_of read) left) ++ l) (weave_text (number + 1) reads (left_behind (slot_of read) left))

-- ---- whose a line is

-- a request that waits is its caller's
pub caller_is : (number : ℕ) (what : Ask) → what ≢ asks.Meet → caller_in number what ≡ Some number
caller_is number (asks.Write write) n = refl
caller_is number (asks.Search query level wait) n = refl
caller_is number (asks.Get key level wait) n = refl
caller_is number asks.Tick n = refl
caller_is number asks.Seal n = refl
caller_is number asks.Meet n = absurd (n refl)

own_here : (number : ℕ) (request : Request) → MayWait (Ok request) → own request.caller number (Ok request) ≡ (number, request) ∷ []
own_here number request may =
    ap (λ (who : Option ℕ). if is_caller request.caller who then (number, request) ∷ [] else []) (caller_is request.caller request.what may.1)
    ∙ ap (λ (b : Bool). if b then (number, request) ∷ [] else []) (eq-eqb request.caller request.caller refl)

own_else : (caller number : ℕ) (request : Request) → MayWait (Ok request) → caller ≢ request.caller → own caller number (Ok request) ≡ []
own_else caller number request may other =
    ap (λ (who : Option ℕ). if is_caller caller who then (number, request) ∷ [] else []) (caller_is request.caller request.what may.1)
    ∙ ap (λ (b : Bool). if b then (number, request) ∷ [] else []) (ne_eqb caller request.caller other)

-- where a request is added, whoever asks it
pub own_put : (caller number : ℕ) (request : Request) → MayWait (Ok request) → ((caller ≡ request.caller) × (own caller number (Ok request) ≡ (number, request) ∷ [])) ⊎ ((caller ≢ request.caller) × (own caller number (Ok request) ≡ []))
own_put caller number request may =
    ⊎_elim
    (λ (same : caller ≡ request.caller). inl (same, subst (λ (c : ℕ). own c number (Ok request) ≡ (number, request) ∷ []) (sym same) (own_here number request may)))
    (λ (other : caller ≢ request.caller). inr (other, own_else caller number request may other))
    (same_or caller request.caller)

requests_here : (number : ℕ) (request : Request) (reads : List Read) → MayWait (Ok request) → requests_of request.caller number (Ok request ∷ reads) ≡ (number, request) ∷ requests_of request.caller (number + 1) reads
requests_here number request reads may = ap (λ (l : List (ℕ × Request)). l ++ requests_of request.caller (number + 1) reads) (own_here number request may)

requests_else : (caller number : ℕ) (request : Request) (reads : List Read) → MayWait (Ok request) → caller ≢ request.caller → requests_of caller number (Ok request ∷ reads) ≡ requests_of caller (number + 1) reads
requests_else caller number request reads may other = ap (λ (l : List (ℕ × Request)). l ++ requests_of caller (number + 1) reads) (own_else caller number request may other)

-- a line more
pub requests-append : (caller number : ℕ) (reads : List Read) (read : Read) → requests_of caller number (reads ++ read ∷ []) ≡ requests_of caller number reads ++ own caller (number + length reads) read
requests-append caller number [] read =
    let e : number ≡ number + 0 = omega arith in append-nil (own caller number read) ∙ ap (λ (n : ℕ). own caller n read) e
requests-append caller number (x ∷ reads) read =
    let e : (number + 1) + length reads ≡ number + length (x ∷ reads) = omega arith in
    ap (λ (l : List (ℕ × Request)). own caller number x ++ l) (requests-append caller (number + 1) reads read ∙ ap (λ (n : ℕ). requests_of caller (number + 1) reads ++ own caller n read) e)
    ∙ sym (append_assoc (own caller number x) (requests_of caller (number + 1) reads) (own caller (number + length (x ∷ reads)) read))

-- no caller above the 16 asks
pub none_above : (caller number : ℕ) (reads : List Read) → Each MayWait reads → 16 ≤ caller → requests_of caller number reads ≡ []
none_above caller number [] may high = refl
none_above caller number (Err reason ∷ reads) may high = none_above caller (number + 1) reads may.1 high
none_above caller number (Ok request ∷ reads) may high =
    let low : request.caller < 16 = may.0.0 in
    requests_else caller number request reads may.0 (λ e. omega arith) ∙ none_above caller (number + 1) reads may.1 high

-- ---- the lines of a caller

-- where there are answers for a request and all behind it, there are for those behind it once it has its own
enough_behind : (number : ℕ) (request : Request) (reads : List Read) (left : ℕ → List (ℕ × Answer)) (caller : ℕ) → MayWait (Ok request)
    → length (requests_of caller number (Ok request ∷ reads)) ≤ length (left caller)
    → length (requests_of caller (number + 1) reads) ≤ length (put left request.caller (drop 1 (left request.caller)) caller)
enough_behind number request reads left caller may enough =
    let more = drop 1 (left request.caller) in
    ⊎_elim
    (λ (same : caller ≡ request.caller).
    let all : length (requests_of request.caller number (Ok request ∷ reads)) ≤ length (left request.caller) = subst (λ (c : ℕ). length (requests_of c number (Ok request ∷ reads)) ≤ length (left c)) same enough in
    let first : length (requests_of request.caller number (Ok request ∷ reads)) ≡ length ((number, request) ∷ requests_of request.caller (number + 1) reads) = ap length (requests_here number request reads may) in
    let behind : length (put left request.caller more request.caller) ≡ length (left request.caller) - 1 = ap length (put_here left request.caller more) ∙ length-drop 1 (left request.caller) in
    let there : length (requests_of request.caller (number + 1) reads) ≤ length (put left request.caller more request.caller) = omega arith in
    subst (λ (c : ℕ). length (requests_of c (number + 1) reads) ≤ length (put left request.caller more c)) (sym same) there)
    (λ (other : caller ≢ request.caller).
    subst (λ (l : List (ℕ × Answer)). length (requests_of caller (number + 1) reads) ≤ length l) (sym (put_else left request.caller more caller other))
    (subst (λ (l : List (ℕ × Request)). length l ≤ length (left caller)) (requests_else caller number request reads may other) enough))
    (same_or caller request.caller)

has_first : (number : ℕ) (request : Request) (reads : List Read) (left : ℕ → List (ℕ × Answer)) → MayWait (Ok request) → length (requests_of request.caller number (Ok request ∷ reads)) ≤ length (left request.caller) → 1 ≤ length (left request.caller)
has_first number request reads left may enough =
    let first : length (requests_of request.caller number (Ok request ∷ reads)) ≡ length ((number, request) ∷ requests_of request.caller (number + 1) reads) = ap length (requests_here number request reads may) in omega arith

lines_here : (caller : ℕ) (line : Line) (lines : List Line) → caller_of line.asked ≡ Some caller → lines_of (Some caller) (line ∷ lines) ≡ line ∷ lines_of (Some caller) lines
lines_here caller line lines e =
    ap (λ (b : Bool). if b then line ∷ lines_of (Some caller) lines else lines_of (Some caller) lines) (ap (is_caller caller) e ∙ eq-eqb caller caller refl)

lines_else : (caller other : ℕ) (line : Line) (lines : List Line) → caller_of line.asked ≡ Some other → caller ≢ other → lines_of (Some caller) (line ∷ lines) ≡ lines_of (Some caller) lines
lines_else caller other line lines e n =
    ap (λ (b : Bool). if b then line ∷ lines_of (Some caller) lines else lines_of (Some caller) lines) (ap (is_caller caller) e ∙ ne_eqb caller other n)

answered_first : (request : ℕ × Request) (requests : List (ℕ × Request)) (answers : List (ℕ × Answer)) → 1 ≤ length answers → answered (request ∷ requests) answers ≡ line_of request (first_of answers) ∷ answered requests (drop 1 answers)
answered_first request requests [] some = absurd (omega arith)
answered_first request requests (answer ∷ answers) some = refl

-- the lines of a caller are its requests with its answers
pub weave_lines : (caller number : ℕ) (reads : List Read) (left : ℕ → List (ℕ × Answer)) → Each MayWait reads → length (requests_of caller number reads) ≤ length (left caller)
    → lines_of (Some caller) (weave number reads left) ≡ answered (requests_of caller number reads) (left caller)
weave_lines caller number [] left may enough = refl
weave_lines caller number (Err reason ∷ reads) left may enough = weave_lines caller (number + 1) reads left may.1 enough
weave_lines caller number (Ok request ∷ reads) left may enough =
    let more = drop 1 (left request.caller) in
    let behind = put left request.caller more in
    let rest = weave (number + 1) reads behind in
    let line : Line = record { number = number; asked = asked_of (Ok request); answer = first_of (left request.caller) } in
    let others : lines_of (Some caller) rest ≡ answered (requests_of caller (number + 1) reads) (behind caller) = weave_lines caller (number + 1) reads behind may.1 (enough_behind number request reads left caller may.0 enough) in
    let asks : caller_of line.asked ≡ Some request.caller = caller_is request.caller request.what may.0.1 in
    ⊎_elim
    (λ (same : caller ≡ request.caller).
    let requests = requests_of request.caller (number + 1) reads in
    let all : length (requests_of request.caller number (Ok request ∷ reads)) ≤ length (left request.caller) = subst (λ (c : ℕ). length (requests_of c number (Ok request ∷ reads)) ≤ length (left c)) same enough in
    let own_others : lines_of (Some request.caller) rest ≡ answered requests more =
    subst (λ (c : ℕ). lines_of (Some c) rest ≡ answered (requests_of c (number + 1) reads) (behind c)) same others ∙ ap (answered requests) (put_here left request.caller more) in
    let whole : lines_of (Some request.caller) (line ∷ rest) ≡ answered (requests_of request.caller number (Ok request ∷ reads)) (left request.caller) =
    lines_here request.caller line rest asks
    ∙ ap (λ (l : List Line). line ∷ l) own_others
    ∙ sym (answered_first (number, request) requests (left request.caller) (has_first number request reads left may.0 all))
    ∙ ap (λ (l : List (ℕ × Request)). answered l (left request.caller)) (sym (requests_here number request reads may.0)) in
    subst (λ (c : ℕ). lines_of (Some c) (line ∷ rest) ≡ answered (requests_of c number (Ok request ∷ reads)) (left c)) (sym same) whole)
    (λ (other : caller ≢ request.caller).
    lines_else caller request.caller line rest asks other
    ∙ others
    ∙ ap (answered (requests_of caller (number + 1) reads)) (put_else left request.caller more caller other)
    ∙ ap (λ (l : List (ℕ × Request)). answered l (left caller)) (sym (requests_else caller number request reads may.0 other)))
    (same_or caller request.caller)

-- ---- all lines

front_none : {A : Type 0} (a b : List A) → a ++ b ≡ [] → b ≡ []
front_none [] b e = e
front_none (x ∷ a) b e = cc

-- each line is refused, or of a caller that asks
pub weave_of : (whose : List (Option ℕ)) (number : ℕ) (reads : List Read) (left : ℕ → List (ℕ × Answer)) → Each MayWait reads → ((caller : ℕ) → requests_of caller number reads ≢ [] → IsIn (Some caller) whose)
    → Each (IsLineOf whose) (weave number reads left)
weave_of whose number [] left may known = tt
weave_of whose number (Err reason ∷ reads) left may known = (inl refl, weave_of whose (number + 1) reads left may.1 known)
weave_of whose number (Ok request ∷ reads) left may known =
    let there : IsIn (Some request.caller) whose = known request.caller (λ none. let e : (number, request) ∷ requests_of request.caller (number + 1) reads ≡ [] = sym (requests_here number request reads may.0) ∙ none in cc) in
    let own_line : HasSeat whose (caller_in request.caller request.what) = subst (HasSeat whose) (sym (caller_is request.caller request.what may.0.1)) there in (
      inr own_line,
      weave_of whose (number + 1) reads (left_behind (slot_of (Ok request)) left) may.1 (λ caller some. known caller (λ none. some (front_none (own caller number (Ok request)) (requests_of caller (number + 1) reads) none))),
    )

-- each slot of a caller finds an answer that is left
pub weave_have : (number : ℕ) (reads : List Read) (left : ℕ → List (ℕ × Answer)) → Each MayWait reads → ((caller : ℕ) → length (requests_of caller number reads) ≤ length (left caller)) → HaveAnswers (map slot_of reads) left
weave_have number [] left may enough = tt
weave_have number (Err reason ∷ reads) left may enough = (tt, weave_have (number + 1) reads left may.1 enough)
weave_have number (Ok request ∷ reads) left may enough = (
  (may.0.0, has_first number request reads left may.0 (enough request.caller)),
  weave_have (number + 1) reads (left_behind (slot_of (Ok request)) left) may.1 (λ caller. enough_behind number request reads left caller may.0 (enough caller)),
)
