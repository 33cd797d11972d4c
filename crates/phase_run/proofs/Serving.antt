-- One request more of a caller, and one round more of a ticker.
use Rattle.std.proofs.Common.{◌≡◌, ◌⊎◌, inl, inr, ⊎_elim, ℕ, zero, suc, ◌+◌, ◌*◌, ◌^◌, ◌<◌, ◌≤◌, ◌==◌, cond, Bool, true, false, List, [], ◌∷◌, ◌++◌, map, min, length, get_or, length-append, Ok, Err, true≢false, refl, ap, sym, ◌∙◌, subst, arith, append-nil, append_assoc}
use Rattle.std.specs.Prelude.{MatchResult, IfOk, OnOk, OnErr}
use Rattle.std.specs.Result.{IsErr}
use Rattle.std.specs.List.{AllByRecursion as Each}
use Rattle.std.specs.declared.result.Result.{Result}
use Rattle.std.proofs.lemmas.List.{map-append}
use Rattle.turn_facts.specs.Counts.{count, Among}
use Rattle.turn_facts.proofs.Counts.{count-here, count-append}
use Rattle.turn_table.specs.Seats.{SeatView}
use Rattle.hybrid_time.specs.declared.times.Timestamp.{Timestamp}
use Rattle.hybrid_time.specs.Times.{of_moment}
use Rattle.log_model.specs.declared.logs.Write.{Write}
use Rattle.log_model.specs.Logs.{key_of}
use Rattle.log_model.proofs.LogLaws.{each-append}
use Rattle.coarse_lists.specs.declared.collections.Collection.{Collection}
use Rattle.answer_lines.specs.declared.answers.WriteReply.{WriteReply}
use Rattle.answer_lines.specs.declared.answers.Answer.{Answer}
use Rattle.answer_lines.specs.declared.answers.Answer.TheVariants as answers
use Rattle.request_lines.specs.declared.requests.Ask.{Ask}
use Rattle.request_lines.specs.declared.requests.Ask.TheVariants as asks
use Rattle.request_lines.specs.declared.requests.Request.{Request}
use Rattle.legal_output.specs.Lines.{Line, written_of, channel_of}
use Rattle.legal_output.specs.Printed.{write_or, write_behind}
use Rattle.journal_model.specs.declared.notes.Note.{Note}
use Rattle.journal_model.specs.declared.notes.Kind.TheVariants.{Tick}
use Rattle.journal_model.specs.Notes.{note_of}
use Rattle.seat_walks.specs.Walks.{Turned, Step, Took, Lift, notes_in, all_drawn, all_notes, Walked}
use Rattle.seat_walks.proofs.Walking.{walks_append, walked}
use Rattle.shard_core.specs.Shards.{ChannelBase}
use Rattle.call_model.specs.Turns.{by_of, time_of, stamp, Writes, Ticks, Seals}
use Rattle.call_model.specs.Calls.{channel_at, AreTicks, AreSeals, IsCall}
use Rattle.call_model.specs.Walks.{Did, Serves}
use Rattle.call_model.proofs.Rounds.{did_more, ticks_more, seals_more}
use Rattle.phase_model.specs.Phases.{IsBackground, Minds}
use Rattle.shard_calls.specs.Fronts.{FrontView, Spends}
use Rattle.shard_calls.specs.Calls.{IsIdle}
use Rattle.phase_run.specs.Callers.{MayTick, IsKnown, line_of, answered}

pub if_err : {T E : Type 0} (result : Result T E) (P : T → Type 0) → IsErr result → IfOk result P
if_err (Ok x) P h = absurd (true≢false (sym h))
if_err (Err e) P h = tt

pub on_err : {T E P : Type 0} (result : Result T E) → P → OnErr result P
on_err (Ok x) p = tt
on_err (Err e) p = p

pub no_ok : {T E : Type 0} (P : Type 0) (result : Result T E) → IsErr result → OnOk result P
no_ok P (Ok x) h = absurd (true≢false (sym h))
no_ok P (Err e) h = tt

-- ---- what is left of a seat

pub spends_more : (a b c : ℕ) (s m e : SeatView Note ChannelBase) → Spends a s m → Spends b m e → a + b ≤ c → Spends c s e
spends_more a b c s m e p q fits =
    let one : s.allowance ≤ m.allowance + a = p.allowance in
    let two : m.allowance ≤ e.allowance + b = q.allowance in record {
      table = q.table ∙ p.table;
      turns = q.turns ∙ p.turns;
      number = q.number ∙ p.number;
      joined = q.joined ∙ p.joined;
      allowance = omega arith;
      share = q.share ∙ p.share;
      drawn = λ x h. q.drawn x (p.drawn x h);
    }

pub spends_none : (n : ℕ) (s : SeatView Note ChannelBase) → Spends n s s
spends_none n s = record { table = refl; turns = refl; number = refl; joined = refl; allowance = omega arith; share = refl; drawn = λ x h. h }

-- ---- ticks and seals, channel after channel

module _ (line : ℕ) (s m e : SeatView Note ChannelBase) (channel : ℕ) (named : m.number ≡ s.number) where
  pub may_tick : (t : Turned Note) (ts : ℕ) → Ticks m.number line ts t.notes t.drawn → MayTick s.number line t
  may_tick t ts k = inr (ts, subst (λ (n : ℕ). t.notes ≡ note_of n line (Tick (stamp ts)) ∷ []) named k.noted)

  pub may_have_ticked : {E : Type 0} (t : Turned Note) (result : Result Timestamp E) → MatchResult result (λ ts. Ticks m.number line ts.0 t.notes t.drawn) (λ _. IsIdle t.notes t.drawn) → MayTick s.number line t
  may_have_ticked t (Ok ts) k = may_tick t ts.0 k
  may_have_ticked t (Err x) k = inl k.none

  pub each_may : (turns : List (Turned Note)) (t : Turned Note) → Each (MayTick s.number line) turns → MayTick s.number line t → Each (MayTick s.number line) (turns ++ t ∷ [])
  each_may turns t all may = each-append (MayTick s.number line) turns (t ∷ []) all (may, tt)

  pub ticked_next : (turns : List (Turned Note)) (stamps : List Timestamp) (t : Turned Note) (ts : Timestamp) → AreTicks s.number line 0 turns stamps → length stamps ≡ channel → t.slot ≡ channel → Ticks m.number line ts.0 t.notes t.drawn
      → AreTicks s.number line 0 (turns ++ t ∷ []) (stamps ++ ts ∷ []) × (length (stamps ++ ts ∷ []) ≡ channel + 1)
  ticked_next turns stamps t ts are many slot k = (
    ticks_more s.number line 0 turns stamps t ts are (let p : t.slot ≡ 0 + length stamps = omega arith in p) (subst (λ (n : ℕ). Ticks n line ts.0 t.notes t.drawn) named k),
    (let l : length (stamps ++ ts ∷ []) ≡ length stamps + 1 = length-append stamps (ts ∷ []) in omega arith),
  )

  pub sealed_next : (collection : Collection) (turns : List (Turned Note)) (seals : List (Timestamp × ℕ)) (t : Turned Note) (seal : Timestamp × ℕ) → AreSeals collection s.number line 0 turns seals → length seals ≡ channel → t.slot ≡ channel
      → Seals (channel_at collection channel) m.number line seal.0.0 seal.1 t.before t.notes t.drawn
      → AreSeals collection s.number line 0 (turns ++ t ∷ []) (seals ++ seal ∷ []) × (length (seals ++ seal ∷ []) ≡ channel + 1)
  sealed_next collection turns seals t seal are many slot k = (
    seals_more collection s.number line 0 channel turns seals t seal are (omega arith) slot (subst (λ (n : ℕ). Seals (channel_at collection channel) n line seal.0.0 seal.1 t.before t.notes t.drawn) named k),
    (let l : length (seals ++ seal ∷ []) ≡ length seals + 1 = length-append seals (seal ∷ []) in omega arith),
  )

-- ---- the last write

among_front : (x : ℕ) (l m : List ℕ) → Among x l → Among x (l ++ m)
among_front x l m a = let c : count x (l ++ m) ≡ count x l + count x m = count-append x l m in omega arith

module _ (collection : Collection) (first line mine : ℕ) (m e : SeatView Note ChannelBase) (known : IsKnown first mine m) where
  pub keeps : (xs : List (Step Note)) → Did m xs e → IsKnown first mine e
  keeps xs d =
      let w : Walked by_of time_of m xs e = walked by_of time_of m xs e d in
      ⊎_elim (λ (h : mine < first). inl h) (λ (a : Among mine m.drawn). inr (subst (λ (l : List ℕ). Among mine l) (sym w.drawn) (among_front mine m.drawn (all_drawn xs) a))) known

  wrote : (xs : List (Step Note)) (t : Turned Note) (ts : ℕ) → Did m xs e → xs ≡ Took t ∷ [] → t.drawn ≡ ts ∷ [] → Among ts e.drawn
  wrote xs t ts d only drawn =
      let w : Walked by_of time_of m xs e = walked by_of time_of m xs e d in
      let all : e.drawn ≡ m.drawn ++ (ts ∷ []) = w.drawn ∙ ap (λ (l : List (Step Note)). m.drawn ++ all_drawn l) only ∙ ap (λ (l : List ℕ). m.drawn ++ (l ++ [])) drawn in
      let c : count ts (m.drawn ++ (ts ∷ [])) ≡ count ts m.drawn + count ts (ts ∷ []) = count-append ts m.drawn (ts ∷ []) in
      let h : count ts (ts ∷ []) ≡ 1 + count ts [] = count-here ts [] in
      subst (λ (l : List ℕ). Among ts l) (sym all) (let z : Among ts (m.drawn ++ (ts ∷ [])) = omega arith in z)

  wrote_by : (ask : Ask) (reply : WriteReply) (xs : List (Step Note)) → Did m xs e → IsCall collection m.number line mine ask (answers.Wrote reply) xs → IsKnown first reply.ts.0 e
  wrote_by (asks.Write write) reply xs d c = inr (wrote xs c.turn reply.ts.0 d c.only c.writes.drawn)
  wrote_by (asks.Search query level wait) reply xs d c = absurd c
  wrote_by (asks.Get key level wait) reply xs d c = absurd c
  wrote_by asks.Tick reply xs d c = absurd c
  wrote_by asks.Seal reply xs d c = absurd c
  wrote_by asks.Meet reply xs d c = absurd c

  -- behind a call the caller's last write is known as before
  pub known_after : (ask : Ask) (answer : Answer) (xs : List (Step Note)) → Did m xs e → IsCall collection m.number line mine ask answer xs → IsKnown first (write_or mine (written_of answer)) e
  known_after ask (answers.Wrote reply) xs d c = wrote_by ask reply xs d c
  known_after ask answer xs d c = keeps xs d

-- a write's turn is its call
pub wrote_once : (collection : Collection) (by line mine : ℕ) (ask : Ask) (write : Write) (reply : WriteReply) (t : Turned Note) → ask ≡ asks.Write write → t.slot ≡ channel_of collection.channels (key_of write) → Writes by line write reply t.before t.notes t.drawn
    → IsCall collection by line mine ask (answers.Wrote reply) (Took t ∷ [])
wrote_once collection by line mine ask write reply t is home writes =
    subst (λ (a : Ask). IsCall collection by line mine a (answers.Wrote reply) (Took t ∷ [])) (sym is) (record { turn = t; only = refl; home = home; writes = writes })

pub moments_rise : (a b : ℕ) → a ≤ b → of_moment a ≤ of_moment b
moments_rise a b h = omega arith

-- ---- lines

pub answered_more : (requests : List (ℕ × Request)) (done : List (ℕ × Answer)) (request : ℕ × Request) (answer : ℕ × Answer) → length done < length requests → request ≡ get_or requests (length done) request
    → answered requests (done ++ answer ∷ []) ≡ answered requests done ++ line_of request answer.1 ∷ []
answered_more [] done request answer low is = absurd (omega arith)
answered_more (r ∷ requests) [] request answer low is = ap (λ (q : ℕ × Request). line_of q answer.1 ∷ answered requests []) (sym is) ∙ ap (λ (l : List Line). line_of request answer.1 ∷ l) (answered_none requests)
  where
    answered_none : (l : List (ℕ × Request)) → answered l [] ≡ []
    answered_none [] = refl
    answered_none (q ∷ l) = refl
answered_more (r ∷ requests) (a ∷ done) request answer low is = ap (λ (l : List Line). line_of r a.1 ∷ l) (answered_more requests done request answer (omega arith) is)

pub none_answered : (requests : List (ℕ × Request)) → answered requests [] ≡ []
none_answered [] = refl
none_answered (r ∷ requests) = refl

pub write_behind_more : (ts : ℕ) (lines : List Line) (line : Line) → write_behind ts (lines ++ line ∷ []) ≡ write_or (write_behind ts lines) (written_of line.answer)
write_behind_more ts [] line = refl
write_behind_more ts (l ∷ lines) line = write_behind_more (write_or ts (written_of l.answer)) lines line

-- ---- the background

pub notes_append : (k : ℕ) (xs ys : List (Step Note)) → all_notes k (xs ++ ys) ≡ all_notes k xs ++ all_notes k ys
notes_append k [] ys = refl
notes_append k (x ∷ xs) ys = ap (λ (l : List Note). notes_in k x ++ l) (notes_append k xs ys) ∙ sym (append_assoc (notes_in k x) (all_notes k xs) (all_notes k ys))

pub minds_none : (s : SeatView Note ChannelBase) → Minds s s
minds_none s = record { steps = []; did = refl; background = λ k. tt }

pub minds_more : (s m e : SeatView Note ChannelBase) → Minds s m → Minds m e → Minds s e
minds_more s m e p q = record {
  steps = p.steps ++ q.steps;
  did = walks_append by_of time_of s m e p.steps q.steps p.did q.did;
  background = λ k. subst (Each IsBackground) (sym (notes_append k p.steps q.steps)) (each-append IsBackground (all_notes k p.steps) (all_notes k q.steps) (p.background k) (q.background k));
}

tick_background : (by k : ℕ) (turns : List (Turned Note)) → Each (MayTick by 0) turns → Each IsBackground (all_notes k (map Took turns))
tick_background by k [] all = tt
tick_background by k (t ∷ turns) all = each-append IsBackground (cond (t.slot == k) t.notes []) (all_notes k (map Took turns)) (here (t.slot == k)) (tick_background by k turns all.1)
  where
    one : Each IsBackground t.notes
    one = ⊎_elim (λ (n : t.notes ≡ []). subst (Each IsBackground) (sym n) tt) (λ n. subst (Each IsBackground) (sym n.1) ((record { quiet = tt; line = refl }), tt)) all.0

    here : (b : Bool) → Each IsBackground (cond b t.notes [])
    here true = one
    here false = tt

-- one round
pub minds_round : (s m e : SeatView Note ChannelBase) (moment by : ℕ) (turns : List (Turned Note)) → Did s (Lift moment ∷ []) m → Did m (map Took turns) e → Each (MayTick by 0) turns → Minds s e
minds_round s m e moment by turns lift did all = record {
  steps = Lift moment ∷ map Took turns;
  did = walks_append by_of time_of s m e (Lift moment ∷ []) (map Took turns) lift did;
  background = λ k. tick_background by k turns all;
}
