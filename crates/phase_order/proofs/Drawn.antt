-- The numbers of an answer are among those that the steps of its call drew.
use Rattle.std.proofs.Common.{◌≡◌, ℕ, ◌+◌, ◌≤◌, List, [], ◌∷◌, ◌++◌, map, refl, sym, ap, subst, ◌∙◌, arith}
use Rattle.hybrid_time.specs.declared.times.Timestamp.{Timestamp}
use Rattle.coarse_lists.specs.declared.collections.Collection.{Collection}
use Rattle.answer_lines.specs.declared.answers.Answer.{Answer}
use Rattle.answer_lines.specs.declared.answers.Answer.TheVariants as answers
use Rattle.request_lines.specs.declared.requests.Ask.{Ask}
use Rattle.request_lines.specs.declared.requests.Ask.TheVariants as asks
use Rattle.legal_output.specs.Lines.{drawn}
use Rattle.legal_output.specs.Legal.{Rising}
use Rattle.journal_model.specs.declared.notes.Note.{Note}
use Rattle.turn_facts.specs.Counts.{count}
use Rattle.turn_facts.proofs.Counts.{count-append}
use Rattle.seat_walks.specs.Walks.{Turned, Step, Draw, Took, Rises, all_drawn}
use Rattle.call_model.specs.Calls.{AreTicks, AreSeals, IsCall}
use Rattle.phase_order.proofs.Stamps.{rising}

ticks_drawn : (by line k : ℕ) (turns : List (Turned Note)) (stamps : List Timestamp) → AreTicks by line k turns stamps → map (λ tick. tick.0) stamps ≡ all_drawn (map Took turns)
ticks_drawn by line k [] [] a = refl
ticks_drawn by line k [] (ts ∷ stamps) a = absurd a
ticks_drawn by line k (t ∷ turns) [] a = absurd a
ticks_drawn by line k (t ∷ turns) (ts ∷ stamps) a =
    ap (λ (l : List ℕ). ts.0 ∷ l) (ticks_drawn by line (k + 1) turns stamps a.2) ∙ sym (ap (λ (l : List ℕ). l ++ all_drawn (map Took turns)) a.1.drawn)

seals_drawn : (collection : Collection) (by line k : ℕ) (turns : List (Turned Note)) (seals : List (Timestamp × ℕ)) → AreSeals collection by line k turns seals → map (λ seal. seal.0.0) seals ≡ all_drawn (map Took turns)
seals_drawn collection by line k [] [] a = refl
seals_drawn collection by line k [] (seal ∷ seals) a = absurd a
seals_drawn collection by line k (t ∷ turns) [] a = absurd a
seals_drawn collection by line k (t ∷ turns) (seal ∷ seals) a =
    ap (λ (l : List ℕ). seal.0.0 ∷ l) (seals_drawn collection by line (k + 1) turns seals a.2) ∙ sym (ap (λ (l : List ℕ). l ++ all_drawn (map Took turns)) a.1.drawn)

same_few : (x : ℕ) (l m : List ℕ) → l ≡ m → count x l ≤ count x m
same_few x l m e = let c : count x l ≡ count x m = ap (count x) e in omega arith

first_few : (x now : ℕ) (steps rest : List (Step Note)) → steps ≡ Draw now ∷ rest → count x (now ∷ []) ≤ count x (all_drawn steps)
first_few x now steps rest e =
    let a : count x (all_drawn steps) ≡ count x ((now ∷ []) ++ all_drawn rest) = ap (λ (l : List (Step Note)). count x (all_drawn l)) e in
    let b : count x ((now ∷ []) ++ all_drawn rest) ≡ count x (now ∷ []) + count x (all_drawn rest) = count-append x (now ∷ []) (all_drawn rest) in omega arith

pub drawn_few : (collection : Collection) (by line mine : ℕ) (ask : Ask) (answer : Answer) (steps : List (Step Note)) → IsCall collection by line mine ask answer steps → (x : ℕ) → count x (drawn answer) ≤ count x (all_drawn steps)
drawn_few collection by line mine (asks.Write write) (answers.Wrote reply) steps c x =
    same_few x (reply.ts.0 ∷ []) (all_drawn steps) (sym (ap all_drawn c.only ∙ ap (λ (l : List ℕ). l ++ []) c.writes.drawn))
drawn_few collection by line mine asks.Tick (answers.Ticked stamps) steps c x =
    same_few x (map (λ tick. tick.0) stamps) (all_drawn steps) (ticks_drawn by line 0 c.turns stamps c.ticks ∙ sym (ap all_drawn c.only))
drawn_few collection by line mine asks.Seal (answers.Sealed seals) steps c x =
    same_few x (map (λ seal. seal.0.0) seals) (all_drawn steps) (seals_drawn collection by line 0 c.turns seals c.sealed ∙ sym (ap all_drawn c.only))
drawn_few collection by line mine (asks.Search query level wait) (answers.Hits now guarantee ts hits) steps c x = first_few x now.0 steps (map Took c.turns) c.only
drawn_few collection by line mine (asks.Search query level wait) (answers.Pending now guarantee channel tick) steps c x = first_few x now.0 steps (map Took (c.front ++ c.last ∷ [])) c.only
drawn_few collection by line mine (asks.Get key level wait) (answers.Found now guarantee ts row) steps c x = first_few x now.0 steps (Took c.turn ∷ []) c.only
drawn_few collection by line mine (asks.Get key level wait) (answers.Pending now guarantee channel tick) steps c x = first_few x now.0 steps (Took c.turn ∷ []) c.only
drawn_few collection by line mine ask answer steps c x = absurd c

-- and rise where those rise
pub drawn_rises : (collection : Collection) (by line mine : ℕ) (ask : Ask) (answer : Answer) (steps : List (Step Note)) → IsCall collection by line mine ask answer steps → Rises (all_drawn steps) → Rising (drawn answer)
drawn_rises collection by line mine (asks.Write write) (answers.Wrote reply) steps c r = (tt, tt)
drawn_rises collection by line mine asks.Tick (answers.Ticked stamps) steps c r =
    subst Rising (sym (ticks_drawn by line 0 c.turns stamps c.ticks ∙ sym (ap all_drawn c.only))) (rising (all_drawn steps) r)
drawn_rises collection by line mine asks.Seal (answers.Sealed seals) steps c r =
    subst Rising (sym (seals_drawn collection by line 0 c.turns seals c.sealed ∙ sym (ap all_drawn c.only))) (rising (all_drawn steps) r)
drawn_rises collection by line mine (asks.Search query level wait) (answers.Hits now guarantee ts hits) steps c r = (tt, tt)
drawn_rises collection by line mine (asks.Search query level wait) (answers.Pending now guarantee channel tick) steps c r = (tt, tt)
drawn_rises collection by line mine (asks.Get key level wait) (answers.Found now guarantee ts row) steps c r = (tt, tt)
drawn_rises collection by line mine (asks.Get key level wait) (answers.Pending now guarantee channel tick) steps c r = (tt, tt)
drawn_rises collection by line mine ask answer steps c r = absurd c
