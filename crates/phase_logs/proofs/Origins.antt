-- What kind of note a call leaves.
use Rattle.std.proofs.Common.{◌≡◌, ℕ, suc, ◌+◌, Bool, List, [], ◌∷◌, ◌++◌, map, inl, inr, ⊎_elim, refl, sym, ap, subst, ◌∙◌, arith}
use Rattle.hybrid_time.specs.declared.times.Timestamp.{Timestamp}
use Rattle.log_model.specs.declared.logs.Write.{Write}
use Rattle.log_model.specs.Logs.{key_of}
use Rattle.coarse_lists.specs.declared.collections.Collection.{Collection}
use Rattle.answer_lines.specs.declared.answers.WriteReply.{WriteReply}
use Rattle.answer_lines.specs.declared.answers.Answer.{Answer}
use Rattle.answer_lines.specs.declared.answers.Answer.TheVariants as answers
use Rattle.request_lines.specs.declared.requests.Ask.{Ask}
use Rattle.request_lines.specs.declared.requests.Ask.TheVariants as asks
use Rattle.legal_output.specs.Lines.{channel_of}
use Rattle.turn_facts.specs.Prefixes.{IsAt}
use Rattle.seat_walks.specs.Walks.{Turned, Step, Draw, Took, all_notes}
use Rattle.journal_model.specs.declared.notes.Kind.TheVariants.{Tick, Seal, Look}
use Rattle.journal_model.specs.declared.notes.Note.{Note}
use Rattle.journal_model.specs.Notes.{note_of}
use Rattle.journal_model.specs.Lists.{IsIn}
use Rattle.journal_model.proofs.ListLaws.{in_cases}
use Rattle.call_model.specs.Turns.{kind_of, stamp, Ticks, Looks}
use Rattle.call_model.specs.Calls.{AreTicks, AreSeals, AreLooks, IsCall}
use Rattle.phase_model.specs.Phases.{IsQuiet}
use Rattle.phase_order.proofs.Steps.{OfTurn, of_turn}

-- the note of a write
pub record FromWrite (collection : Collection) (by line k : ℕ) (ask : Ask) (answer : Answer) (note : Note) : Type 0 where
  pub write : Write
  pub said : WriteReply
  pub asked : ask ≡ asks.Write write
  pub told : answer ≡ answers.Wrote said
  pub home : channel_of collection.channels (key_of write) ≡ k
  pub is : note ≡ note_of by line (kind_of said.ts write)

-- the note of a seal in the channel k
pub record FromSeal (by line k : ℕ) (ask : Ask) (answer : Answer) (note : Note) : Type 0 where
  pub seals : List (Timestamp × ℕ)
  pub seal : Timestamp × ℕ
  pub asked : ask ≡ asks.Seal
  pub told : answer ≡ answers.Sealed seals
  pub there : IsAt seals k seal
  pub is : note ≡ note_of by line (Seal (stamp seal.0.0))

pub data Origin (collection : Collection) (by line k : ℕ) (ask : Ask) (answer : Answer) (note : Note) : Type 0 where
  Quiet : IsQuiet note.kind → Origin collection by line k ask answer note
  Written : FromWrite collection by line k ask answer note → Origin collection by line k ask answer note
  Sealed : FromSeal by line k ask answer note → Origin collection by line k ask answer note

quiet_of : (note other : Note) → note ≡ other → IsQuiet other.kind → IsQuiet note.kind
quiet_of note other same quiet = subst (λ (n : Note). IsQuiet n.kind) (sym same) quiet

only_in : (note other : Note) (notes : List Note) → notes ≡ other ∷ [] → IsIn note notes → note ≡ other
only_in note other notes is h = ⊎_elim (λ (p : note ≡ other). p) (λ (z : ⊥). absurd z) (subst (IsIn note) is h)

-- ---- quiet turns

tick_quiet : (by line ts : ℕ) (t : Turned Note) (note : Note) → Ticks by line ts t.notes t.drawn → IsIn note t.notes → IsQuiet note.kind
tick_quiet by line ts t note c h = quiet_of note (note_of by line (Tick (stamp ts))) (only_in note (note_of by line (Tick (stamp ts))) t.notes c.noted h) tt

look_quiet : (by line guarantee : ℕ) (wait : Bool) (t : Turned Note) (note : Note) → Looks by line guarantee wait t.before t.notes t.drawn → IsIn note t.notes → IsQuiet note.kind
look_quiet by line guarantee wait t note (inl c) h = quiet_of note (note_of by line (Look (stamp guarantee))) (only_in note (note_of by line (Look (stamp guarantee))) t.notes c.noted h) tt
look_quiet by line guarantee wait t note (inr c) h =
    ⊎_elim (λ (p : note ≡ note_of by line (Tick (stamp c.ts))). quiet_of note (note_of by line (Tick (stamp c.ts))) p tt)
    (λ (r : IsIn note (note_of by line (Look (stamp guarantee)) ∷ [])). quiet_of note (note_of by line (Look (stamp guarantee))) (only_in note (note_of by line (Look (stamp guarantee))) (note_of by line (Look (stamp guarantee)) ∷ []) refl r) tt)
    (subst (IsIn note) c.noted h)

took_in : (t : Turned Note) (turns : List (Turned Note)) → IsIn (Took t) (map Took turns) → IsIn t turns
took_in t [] h = absurd h
took_in t (u ∷ turns) (inl p) = inl (let q : t ≡ u = cc in q)
took_in t (u ∷ turns) (inr h) = inr (took_in t turns h)

took_behind : (t : Turned Note) (now : ℕ) (turns : List (Turned Note)) (steps : List (Step Note)) → steps ≡ Draw now ∷ map Took turns → IsIn (Took t) steps → IsIn t turns
took_behind t now turns steps is h = ⊎_elim (λ (p : Took t ≡ Draw now). absurd (let z : ⊥ = cc in z)) (λ (r : IsIn (Took t) (map Took turns)). took_in t turns r) (subst (IsIn (Took t)) is h)

ticks_quiet : (by line k : ℕ) (turns : List (Turned Note)) (stamps : List Timestamp) (t : Turned Note) (note : Note) → AreTicks by line k turns stamps → IsIn t turns → IsIn note t.notes → IsQuiet note.kind
ticks_quiet by line k [] stamps t note a h n = absurd h
ticks_quiet by line k (u ∷ turns) [] t note a h n = absurd a
ticks_quiet by line k (u ∷ turns) (ts ∷ stamps) t note a (inl p) n = tick_quiet by line ts.0 u note a.1 (subst (λ (v : Turned Note). IsIn note v.notes) p n)
ticks_quiet by line k (u ∷ turns) (ts ∷ stamps) t note a (inr h) n = ticks_quiet by line (k + 1) turns stamps t note a.2 h n

looks_quiet : (by line guarantee : ℕ) (wait : Bool) (k : ℕ) (turns : List (Turned Note)) (t : Turned Note) (note : Note) → AreLooks by line guarantee wait k turns → IsIn t turns → IsIn note t.notes → IsQuiet note.kind
looks_quiet by line guarantee wait k [] t note a h n = absurd h
looks_quiet by line guarantee wait k (u ∷ turns) t note a (inl p) n = look_quiet by line guarantee wait u note a.0.1 (subst (λ (v : Turned Note). IsIn note v.notes) p n)
looks_quiet by line guarantee wait k (u ∷ turns) t note a (inr h) n = looks_quiet by line guarantee wait (k + 1) turns t note a.2 h n

-- ---- seals

pub record SealTurn (collection : Collection) (by line k : ℕ) (seals : List (Timestamp × ℕ)) (t : Turned Note) : Type 0 where
  pub place : ℕ
  pub seal : Timestamp × ℕ
  pub slot : t.slot ≡ k + place
  pub there : IsAt seals place seal
  pub noted : t.notes ≡ note_of by line (Seal (stamp seal.0.0)) ∷ []

seal_later : (collection : Collection) (by line k : ℕ) (first : Timestamp × ℕ) (seals : List (Timestamp × ℕ)) (t : Turned Note) → SealTurn collection by line (k + 1) seals t → SealTurn collection by line k (first ∷ seals) t
seal_later collection by line k first seals t s = record { place = suc s.place; seal = s.seal; slot = let e : t.slot ≡ (k + 1) + s.place = s.slot in omega arith; there = s.there; noted = s.noted }

pub seal_turn : (collection : Collection) (by line k : ℕ) (turns : List (Turned Note)) (seals : List (Timestamp × ℕ)) (t : Turned Note) → AreSeals collection by line k turns seals → IsIn t turns → SealTurn collection by line k seals t
seal_turn collection by line k [] seals t a h = absurd h
seal_turn collection by line k (u ∷ turns) [] t a h = absurd a
seal_turn collection by line k (u ∷ turns) (seal ∷ seals) t a (inl p) =
    subst (SealTurn collection by line k (seal ∷ seals)) (sym p) record { place = 0; seal = seal; slot = let e : u.slot ≡ k = a.0 in let e' : u.slot ≡ k + 0 = omega arith in e'; there = refl; noted = a.1.noted }
seal_turn collection by line k (u ∷ turns) (seal ∷ seals) t a (inr h) = seal_later collection by line k seal seals t (seal_turn collection by line (k + 1) turns seals t a.2 h)

-- ---- calls

pub origin : (collection : Collection) (by line mine k : ℕ) (ask : Ask) (answer : Answer) (steps : List (Step Note)) (note : Note) → IsCall collection by line mine ask answer steps → IsIn note (all_notes k steps)
    → Origin collection by line k ask answer note
origin collection by line mine k ask answer steps note c h = from_turn ask answer c (of_turn k steps note h)
  where
    from_turn : (ask : Ask) (answer : Answer) → IsCall collection by line mine ask answer steps → OfTurn k steps note → Origin collection by line k ask answer note
    from_turn (asks.Write write) (answers.Wrote said) c o =
        let same : o.turn ≡ c.turn = ⊎_elim (λ (p : Took o.turn ≡ Took c.turn). (let q : o.turn ≡ c.turn = cc in q)) (λ (z : ⊥). absurd z) (subst (IsIn (Took o.turn)) c.only o.taken) in
        Written record {
          write = write;
          said = said;
          asked = refl;
          told = refl;
          home = sym c.home ∙ sym (ap (λ (t : Turned Note). t.slot) same) ∙ o.slot;
          is = only_in note (note_of by line (kind_of said.ts write)) c.turn.notes c.writes.noted (subst (λ (t : Turned Note). IsIn note t.notes) same o.noted);
        }
    from_turn asks.Tick (answers.Ticked stamps) c o = Quiet (ticks_quiet by line 0 c.turns stamps o.turn note c.ticks (took_in o.turn c.turns (subst (IsIn (Took o.turn)) c.only o.taken)) o.noted)
    from_turn asks.Seal (answers.Sealed seals) c o =
        let s : SealTurn collection by line 0 seals o.turn = seal_turn collection by line 0 c.turns seals o.turn c.sealed (took_in o.turn c.turns (subst (IsIn (Took o.turn)) c.only o.taken)) in
        Sealed record {
          seals = seals;
          seal = s.seal;
          asked = refl;
          told = refl;
          there = subst (λ (i : ℕ). IsAt seals i s.seal) (let e : o.turn.slot ≡ 0 + s.place = s.slot in let e' : o.turn.slot ≡ k = o.slot in let e'' : s.place ≡ k = omega arith in e'') s.there;
          is = only_in note (note_of by line (Seal (stamp s.seal.0.0))) o.turn.notes s.noted o.noted;
        }
    from_turn (asks.Search query level wait) (answers.Hits now guarantee ts hits) c o = Quiet (looks_quiet by line guarantee.0 wait 0 c.turns o.turn note c.looks (took_behind o.turn now.0 c.turns steps c.only o.taken) o.noted)
    from_turn (asks.Search query level wait) (answers.Pending now guarantee channel tick) c o =
        ⊎_elim (λ (l : IsIn o.turn c.front). Quiet (looks_quiet by line guarantee.0 wait 0 c.front o.turn note c.looks l o.noted))
        (λ (r : IsIn o.turn (c.last ∷ [])). Quiet (⊎_elim (λ (p : o.turn ≡ c.last). look_quiet by line guarantee.0 wait c.last note c.pends.look.1 (subst (λ (t : Turned Note). IsIn note t.notes) p o.noted)) (λ (z : ⊥). absurd z) r))
        (in_cases o.turn c.front (c.last ∷ []) (took_behind o.turn now.0 (c.front ++ c.last ∷ []) steps c.only o.taken))
    from_turn (asks.Get key level wait) (answers.Found now guarantee ts row) c o =
        Quiet (⊎_elim (λ (p : o.turn ≡ c.turn). look_quiet by line guarantee.0 wait c.turn note c.look.1 (subst (λ (t : Turned Note). IsIn note t.notes) p o.noted)) (λ (z : ⊥). absurd z) (took_behind o.turn now.0 (c.turn ∷ []) steps c.only o.taken))
    from_turn (asks.Get key level wait) (answers.Pending now guarantee channel tick) c o =
        Quiet (⊎_elim (λ (p : o.turn ≡ c.turn). look_quiet by line guarantee.0 wait c.turn note c.pends.look.1 (subst (λ (t : Turned Note). IsIn note t.notes) p o.noted)) (λ (z : ⊥). absurd z) (took_behind o.turn now.0 (c.turn ∷ []) steps c.only o.taken))
    from_turn ask answer c o = absurd c
