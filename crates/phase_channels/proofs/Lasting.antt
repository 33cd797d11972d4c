-- The last writes of callers behind a phase.
use Rattle.std.proofs.Common.{◌≡◌, ◌≢◌, ◌⊎◌, ⊎_elim, inl, inr, ℕ, zero, suc, ◌+◌, ◌<◌, ◌≤◌, Some, List, [], ◌∷◌, length, map, refl, ap, sym, ◌∙◌, subst, arith}
use Rattle.std.proofs.lemmas.Bool.{cases_lt}
use Rattle.std.proofs.lemmas.List.{length-map, length-set}
use mathlib.Core.Option.{some, some-injective, some-ne-none}
use lib.ListN.{get_elem?}
use Rattle.hybrid_time.specs.declared.times.Timestamp.{Timestamp}
use Rattle.legal_output.specs.Lines.{Line}
use Rattle.legal_output.specs.Printed.{lines_of, write_behind}
use Rattle.turn_facts.specs.Counts.{count, Among, NoneTwice}
use Rattle.turn_facts.specs.Prefixes.{IsAt}
use Rattle.turn_facts.proofs.Counts.{count-here, count-else}
use Rattle.turn_facts.proofs.Places.{same_or, at_here, at_else, at_below, at_some, at_one, at_map_back, same_lists}
use Rattle.phase_model.specs.Rests.{Rest}
use Rattle.phase_run.specs.declared.works.Work.{Work}
use Rattle.phase_run.specs.declared.works.Done.{Done}
use Rattle.phase_run.specs.Callers.{answered}
use Rattle.phase_run.specs.Phases.{AreDone, IsDoneOf}
use Rattle.phase_lines.specs.Waiting.{Read, AreWorks}
use Rattle.phase_lines.specs.Blocks.{IsBlock}
use Rattle.phase_channels.specs.Keeping.{keep, kept}

-- ---- numbers in a list

among_or : (x : ℕ) (l : List ℕ) → Among x l ⊎ (Among x l → ⊥)
among_or x l = ⊎_elim (λ (h : 0 < count x l). inl (omega arith)) (λ (h : count x l ≤ 0). inr (λ (a : 1 ≤ count x l). omega arith)) (cases_lt 0 (count x l))

count_more : (x y : ℕ) (l : List ℕ) → count x l ≤ count x (y ∷ l)
unfolding count
count_more x y l = omega arith

among_here : (x y : ℕ) (l : List ℕ) → x ≡ y → Among x (y ∷ l)
among_here x y l e = subst (λ (n : ℕ). Among x (n ∷ l)) e (let h : count x (x ∷ l) ≡ 1 + count x l = count-here x l in omega arith)

among_at : (l : List ℕ) (x : ℕ) → Among x l → (i : ℕ) × IsAt l i x
unfolding count
among_at [] x a = absurd (omega arith)
among_at (y ∷ l) x a =
    ⊎_elim (λ (e : y ≡ x). (0, ap some e))
    (λ (n : y ≢ x). let same : count x (y ∷ l) ≡ count x l = count-else x y l n in let p = among_at l x (omega arith) in (suc p.0, p.1))
    (same_or y x)

-- ---- the places of callers

abbrev pub callers_of : List Done → List ℕ
callers_of dones = map (λ (done : Done). done.caller) dones

pub kept_long : (mine : List Timestamp) (dones : List Done) → length (kept mine dones) ≡ length mine
kept_long mine [] = refl
kept_long mine (done ∷ dones) = kept_long (keep mine done) dones ∙ length-set mine done.caller done.mine

-- who had no work keeps its last write
kept_else : (mine : List Timestamp) (dones : List Done) (caller : ℕ) → (Among caller (callers_of dones) → ⊥) → get_elem? (kept mine dones) caller ≡ get_elem? mine caller
kept_else mine [] caller none = refl
kept_else mine (done ∷ dones) caller none =
    kept_else (keep mine done) dones caller (λ (a : Among caller (callers_of dones)). none (let h : count caller (callers_of dones) ≤ count caller (callers_of (done ∷ dones)) = count_more caller done.caller (callers_of dones) in omega arith))
    ∙ at_else mine done.caller caller done.mine (λ (e : caller ≡ done.caller). none (among_here caller done.caller (callers_of dones) e))

once_tail : (x : ℕ) (l : List ℕ) → NoneTwice (x ∷ l) → NoneTwice l
once_tail x l once y = let h : count y l ≤ count y (x ∷ l) = count_more y x l in let f : count y (x ∷ l) ≤ 1 = once y in omega arith

once_head : (x : ℕ) (l : List ℕ) → NoneTwice (x ∷ l) → Among x l → ⊥
once_head x l once a = let h : count x (x ∷ l) ≡ 1 + count x l = count-here x l in let f : count x (x ∷ l) ≤ 1 = once x in omega arith

-- where no caller has two works each has the last write that its work left
kept_at : (mine : List Timestamp) (dones : List Done) → NoneTwice (callers_of dones) → ((i : ℕ) (done : Done) → IsAt dones i done → done.caller < length mine)
    → (i : ℕ) (done : Done) → IsAt dones i done → IsAt (kept mine dones) done.caller done.mine
kept_at mine [] once low i done at = absurd (some-ne-none done (sym at))
kept_at mine (first ∷ dones) once low zero done at =
    subst (λ (d : Done). IsAt (kept mine (first ∷ dones)) d.caller d.mine) (some-injective first done at)
    (kept_else (keep mine first) dones first.caller (once_head first.caller (callers_of dones) once) ∙ at_here mine first.caller first.mine (low 0 first refl))
kept_at mine (first ∷ dones) once low (suc i) done at =
    kept_at (keep mine first) dones (once_tail first.caller (callers_of dones) once)
    (λ j d at_d. let l : d.caller < length mine = low (suc j) d at_d in let e : length (keep mine first) ≡ length mine = length-set mine first.caller first.mine in omega arith)
    i done at

-- ---- behind the works of a phase

abbrev pub callers_in : List Work → List ℕ
callers_in works = map (λ (work : Work). work.caller) works

module _ (first : ℕ) (reads : List Read) (mine : List Timestamp) (many : length mine ≡ 16) (works : List Work) (are : AreWorks first reads mine works) (dones : List Done) (done : AreDone works dones) where
  same_callers : callers_of dones ≡ callers_in works
  same_callers = same_lists (callers_of dones) (callers_in works)
      (length-map dones (λ (d : Done). d.caller) ∙ done.many ∙ sym (length-map works (λ (w : Work). w.caller)))
      (λ k a b at_a at_b.
      let d = at_map_back (λ (d : Done). d.caller) dones k a at_a in
      let w = at_map_back (λ (w : Work). w.caller) works k b at_b in
      sym d.2 ∙ (done.each k w.0 d.0 w.1 d.1).caller_is ∙ w.2)

  -- each place that is written is there
  pub callers_low : (i : ℕ) (d : Done) → IsAt dones i d → d.caller < length mine
  callers_low i d at =
      let below : i < length dones = at_below dones i d at in
      let long : length dones ≡ length works = done.many in
      let w = at_some works i (omega arith) in
      let same : d.caller ≡ w.0.caller = (done.each i w.0 d w.1 at).caller_is in
      let low : w.0.caller < 16 = (are.each i w.0 w.1).caller in omega arith

  module _ (old : Rest) (now : (caller : ℕ) (ts : Timestamp) → IsAt mine caller ts → ts.0 ≡ old.mine caller) (block : List Line) (is : IsBlock first reads works dones block) where
    abbrev wrote : ℕ → ℕ
    wrote caller = write_behind (old.mine caller) (lines_of (Some caller) block)

    worked : (caller : ℕ) (ts : Timestamp) → IsAt (kept mine dones) caller ts → Among caller (callers_in works) → ts.0 ≡ wrote caller
    worked caller ts at among =
        let place = among_at (callers_in works) caller among in
        let w = at_map_back (λ (w : Work). w.caller) works place.0 caller place.1 in
        let low : place.0 < length works = at_below works place.0 w.0 w.1 in
        let long : length dones ≡ length works = done.many in
        let d = at_some dones place.0 (omega arith) in
        let did : IsDoneOf w.0 d.0 = done.each place.0 w.0 d.0 w.1 d.1 in
        let here : IsAt (kept mine dones) d.0.caller d.0.mine = kept_at mine dones (subst NoneTwice (sym same_callers) are.apart) callers_low place.0 d.0 d.1 in
        let same : d.0.mine ≡ ts = at_one (kept mine dones) caller d.0.mine ts (subst (λ (n : ℕ). IsAt (kept mine dones) n d.0.mine) (did.caller_is ∙ w.2) here) at in
        let before : w.0.mine.0 ≡ old.mine w.0.caller = now w.0.caller w.0.mine (are.each place.0 w.0 w.1).mine_is in
        sym (ap (λ (t : Timestamp). t.0) same)
        ∙ did.mine_is
        ∙ ap (λ (n : ℕ). write_behind n (answered w.0.requests.items d.0.answers.items)) before
        ∙ ap (λ (l : List Line). write_behind (old.mine w.0.caller) l) (sym (is.lines.each place.0 w.0 d.0 w.1 d.1))
        ∙ ap wrote w.2

    idle : (caller : ℕ) (ts : Timestamp) → IsAt (kept mine dones) caller ts → (Among caller (callers_in works) → ⊥) → ts.0 ≡ wrote caller
    idle caller ts at none =
        let stays : get_elem? (kept mine dones) caller ≡ get_elem? mine caller = kept_else mine dones caller (λ (a : Among caller (callers_of dones)). none (subst (Among caller) same_callers a)) in
        now caller ts (sym stays ∙ at) ∙ sym (ap (λ (l : List Line). write_behind (old.mine caller) l) (is.silent caller none))

    -- behind the phase each caller's last write is that of its lines, or the one that it had
    pub last_writes : (caller : ℕ) (ts : Timestamp) → IsAt (kept mine dones) caller ts → ts.0 ≡ wrote caller
    last_writes caller ts at = ⊎_elim (λ (a : Among caller (callers_in works)). worked caller ts at a) (λ (n : Among caller (callers_in works) → ⊥). idle caller ts at n) (among_or caller (callers_in works))
