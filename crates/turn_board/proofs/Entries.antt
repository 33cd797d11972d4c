-- An entry whose number was drawn under the turn is a note that the seat may add.
use Rattle.std.proofs.Common.{◌≡◌, ℕ, zero, suc, ◌+◌, ◌-◌, ◌<◌, List, [], ◌∷◌, ◌++◌, length, drop, Some, ap, sym, ◌∙◌, subst, arith}
use mathlib.Core.Option.{some-injective, some-ne-none}
use lib.Seq.{drop-append_seam}
use Rattle.turn_facts.specs.Counts.{count, Among}
use Rattle.turn_facts.specs.Notes.{IsOwn, Adds, times}
use Rattle.turn_facts.specs.Prefixes.{IsAt}
use Rattle.turn_facts.proofs.Counts.{count-here, count-nil}
use Rattle.turn_facts.proofs.Notes.{adds_none, adds_more, times-nil}
use Rattle.turn_table.specs.Knowledge.{at_slot}
use Rattle.turn_table.specs.Seats.{SeatView, fresh}
use Rattle.turn_board.specs.Boards.{Written}
use Rattle.turn_board.specs.declared.boards.Entry.{Entry}

pub adds_entry : (old new : SeatView Entry ℕ) (k : ℕ) (e : Entry) (before after : List Entry) → new ≡ record old { drawn = old.drawn ++ e.at ∷ []; allowance = old.allowance - 1 } → old.mark ≡ length old.drawn → e.by ≡ new.number → before ≡ at_slot old.seen k → after ≡ before ++ e ∷ []
    → Adds (λ (x : Entry). x.by) (λ (x : Entry). Some x.at) new.number (fresh new) (at_slot new.seen k) after
adds_entry old new k e before after is mark by start more =
    let by_of : Entry → ℕ = λ x. x.by in
    let drawn : List ℕ = old.drawn ++ e.at ∷ [] in
    let rest : drop old.mark drawn ≡ e.at ∷ [] = ap (λ (n : ℕ). drop n drawn) mark ∙ drop-append_seam old.drawn (e.at ∷ []) in
    let here : Among e.at (drop old.mark drawn) = subst (λ (l : List ℕ). Among e.at l) (sym rest) (let c : count e.at (e.at ∷ []) ≡ 1 + count e.at [] = count-here e.at [] in omega arith) in
    let own : IsOwn (λ (x : Entry). x.by) (λ (x : Entry). Some x.at) old.number (drop old.mark drawn) e = record { by = by ∙ ap (λ (x : SeatView Entry ℕ). x.number) is; at = λ t p. let q : e.at ≡ t = cc in subst (λ (n : ℕ). Among n (drop old.mark drawn)) q here } in
    let adds : Adds (λ (x : Entry). x.by) (λ (x : Entry). Some x.at) old.number (drop old.mark drawn) (at_slot old.seen k) (at_slot old.seen k ++ e ∷ []) = adds_more (λ (x : Entry). x.by) (λ (x : Entry). Some x.at) e (adds_none (λ (x : Entry). x.by) (λ (x : Entry). Some x.at) old.number (drop old.mark drawn) (at_slot old.seen k)) own in
    let adds' : Adds (λ (x : Entry). x.by) (λ (x : Entry). Some x.at) old.number (drop old.mark drawn) (at_slot old.seen k) after = subst (λ (l : List Entry). Adds (λ (x : Entry). x.by) (λ (x : Entry). Some x.at) old.number (drop old.mark drawn) (at_slot old.seen k) l) (sym (more ∙ ap (λ (l : List Entry). l ++ e ∷ []) start)) adds in
    subst (λ (s : SeatView Entry ℕ). Adds (λ (x : Entry). x.by) (λ (x : Entry). Some x.at) s.number (fresh s) (at_slot s.seen k) after) (sym is) adds'

-- no entry of a board without entries has a number
none_there : (b : Written) (t : ℕ) → b.entries ≡ [] → Among t (times (λ (x : Entry). Some x.at) b.entries) → ⊥
none_there b t e a =
    let p : count t (times (λ (x : Entry). Some x.at) b.entries) ≡ count t [] = ap (λ (l : List Entry). count t (times (λ (x : Entry). Some x.at) l)) e ∙ ap (count t) (times-nil (λ (x : Entry). x.by) (λ (x : Entry). Some x.at)) in
    let z : count t [] ≡ 0 = count-nil t in
    omega arith

each_of_one : (a : Written) (k : ℕ) (x : Written) → IsAt (a ∷ []) k x → a.entries ≡ [] → x.entries ≡ []
each_of_one a zero x at p = ap (λ (b : Written). b.entries) (sym (some-injective a x at)) ∙ p
each_of_one a (suc k) x at p = absurd (some-ne-none x (sym at))

each_of_two : (a b : Written) (k : ℕ) (x : Written) → IsAt (a ∷ b ∷ []) k x → a.entries ≡ [] → b.entries ≡ [] → x.entries ≡ []
each_of_two a b zero x at p q = ap (λ (c : Written). c.entries) (sym (some-injective a x at)) ∙ p
each_of_two a b (suc k) x at p q = each_of_one b k x at q

pub one_empty : (a : Written) (xs : List Written) → xs ≡ a ∷ [] → a.entries ≡ [] → (k : ℕ) (x : Written) (t : ℕ) → IsAt xs k x → Among t (times (λ (y : Entry). Some y.at) x.entries) → t < 1
one_empty a xs e p k x t at among = absurd (none_there x t (each_of_one a k x (subst (λ (l : List Written). IsAt l k x) e at) p) among)

pub two_empty : (a b : Written) (xs : List Written) → xs ≡ a ∷ b ∷ [] → a.entries ≡ [] → b.entries ≡ [] → (k : ℕ) (x : Written) (t : ℕ) → IsAt xs k x → Among t (times (λ (y : Entry). Some y.at) x.entries) → t < 1
two_empty a b xs e p q k x t at among = absurd (none_there x t (each_of_two a b k x (subst (λ (l : List Written). IsAt l k x) e at) p q) among)
