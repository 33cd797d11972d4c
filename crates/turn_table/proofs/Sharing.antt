-- What seats have seen, where a seat is split off or joined.
use Rattle.std.proofs.Common.{◌≡◌, ℕ, zero, suc, ◌<◌, ◌≤◌, ◌≢◌, true, List, [], ◌∷◌, ◌++◌, length, set, refl, ap, sym, ◌∙◌, subst, ⊎_elim, arith, true≢false}
use Rattle.turn_lock.specs.Client.{Homes}
use Rattle.turn_facts.specs.Counts.{count}
use Rattle.turn_facts.specs.Prefixes.{StartsWith, IsAt, longer}
use Rattle.turn_facts.proofs.Counts.{count-nil}
use Rattle.turn_facts.proofs.Places.{same_or, at_below, at_here, at_else, at_one, at_longer, each_set, each_more, some_set}
use Rattle.turn_facts.proofs.Prefixes.{starts_nil, longer_is, longer_begins, longer_whole_left, longer_whole_right}
use Rattle.turn_facts.proofs.Totals.{total_cut, total_pair}
use Rattle.turn_table.specs.declared.knows.Know.{Know}
use Rattle.turn_table.specs.Knowledge.{at_slot, longer_each, stayed, given, joined, spent}
use Rattle.turn_table.specs.Rule.{Truth, SeesAll, IsNewest, Shown}

module _ {N : Type 0} where
  pub at-longer_each : (ls ms : List (List N)) (k : ℕ) → length ls ≡ length ms → at_slot (longer_each ls ms) k ≡ longer (at_slot ls k) (at_slot ms k)
  unfolding longer_each
  at-longer_each [] [] k e = sym (⊎_elim (λ (h : (longer {A = N} [] [] ≡ []) × (length {A = N} [] ≤ length {A = N} [])). h.0) (λ (h : (longer {A = N} [] [] ≡ []) × (length {A = N} [] < length {A = N} [])). h.0) (longer_is {A = N} [] []))
  at-longer_each [] (m ∷ ms) k e = absurd (omega arith)
  at-longer_each (l ∷ ls) [] k e = absurd (omega arith)
  at-longer_each (l ∷ ls) (m ∷ ms) zero e = refl
  at-longer_each (l ∷ ls) (m ∷ ms) (suc k) e = at-longer_each ls ms k (omega arith)

  pub length-longer_each : (ls ms : List (List N)) → length ls ≡ length ms → length (longer_each ls ms) ≡ length ls
  unfolding longer_each
  length-longer_each [] ms e = refl
  length-longer_each (l ∷ ls) [] e = refl
  length-longer_each (l ∷ ls) (m ∷ ms) e = ap suc (length-longer_each ls ms (omega arith))

module _ {S N B : Type 0} (journal : S → List N) (base : S → B) where
  pub shown_splits : {t : Truth N B} {hs : Homes S} {vs : List (Know N B)} (id : ℕ) (v : Know N B) → Shown journal base t hs vs → IsAt vs id v → Shown journal base t hs (set vs id (stayed v) ++ given v ∷ [])
  shown_splits {t} {hs} {vs} id v s e =
      let sv : SeesAll t (length hs) v = s.views id v e in
      record {
        home = s.home;
        based = s.based;
        begun = s.begun;
        views = each_more (SeesAll t (length hs)) (set vs id (stayed v)) (given v) (each_set (SeesAll t (length hs)) vs id (stayed v) s.views sv)
            record { long = sv.long; told = sv.told; front = sv.front; inside = λ k a. let z : count k [] ≡ 0 = count-nil k in absurd (omega arith) };
        newest = λ k h. let n = s.newest k h in let m = some_set (IsNewest t k) vs id v (stayed v) e (λ q. q) n.0 n.1 n.2 n.3 in (m.0, m.1, at_longer (set vs id (stayed v)) (given v ∷ []) m.0 m.1 m.2, m.3);
        insides = λ k. let f : Know N B → ℕ = λ u. count k u.inside in let z : count k [] ≡ 0 = count-nil k in total_cut f vs id v (stayed v) (given v) e (omega arith) ∙ s.insides k;
      }

  pub shown_joins : {t : Truth N B} {hs : Homes S} {vs : List (Know N B)} (id other : ℕ) (v w : Know N B) → Shown journal base t hs vs → IsAt vs id v → other ≢ id → IsAt (set vs id (joined v w)) other w → v.live ≡ true → w.live ≡ true → w.inside ≡ []
      → Shown journal base t hs (set (set vs id (joined v w)) other spent)
  shown_joins {t} {hs} {vs} id other v w s e ne e' lv lw iw =
      let both : Know N B = joined v w in
      let vs' : List (Know N B) = set vs id both in
      let e_w : IsAt vs other w = sym (at_else vs id other both ne) ∙ e' in
      let sv : SeesAll t (length hs) v = s.views id v e in
      let sw : SeesAll t (length hs) w = s.views other w e_w in
      let len : length v.seen ≡ length w.seen = sv.long lv ∙ sym (sw.long lw) in
      let slot : (k : ℕ) → at_slot both.seen k ≡ longer (at_slot v.seen k) (at_slot w.seen k) = λ k. at-longer_each v.seen w.seen k len in
      let whole_left : (k : ℕ) → at_slot v.seen k ≡ t.journals k → at_slot both.seen k ≡ t.journals k = λ k p. slot k ∙ longer_whole_left (at_slot v.seen k) (at_slot w.seen k) (sv.front k) (sw.front k) p in
      let whole_right : (k : ℕ) → at_slot w.seen k ≡ t.journals k → at_slot both.seen k ≡ t.journals k = λ k p. slot k ∙ longer_whole_right (at_slot v.seen k) (at_slot w.seen k) (sv.front k) (sw.front k) p in
      let sb : SeesAll t (length hs) both = record {
        long = λ l. length-longer_each v.seen w.seen len ∙ sv.long l;
        told = sv.told;
        front = λ k. let P : List N → Type 0 = λ m. StartsWith (t.journals k) m in subst P (sym (slot k)) (longer_begins (at_slot v.seen k) (at_slot w.seen k) (sv.front k) (sw.front k));
        inside = λ k a. let i = sv.inside k a in (i.0, whole_left k i.1);
      } in
      let none : SeesAll t (length hs) (spent {N = N} {B = B}) = record {
        long = λ l. absurd (true≢false (sym l));
        told = λ l. absurd (true≢false (sym l));
        front = λ k. starts_nil (t.journals k);
        inside = λ k a. let z : count k [] ≡ 0 = count-nil k in absurd (omega arith);
      } in
      let at_both : IsAt (set vs' other spent) id both = at_else vs' other id spent (λ p. ne (sym p)) ∙ at_here vs id both (at_below vs id v e) in
      record {
        home = s.home;
        based = s.based;
        begun = s.begun;
        views = each_set (SeesAll t (length hs)) vs' other spent (each_set (SeesAll t (length hs)) vs id both s.views sb) none;
        newest = λ k h. let n = s.newest k h in
            ⊎_elim (λ (p : n.0 ≡ id). let P : ℕ → Type 0 = λ j. IsAt vs j n.1 in let u_is : n.1 ≡ v = at_one vs id n.1 v (subst P p n.2) e in (id, both, at_both, (lv, whole_left k (ap (λ (u : Know N B). at_slot u.seen k) (sym u_is) ∙ n.3.1))))
            (λ (p : n.0 ≢ id). ⊎_elim (λ (q : n.0 ≡ other). let P : ℕ → Type 0 = λ j. IsAt vs j n.1 in let u_is : n.1 ≡ w = at_one vs other n.1 w (subst P q n.2) e_w in (id, both, at_both, (lv, whole_right k (ap (λ (u : Know N B). at_slot u.seen k) (sym u_is) ∙ n.3.1))))
            (λ (q : n.0 ≢ other). (n.0, n.1, at_else vs' other n.0 spent q ∙ at_else vs id n.0 both p ∙ n.2, n.3)) (same_or n.0 other)) (same_or n.0 id);
        insides = λ k. let f : Know N B → ℕ = λ u. count k u.inside in let z : count k [] ≡ 0 = count-nil k in let y : count k w.inside ≡ count k [] = ap (count k) iw in total_pair f vs id other v w both spent e e' (omega arith) ∙ s.insides k;
      }
