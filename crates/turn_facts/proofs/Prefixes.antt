-- Lists that begin with one another: an order, and the longer of two beginnings of one list.
use Rattle.std.proofs.Common.{◌≡◌, ◌+◌, ◌<◌, ◌≤◌, ◌⊎◌, cond, Bool, true, false, leb, List, [], ◌∷◌, ◌++◌, length, refl, ap, sym, ◌∙◌, inl, inr, ⊎_elim, arith, append_assoc, append-nil, length-append, leb-true, leb-false, subst}
use Rattle.std.proofs.lemmas.Bool.{cases_Bool}
use Rattle.turn_facts.specs.Prefixes.{StartsWith, longer}

module _ {A : Type 0} where
  pub starts_all : (l : List A) → StartsWith l l
  starts_all l = record { rest = []; is = sym (append-nil l) }

  pub starts_nil : (l : List A) → StartsWith l []
  starts_nil l = record { rest = l; is = refl }

  pub starts_longer : (l m : List A) → StartsWith (l ++ m) l
  starts_longer l m = record { rest = m; is = refl }

  pub starts_trans : {a b c : List A} → StartsWith a b → StartsWith b c → StartsWith a c
  starts_trans {a} {b} {c} s t = record { rest = t.rest ++ s.rest; is = let e : a ≡ b ++ s.rest = s.is in let f : b ≡ c ++ t.rest = t.is in let g : (c ++ t.rest) ++ s.rest ≡ c ++ (t.rest ++ s.rest) = append_assoc c t.rest s.rest in e ∙ ap (λ (l : List A). l ++ s.rest) f ∙ g }

  pub starts_length : {a b : List A} → StartsWith a b → length b ≤ length a
  starts_length {a} {b} s = let e : length a ≡ length b + length s.rest = ap length s.is ∙ length-append b s.rest in omega arith

  no_rest : (b r : List A) → length r ≤ 0 → b ++ r ≡ b
  no_rest b [] h = append-nil b
  no_rest b (x ∷ r) h = absurd (omega arith)

  pub starts_same : {a b : List A} → StartsWith a b → length a ≤ length b → a ≡ b
  starts_same {a} {b} s h = let e : length a ≡ length b + length s.rest = ap length s.is ∙ length-append b s.rest in s.is ∙ no_rest b s.rest (omega arith)

  both_begin : (l m r s : List A) → l ++ r ≡ m ++ s → length m ≤ length l → StartsWith l m
  both_begin l [] r s e h = starts_nil l
  both_begin [] (y ∷ m) r s e h = absurd (omega arith)
  both_begin (x ∷ l) (y ∷ m) r s e h =
      let e' : l ++ r ≡ m ++ s = cc in let t : StartsWith l m = both_begin l m r s e' (omega arith) in let f : l ≡ m ++ t.rest = t.is in let g : x ≡ y = cc in record { rest = t.rest; is = cc }

  -- of two beginnings of one list the longer begins with the other
  pub begins_with_shorter : {a l m : List A} → StartsWith a l → StartsWith a m → length m ≤ length l → StartsWith l m
  begins_with_shorter {a} {l} {m} s t h = both_begin l m s.rest t.rest (sym s.is ∙ t.is) h

  pub longer_is : (l m : List A) → ((longer l m ≡ l) × (length m ≤ length l)) ⊎ ((longer l m ≡ m) × (length l < length m))
  unfolding longer
  longer_is l m =
      ⊎_elim (λ (e : leb (length m) (length l) ≡ true). inl (ap (λ (b : Bool). cond b l m) e, leb-true (length m) (length l) e))
      (λ (e : leb (length m) (length l) ≡ false). inr (ap (λ (b : Bool). cond b l m) e, leb-false (length m) (length l) e))
      (cases_Bool (leb (length m) (length l)))

  pub longer_begins : {a : List A} (l m : List A) → StartsWith a l → StartsWith a m → StartsWith a (longer l m)
  longer_begins {a} l m s t = ⊎_elim (λ h. let P : List A → Type 0 = λ x. StartsWith a x in subst P (sym h.0) s) (λ h. let P : List A → Type 0 = λ x. StartsWith a x in subst P (sym h.0) t) (longer_is l m)

  pub longer_left : {a : List A} (l m : List A) → StartsWith a l → StartsWith a m → StartsWith (longer l m) l
  longer_left {a} l m s t = ⊎_elim (λ h. let P : List A → Type 0 = λ x. StartsWith x l in subst P (sym h.0) (starts_all l)) (λ h. let P : List A → Type 0 = λ x. StartsWith x l in let less : length l < length m = h.1 in subst P (sym h.0) (begins_with_shorter t s (omega arith))) (longer_is l m)

  pub longer_right : {a : List A} (l m : List A) → StartsWith a l → StartsWith a m → StartsWith (longer l m) m
  longer_right {a} l m s t = ⊎_elim (λ h. let P : List A → Type 0 = λ x. StartsWith x m in subst P (sym h.0) (begins_with_shorter s t h.1)) (λ h. let P : List A → Type 0 = λ x. StartsWith x m in subst P (sym h.0) (starts_all m)) (longer_is l m)

  -- where one of two beginnings is the whole list, the longer is
  pub longer_whole_left : {a : List A} (l m : List A) → StartsWith a l → StartsWith a m → l ≡ a → longer l m ≡ a
  longer_whole_left {a} l m s t e = let b = longer_begins l m s t in let c = longer_left l m s t in let e' : length a ≡ length l = ap length (sym e) in let d : length l ≤ length (longer l m) = starts_length c in sym (starts_same b (omega arith))

  pub longer_whole_right : {a : List A} (l m : List A) → StartsWith a l → StartsWith a m → m ≡ a → longer l m ≡ a
  longer_whole_right {a} l m s t e = let b = longer_begins l m s t in let c = longer_right l m s t in let e' : length a ≡ length m = ap length (sym e) in let d : length m ≤ length (longer l m) = starts_length c in sym (starts_same b (omega arith))
