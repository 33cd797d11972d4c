-- The notes of a seat, and the timestamps of notes, as a journal grows.
use Rattle.std.proofs.Common.{◌≡◌, ℕ, ◌+◌, ◌<◌, ◌≤◌, ◌≢◌, ◌⊎◌, cond, Bool, eq-eqb, ne_eqb, List, [], ◌∷◌, ◌++◌, length, All, Option, Some, None, refl, ap, sym, ◌∙◌, subst, arith, append-nil, append_assoc, length-append, inl, inr, ⊎_elim}
use Rattle.std.proofs.lemmas.Bool.{cases_lt}
use Rattle.std.proofs.lemmas.List.Elements.{All-tail, All-cons, All-append}
use Rattle.turn_facts.specs.Counts.{count, Among}
use Rattle.turn_facts.specs.Notes.{of, times, with_time, IsOwn, Adds}
use Rattle.turn_facts.specs.Prefixes.{StartsWith}
use Rattle.turn_facts.proofs.Counts.{count-append, count-else, count-nil}
use Rattle.turn_facts.proofs.Places.{same_or}
use Rattle.turn_facts.proofs.Prefixes.{starts_same}

module _ {N : Type 0} (number : N → ℕ) where
  of_here : (x : N) (n : ℕ) (l : List N) → number x ≡ n → of number n (x ∷ l) ≡ x ∷ of number n l
  unfolding of
  of_here x n l e = ap (λ (b : Bool). cond b (x ∷ of number n l) (of number n l)) (eq-eqb (number x) n e)

  of_else : (x : N) (n : ℕ) (l : List N) → number x ≢ n → of number n (x ∷ l) ≡ of number n l
  unfolding of
  of_else x n l e = ap (λ (b : Bool). cond b (x ∷ of number n l) (of number n l)) (ne_eqb (number x) n e)

  pub of-nil : (n : ℕ) → of number n [] ≡ []
  unfolding of
  of-nil n = refl

  pub of-append : (n : ℕ) (l m : List N) → of number n (l ++ m) ≡ of number n l ++ of number n m
  of-append n [] m = ap (λ (x : List N). x ++ of number n m) (sym (of-nil n))
  of-append n (x ∷ l) m = let h = of-append n l m in
      ⊎_elim (λ (e : number x ≡ n). of_here x n (l ++ m) e ∙ ap (λ (t : List N). x ∷ t) h ∙ ap (λ (t : List N). t ++ of number n m) (sym (of_here x n l e)))
      (λ (e : number x ≢ n). of_else x n (l ++ m) e ∙ h ∙ ap (λ (t : List N). t ++ of number n m) (sym (of_else x n l e)))
      (same_or (number x) n)

  -- where the notes of a seat in a journal are those in a beginning of it, they are also those in any list between the two
  pub of-between : {a b c : List N} (n : ℕ) → StartsWith a b → StartsWith b c → of number n a ≡ of number n c → of number n a ≡ of number n b
  of-between {a} {b} {c} n s t e =
      let p : of number n a ≡ of number n b ++ of number n s.rest = ap (of number n) s.is ∙ of-append n b s.rest in
      let q : of number n b ≡ of number n c ++ of number n t.rest = ap (of number n) t.is ∙ of-append n c t.rest in
      let lp : length (of number n a) ≡ length (of number n b) + length (of number n s.rest) = ap length p ∙ length-append (of number n b) (of number n s.rest) in
      let lq : length (of number n b) ≡ length (of number n c) + length (of number n t.rest) = ap length q ∙ length-append (of number n c) (of number n t.rest) in
      let le : length (of number n a) ≡ length (of number n c) = ap length e in
      let w : StartsWith (of number n a) (of number n b) = record { rest = of number n s.rest; is = p } in
      starts_same w (omega arith)

  module _ (time : N → Option ℕ) where
    with_more : (o : Option ℕ) (l m : List ℕ) → with_time o (l ++ m) ≡ with_time o l ++ m
    with_more None l m = refl
    with_more (Some t) l m = refl

    pub times-nil : times time [] ≡ []
    unfolding times
    times-nil = refl

    pub times-append : (l m : List N) → times time (l ++ m) ≡ times time l ++ times time m
    unfolding times
    times-append [] m = refl
    times-append (x ∷ l) m = ap (with_time (time x)) (times-append l m) ∙ with_more (time x) (times time l) (times time m)

    -- what one seat adds is nothing of another
    pub of-others : (n m : ℕ) (drawn : List ℕ) (l : List N) → All (IsOwn number time n drawn) l → n ≢ m → of number m l ≡ []
    of-others n m drawn [] h ne = of-nil m
    of-others n m drawn (x ∷ l) h ne = let own : IsOwn number time n drawn x = h 0 x (omega arith) in let e : number x ≡ n = own.by in of_else x m l (λ p. ne (sym e ∙ p)) ∙ of-others n m drawn l (All-tail (IsOwn number time n drawn) x l h) ne

    with_among : (o : Option ℕ) (l drawn : List ℕ) (t : ℕ) → ((u : ℕ) → o ≡ Some u → Among u drawn) → Among t (with_time o l) → (Among t l) ⊎ (Among t drawn)
    with_among None l drawn t h a = inl a
    with_among (Some u) l drawn t h a = ⊎_elim (λ (e : u ≡ t). let P : ℕ → Type 0 = λ x. Among x drawn in inr (subst P e (h u refl))) (λ (e : u ≢ t). let c : count t (u ∷ l) ≡ count t l = count-else t u l e in inl (omega arith)) (same_or u t)

    -- the timestamps of the notes that a seat adds are those that it drew
    pub times-own : (n : ℕ) (drawn : List ℕ) (l : List N) → All (IsOwn number time n drawn) l → (t : ℕ) → Among t (times time l) → Among t drawn
    unfolding times
    times-own n drawn [] h t a = let z : count t [] ≡ 0 = count-nil t in absurd (omega arith)
    times-own n drawn (x ∷ l) h t a = let own : IsOwn number time n drawn x = h 0 x (omega arith) in
        ⊎_elim (λ b. times-own n drawn l (All-tail (IsOwn number time n drawn) x l h) t b) (λ b. b) (with_among (time x) (times time l) drawn t own.at a)

    -- a journal to which nothing was added
    pub adds_none : (n : ℕ) (drawn : List ℕ) (l : List N) → Adds number time n drawn l l
    adds_none n drawn l = record { notes = []; is = sym (append-nil l); own = λ k d h. absurd (omega arith) }

    -- one note more
    pub adds_more : {n : ℕ} {drawn : List ℕ} {l m : List N} (x : N) → Adds number time n drawn l m → IsOwn number time n drawn x → Adds number time n drawn l (m ++ x ∷ [])
    adds_more {n} {drawn} {l} {m} x a own = record {
      notes = a.notes ++ x ∷ [];
      is = ap (λ (t : List N). t ++ x ∷ []) a.is ∙ append_assoc l a.notes (x ∷ []);
      own = All-append (IsOwn number time n drawn) a.notes (x ∷ []) a.own (All-cons (IsOwn number time n drawn) x [] own (λ k d h. absurd (omega arith)));
    }

    -- what was drawn before stays drawn
    pub adds_drawn : {n : ℕ} {drawn later : List ℕ} {l m : List N} → ((t : ℕ) → Among t drawn → Among t later) → Adds number time n drawn l m → Adds number time n later l m
    adds_drawn {n} {drawn} {later} {l} {m} h a = record { notes = a.notes; is = a.is; own = λ k d b. let o : IsOwn number time n drawn _ = a.own k d b in record { by = o.by; at = λ t e. h t (o.at t e) } }

    pub adds_starts : {n : ℕ} {drawn : List ℕ} {l m : List N} → Adds number time n drawn l m → StartsWith m l
    adds_starts a = record { rest = a.notes; is = a.is }

    -- the timestamps of a beginning of a journal are among those of the journal
    pub times_starts : {l m : List N} (t : ℕ) → StartsWith l m → Among t (times time m) → Among t (times time l)
    times_starts {l} {m} t s a =
        let e : times time l ≡ times time m ++ times time s.rest = ap (times time) s.is ∙ times-append m s.rest in
        let c : count t (times time l) ≡ count t (times time m ++ times time s.rest) = ap (count t) e in
        let d : count t (times time m ++ times time s.rest) ≡ count t (times time m) + count t (times time s.rest) = count-append t (times time m) (times time s.rest) in
        omega arith

    -- what a seat adds to a journal is nothing of another seat
    pub adds_others : {n : ℕ} {drawn : List ℕ} {l m : List N} (k : ℕ) → Adds number time n drawn l m → n ≢ k → of number k m ≡ of number k l
    adds_others {n} {drawn} {l} {m} k a ne = ap (of number k) a.is ∙ of-append k l a.notes ∙ ap (λ (x : List N). of number k l ++ x) (of-others n k drawn a.notes a.own ne) ∙ append-nil (of number k l)

    -- its timestamps are those of before and numbers that the seat drew
    pub adds_times : {n : ℕ} {drawn : List ℕ} {l m : List N} (t : ℕ) → Adds number time n drawn l m → Among t (times time m) → (Among t (times time l)) ⊎ (Among t drawn)
    adds_times {n} {drawn} {l} {m} t a b =
        let e : times time m ≡ times time l ++ times time a.notes = ap (times time) a.is ∙ times-append l a.notes in
        let c : count t (times time m) ≡ count t (times time l ++ times time a.notes) = ap (count t) e in
        let d : count t (times time l ++ times time a.notes) ≡ count t (times time l) + count t (times time a.notes) = count-append t (times time l) (times time a.notes) in
        ⊎_elim (λ (h : 0 < count t (times time l)). inl (omega arith)) (λ (h : count t (times time l) ≤ 0). inr (times-own n drawn a.notes a.own t (omega arith))) (cases_lt 0 (count t (times time l)))
