-- A filter that the grammar gives is one of its columns: each operand is there, and each operator and literal fits its kind.
use Rattle.std.proofs.Common.{◌≡◌, ℕ, zero, suc, ◌^◌, ◌≤◌, nat_le, nat_lt, Bool, true, false, cond, ◌&&◌, ◌⊎◌, inl, inr, List, [], ◌∷◌, ◌++◌, length, map, drop, slice_get, position, codes, Option, Some, None, Result, Ok, Err, refl, sym, ◌∙◌, ap, ap₂, subst, arith}
use Rattle.std.proofs.lemmas.Bool.Decides.{nat_tests}
use Rattle.std.specs.List.{list_all}
use Rattle.std.specs.Option.{option_map}
use Rattle.std.specs.Str.{bytes_eq}
use Rattle.row_types.specs.declared.rows.Kind.{Kind}
use Rattle.row_types.specs.declared.rows.Kind.TheVariants as kind
use Rattle.row_types.specs.declared.rows.Field.{Field}
use Rattle.row_types.specs.declared.rows.Field.TheVariants as field
use Rattle.row_types.specs.declared.filters.Operand.{Operand}
use Rattle.row_types.specs.declared.filters.Operand.TheVariants.{Key, Column}
use Rattle.row_types.specs.declared.filters.CompareOp.{CompareOp}
use Rattle.row_types.specs.declared.filters.CompareOp.TheVariants.{Equal}
use Rattle.row_types.specs.declared.filters.Filter.{Filter}
use Rattle.row_types.specs.declared.filters.Filter.TheVariants as e
use Rattle.row_types.specs.declared.filters.Filter.TheVariants.{rolls-Any, rolls-All, rolls-Not, rolls-Truth, rolls-Compare, rolls-OneOf}
use Rattle.row_types.specs.declared.filters.Filter.TheOpen.{Filter-F}
use Rattle.row_types.specs.declared.filters.Filter.TheFolds.{fold-roll-Filter}
use Rattle.row_types.specs.Filters.{all_true}
use Rattle.row_types.specs.Schemas.{Columns, is_kind, takes, takes_kind, has_kind, operand_kind, fits, fits_at}
use Rattle.filter_expr.specs.declared.refusals.FilterError.{FilterError}
use Rattle.filter_expr.specs.declared.tokens.Sign.{Sign}
use Rattle.filter_expr.specs.declared.tokens.Sign.TheVariants.{Or, And, Not, Open, Comma, ListClose, ListOpen, In, Close}
use Rattle.filter_expr.specs.declared.tokens.Token.{Token}
use Rattle.filter_expr.specs.declared.tokens.Token.TheVariants as token
use Rattle.filter_expr.specs.Grammar.{Tokens, Outcome, Reader, and_then, is_sign, sees, name_in, operator_ahead, column_at, operand_of, any_of, all_of, most_open, expect, literal_of, literal, choices_from, choices_after, choices, one_of, compared, alone, named_by, named_at, named, more, joined, all, any, negated, bracketed, too_deep, begun_by, one_by, one, whole, filter_of}
use Rattle.filter_expr.specs.Tokens.{tokens_of}

-- ---- what an answer Ok says of its steps

pub ok_same : {A : Type 0} (x y : A) → ◌≡◌ {A = Result A FilterError} (Ok x) (Ok y) → x ≡ y
ok_same x y h = cc

pub then_ok : {A B : Type 0} (o : Result A FilterError) (next : A → Result B FilterError) (y : B) → and_then o next ≡ Ok y → (a : A) × (o ≡ Ok a) × (next a ≡ Ok y)
then_ok (Ok a) next y h = (a, refl, h)
then_ok (Err x) next y h = let bad : ⊥ = cc in absurd bad

pub guard_ok : {A : Type 0} (b : Bool) (o : Result A FilterError) (y : A) (error : FilterError) → cond {A = Result A FilterError} b o (Err error) ≡ Ok y → (b ≡ true) × (o ≡ Ok y)
guard_ok true o y error h = (refl, h)
guard_ok false o y error h = let bad : ⊥ = cc in absurd bad

pub either_ok : {A : Type 0} (b : Bool) (o p : Result A FilterError) (y : A) → cond {A = Result A FilterError} b o p ≡ Ok y → (o ≡ Ok y) ⊎ (p ≡ Ok y)
either_ok true o p y h = inl h
either_ok false o p y h = inr h

at_least_two : (n : ℕ) → nat_le 2 (suc (suc n)) ≡ true
at_least_two n = grind (arith, nat_tests)

-- ---- literals

of_kind : (end : ℕ) (k : Kind) (at : ℕ) (t : Token) (f : Field) → literal_of end k at t ≡ Ok f → is_kind k f ≡ true
of_kind end k at (token.Literal g) f h = let p = guard_ok (is_kind k g) (Ok g) f _ h in subst (λ x. is_kind k x ≡ true) (ok_same g f p.1) p.0
of_kind end k at (token.Name name) f h = let bad : ⊥ = cc in absurd bad
of_kind end k at (token.Compare op) f h = let bad : ⊥ = cc in absurd bad
of_kind end k at (token.Sign s) f h = let bad : ⊥ = cc in absurd bad

literal_kind : (end : ℕ) (k : Kind) (ts : Tokens) (r : Field × Tokens) → literal end k ts ≡ Ok r → is_kind k r.0 ≡ true
unfolding literal
literal_kind end k [] r h = let bad : ⊥ = cc in absurd bad
literal_kind end k (t ∷ ts) r h =
    let p = then_ok (literal_of end k t.at t.token) (λ f. Ok (f, ts)) r h in
    subst (λ (x : Field × Tokens). is_kind k x.0 ≡ true) (ok_same (p.0, ts) r p.2) (of_kind end k t.at t.token p.0 p.1)

abbrev AllKind : Kind → List Field → Type 0
AllKind k [] = Unit {0}
AllKind k (f ∷ fs) = (is_kind k f ≡ true) × AllKind k fs

kind_append : (k : Kind) (fs : List Field) (f : Field) → AllKind k fs → is_kind k f ≡ true → AllKind k (fs ++ f ∷ [])
kind_append k [] f h i = (i, tt)
kind_append k (g ∷ fs) f h i = (h.0, kind_append k fs f h.1 i)

kinds_all : (k : Kind) (fs : List Field) → AllKind k fs → list_all (has_kind (Some k)) fs ≡ true
kinds_all k [] h = refl
kinds_all k (f ∷ fs) h = rw h.0 (kinds_all k fs h.1)

mutual
  from_kinds : (end : ℕ) (k : Kind) (found : List Field) (ts : Tokens) (r : List Field × Tokens) → AllKind k found → choices_from end k found ts ≡ Ok r → AllKind k r.0
  from_kinds end k found [] r h is = let bad : ⊥ = cc in absurd bad
  from_kinds end k found (t ∷ ts) r h is =
      let p = then_ok (literal_of end k t.at t.token) (λ f. choices_after end k (found ++ f ∷ []) ts) r is in
      after_kinds end k (found ++ p.0 ∷ []) ts r (kind_append k found p.0 h (of_kind end k t.at t.token p.0 p.1)) p.2

  after_kinds : (end : ℕ) (k : Kind) (found : List Field) (ts : Tokens) (r : List Field × Tokens) → AllKind k found → choices_after end k found ts ≡ Ok r → AllKind k r.0
  after_kinds end k found [] r h is = let bad : ⊥ = cc in absurd bad
  after_kinds end k found (t ∷ ts) r h is = elim (either_ok (is_sign Comma t.token) (choices_from end k found ts) _ r is) [
    | inl more ↦ from_kinds end k found ts r h more
    | inr last ↦ subst (λ (x : List Field × Tokens). AllKind k x.0) (ok_same (found, ts) r (guard_ok (is_sign ListClose t.token) (Ok (found, ts)) r _ last).1) h
  ]

choices_kinds : (end : ℕ) (k : Kind) (ts : Tokens) (r : List Field × Tokens) → choices end k ts ≡ Ok r → AllKind k r.0
unfolding choices
choices_kinds end k ts r is = elim (either_ok (sees ListClose ts) (Ok ([], drop 1 ts)) (choices_from end k [] ts) r is) [
  | inl none ↦ subst (λ (x : List Field × Tokens). AllKind k x.0) (ok_same ([], drop 1 ts) r none) tt
  | inr some ↦ from_kinds end k [] ts r tt some
]

module _ (columns : Columns) where
  abbrev Fits : Filter → Type 0
  Fits f = fits columns f ≡ true

  abbrev AllFit : List Filter → Type 0
  AllFit [] = Unit {0}
  AllFit (m ∷ ms) = Fits m × AllFit ms

  -- ---- the levels of a filter

  fits_any : (ms : List Filter) → fits columns (e.Any ms) ≡ (nat_le 2 (length (map (fits columns) ms)) && all_true (map (fits columns) ms))
  fits_any ms = ap (fits columns) (sym (rolls-Any ms)) ∙ fold-roll-Filter Bool (fits_at columns) (Filter-F.Any ms)

  fits_all : (ms : List Filter) → fits columns (e.All ms) ≡ (nat_le 2 (length (map (fits columns) ms)) && all_true (map (fits columns) ms))
  fits_all ms = ap (fits columns) (sym (rolls-All ms)) ∙ fold-roll-Filter Bool (fits_at columns) (Filter-F.All ms)

  fits_not : (f : Filter) → fits columns (e.Not f) ≡ fits columns f
  fits_not f = ap (fits columns) (sym (rolls-Not f)) ∙ fold-roll-Filter Bool (fits_at columns) (Filter-F.Not f)

  fits_truth : (o : Operand) → fits columns (e.Truth o) ≡ has_kind (operand_kind columns o) (field.Bool true)
  fits_truth o = ap (fits columns) (sym (rolls-Truth o)) ∙ fold-roll-Filter Bool (fits_at columns) (Filter-F.Truth o)

  fits_compare : (o : Operand) (op : CompareOp) (f : Field) → fits columns (e.Compare o op f) ≡ (takes_kind op (operand_kind columns o) && has_kind (operand_kind columns o) f)
  fits_compare o op f = ap (fits columns) (sym (rolls-Compare o op f)) ∙ fold-roll-Filter Bool (fits_at columns) (Filter-F.Compare o op f)

  fits_one_of : (o : Operand) (fs : List Field) → fits columns (e.OneOf o fs) ≡ (takes_kind Equal (operand_kind columns o) && list_all (has_kind (operand_kind columns o)) fs)
  fits_one_of o fs = ap (fits columns) (sym (rolls-OneOf o fs)) ∙ fold-roll-Filter Bool (fits_at columns) (Filter-F.OneOf o fs)

  -- ---- members

  all_fit_true : (ms : List Filter) → AllFit ms → all_true (map (fits columns) ms) ≡ true
  all_fit_true [] h = refl
  all_fit_true (m ∷ ms) h = ap₂ (λ (a b : Bool). a && b) h.0 (all_fit_true ms h.1)

  fit_append : (ms : List Filter) (m : Filter) → AllFit ms → Fits m → AllFit (ms ++ m ∷ [])
  fit_append [] m h i = (i, tt)
  fit_append (x ∷ ms) m h i = (h.0, fit_append ms m h.1 i)

  some_append : (ms : List Filter) (m : Filter) → 1 ≤ length (ms ++ m ∷ [])
  some_append [] m = omega arith
  some_append (x ∷ ms) m = omega arith

  any_of_fits : (ms : List Filter) → AllFit ms → 1 ≤ length ms → Fits (any_of ms)
  unfolding any_of
  any_of_fits [] h n = absurd (omega arith)
  any_of_fits (only ∷ []) h n = h.0
  any_of_fits (a ∷ b ∷ ms) h n = fits_any (a ∷ b ∷ ms) ∙ ap₂ (λ (x y : Bool). x && y) (at_least_two (length (map (fits columns) ms))) (all_fit_true (a ∷ b ∷ ms) h)

  all_of_fits : (ms : List Filter) → AllFit ms → 1 ≤ length ms → Fits (all_of ms)
  unfolding all_of
  all_of_fits [] h n = absurd (omega arith)
  all_of_fits (only ∷ []) h n = h.0
  all_of_fits (a ∷ b ∷ ms) h n = fits_all (a ∷ b ∷ ms) ∙ ap₂ (λ (x y : Bool). x && y) (at_least_two (length (map (fits columns) ms))) (all_fit_true (a ∷ b ∷ ms) h)

  -- a reader whose filters fit
  abbrev Keeps : Reader Filter → Type 0
  Keeps read = (ts : Tokens) (r : Filter × Tokens) → read ts ≡ Ok r → Fits r.0

  abbrev Members : List Filter → Type 0
  Members ms = AllFit ms × (1 ≤ length ms)

  more_by : (b : Bool) (found : List Filter) (ts : Tokens) (r : List Filter × Tokens) (o : Outcome Filter) (go : Filter × Tokens → Outcome (List Filter))
      → ((p : Filter × Tokens) → o ≡ Ok p → go p ≡ Ok r → Members r.0) → Members found → cond {A = Outcome (List Filter)} b (and_then o go) (Ok (found, ts)) ≡ Ok r → Members r.0
  more_by true found ts r o go next h is = let p = then_ok o go r is in next p.0 p.1 p.2
  more_by false found ts r o go next h is = subst (λ (x : List Filter × Tokens). Members x.0) (ok_same (found, ts) r is) h

  more_fits : (end : ℕ) (sign : Sign) (member : Reader Filter) → Keeps member → (n : ℕ) (found : List Filter) (ts : Tokens) (r : List Filter × Tokens) → Members found → more end sign member n found ts ≡ Ok r → Members r.0
  unfolding more
  more_fits end sign member keeps zero found ts r h is = subst (λ (x : List Filter × Tokens). Members x.0) (ok_same (found, ts) r is) h
  more_fits end sign member keeps (suc n) found ts r h is =
      more_by (sees sign ts) found ts r (member (drop 1 ts)) (λ p. more end sign member n (found ++ p.0 ∷ []) p.1)
      (λ p read goes. more_fits end sign member keeps n (found ++ p.0 ∷ []) p.1 r (fit_append found p.0 h.0 (keeps (drop 1 ts) p read), some_append found p.0) goes) h is

  joined_fits : (end : ℕ) (sign : Sign) (member : Reader Filter) → Keeps member → (ts : Tokens) (r : List Filter × Tokens) → joined end sign member ts ≡ Ok r → Members r.0
  unfolding joined
  joined_fits end sign member keeps ts r is =
      let p = then_ok (member ts) (λ p. more end sign member (length p.1) (p.0 ∷ []) p.1) r is in
      more_fits end sign member keeps (length p.0.1) (p.0.0 ∷ []) p.0.1 r ((keeps ts p.0 p.1, tt), omega arith) p.2

  all_keeps : (end : ℕ) (member : Reader Filter) → Keeps member → Keeps (all end member)
  unfolding all
  all_keeps end member keeps ts r is =
      let p = then_ok (joined end And member ts) (λ p. Ok (all_of p.0, p.1)) r is in
      let ms = joined_fits end And member keeps ts p.0 p.1 in
      subst (λ (x : Filter × Tokens). Fits x.0) (ok_same (all_of p.0.0, p.0.1) r p.2) (all_of_fits p.0.0 ms.0 ms.1)

  any_keeps : (end : ℕ) (member : Reader Filter) → Keeps member → Keeps (any end member)
  unfolding any
  any_keeps end member keeps ts r is =
      let p = then_ok (joined end Or (all end member) ts) (λ p. Ok (any_of p.0, p.1)) r is in
      let ms = joined_fits end Or (all end member) (all_keeps end member keeps) ts p.0 p.1 in
      subst (λ (x : Filter × Tokens). Fits x.0) (ok_same (any_of p.0.0, p.0.1) r p.2) (any_of_fits p.0.0 ms.0 ms.1)

  -- ---- names

  abbrev HasKind : Operand × Kind → Type 0
  HasKind o = operand_kind columns o.0 ≡ Some o.1

  some_same : (x y : Operand × Kind) → Some x ≡ Some y → x ≡ y
  some_same x y h = cc

  mapped_kind : (at : ℕ) (o : Operand × Kind) (x : Option (List ℕ × Kind)) → slice_get columns at ≡ x → option_map (λ column. (Column at, column.1)) x ≡ Some o → HasKind o
  mapped_kind at o None is h = let bad : ⊥ = cc in absurd bad
  mapped_kind at o (Some column) is h = subst HasKind (some_same (Column at, column.1) o h) (ap (option_map (λ c. c.1)) is)

  small_kind : (b : Bool) (at : ℕ) (o : Operand × Kind) → cond {A = Option (Operand × Kind)} b (option_map (λ column. (Column at, column.1)) (slice_get columns at)) None ≡ Some o → HasKind o
  small_kind true at o h = mapped_kind at o (slice_get columns at) refl h
  small_kind false at o h = let bad : ⊥ = cc in absurd bad

  column_kind : (p : Option ℕ) (o : Operand × Kind) → column_at columns p ≡ Some o → HasKind o
  column_kind None o h = let bad : ⊥ = cc in absurd bad
  column_kind (Some at) o h = small_kind (nat_lt at (2 ^ 32)) at o h

  key_kind : (b : Bool) (p : Option ℕ) (o : Operand × Kind) → cond {A = Option (Operand × Kind)} b (Some (Key, kind.Int)) (column_at columns p) ≡ Some o → HasKind o
  key_kind true p o h = subst HasKind (some_same (Key, kind.Int) o h) refl
  key_kind false p o h = column_kind p o h

  operand_has_kind : (name : List ℕ) (o : Operand × Kind) → operand_of columns name ≡ Some o → HasKind o
  unfolding operand_of
  operand_has_kind name o h = key_kind (bytes_eq name (codes "key")) (position (λ column. bytes_eq column.0 name) columns) o h

  alone_fits : (end at : ℕ) (o : Operand × Kind) → HasKind o → Keeps (alone end at o)
  unfolding alone
  alone_fits end at o known ts r is =
      let p = guard_ok (is_kind o.1 (field.Bool true)) (Ok (e.Truth o.0, ts)) r _ is in
      subst (λ (x : Filter × Tokens). Fits x.0) (ok_same (e.Truth o.0, ts) r p.1) (fits_truth o.0 ∙ ap (λ k. has_kind k (field.Bool true)) known ∙ p.0)

  compared_fits : (end : ℕ) (o : Operand × Kind) (p : CompareOp × ℕ) → HasKind o → Keeps (compared end o p)
  unfolding compared
  compared_fits end o p known ts r is =
      let g = guard_ok (takes p.0 o.1) _ r _ is in
      let q = then_ok (literal end o.1 ts) (λ q. Ok (e.Compare o.0 p.0 q.0, q.1)) r g.1 in
      let right = literal_kind end o.1 ts q.0 q.1 in
      subst (λ (x : Filter × Tokens). Fits x.0) (ok_same (e.Compare o.0 p.0 q.0.0, q.0.1) r q.2)
      (fits_compare o.0 p.0 q.0.0 ∙ ap₂ (λ (a b : Bool). a && b) (ap (takes_kind p.0) known ∙ g.0) (ap (λ k. has_kind k q.0.0) known ∙ right))

  one_of_fits : (end : ℕ) (o : Operand × Kind) → HasKind o → Keeps (one_of end o)
  unfolding one_of
  one_of_fits end o known ts r is =
      let p = then_ok (expect end ListOpen ts) (λ p. and_then (choices end o.1 p.1) (λ q. Ok (e.OneOf o.0 q.0, q.1))) r is in
      let q = then_ok (choices end o.1 p.0.1) (λ q. Ok (e.OneOf o.0 q.0, q.1)) r p.2 in
      let all_kinds = kinds_all o.1 q.0.0 (choices_kinds end o.1 p.0.1 q.0 q.1) in
      subst (λ (x : Filter × Tokens). Fits x.0) (ok_same (e.OneOf o.0 q.0.0, q.0.1) r q.2)
      (fits_one_of o.0 q.0.0 ∙ ap₂ (λ (a b : Bool). a && b) (ap (takes_kind Equal) known) (ap (λ k. list_all (has_kind k) q.0.0) known ∙ all_kinds))

  named_by_fits : (end at : ℕ) (o : Operand × Kind) → HasKind o → (p : Option (CompareOp × ℕ)) (ts : Tokens) (r : Filter × Tokens) → named_by end at o p ts ≡ Ok r → Fits r.0
  named_by_fits end at o known (Some p) ts r is = compared_fits end o p known (drop 1 ts) r is
  named_by_fits end at o known None ts r is = elim (either_ok (sees In ts) (one_of end o (drop 1 ts)) (alone end at o ts) r is) [
    | inl among ↦ one_of_fits end o known (drop 1 ts) r among
    | inr other ↦ alone_fits end at o known ts r other
  ]

  named_at_fits : (end at : ℕ) (x : Option (Operand × Kind)) → ((o : Operand × Kind) → x ≡ Some o → HasKind o) → (ts : Tokens) (r : Filter × Tokens) → named_at end at x ts ≡ Ok r → Fits r.0
  named_at_fits end at None known ts r is = let bad : ⊥ = cc in absurd bad
  named_at_fits end at (Some o) known ts r is = named_by_fits end at o (known o refl) (operator_ahead ts) ts r is

  named_fits : (end : ℕ) (name : List ℕ) (at : ℕ) → Keeps (named end columns name at)
  unfolding named
  named_fits end name at ts r is = named_at_fits end at (operand_of columns name) (operand_has_kind name) ts r is

  -- ---- a `one`

  negated_fits : (end : ℕ) (inner : Reader Filter) → Keeps inner → (at : ℕ) → Keeps (negated end inner at)
  unfolding negated
  negated_fits end inner keeps at ts r is =
      let p = then_ok (inner ts) (λ p. Ok (e.Not p.0, p.1)) r is in
      subst (λ (x : Filter × Tokens). Fits x.0) (ok_same (e.Not p.0.0, p.0.1) r p.2) (fits_not p.0.0 ∙ keeps ts p.0 p.1)

  bracketed_fits : (end : ℕ) (inner : Reader Filter) → Keeps inner → (at : ℕ) → Keeps (bracketed end inner at)
  unfolding bracketed
  bracketed_fits end inner keeps at ts r is =
      let p = then_ok (any end inner ts) (λ p. and_then (expect end Close p.1) (λ q. Ok (p.0, q.1))) r is in
      let q = then_ok (expect end Close p.0.1) (λ q. Ok (p.0.0, q.1)) r p.2 in
      subst (λ (x : Filter × Tokens). Fits x.0) (ok_same (p.0.0, q.0.1) r q.2) (any_keeps end inner keeps ts p.0 p.1)

  too_deep_fits : (end at : ℕ) → Keeps (too_deep end at)
  too_deep_fits end at ts r is = let bad : ⊥ = cc in absurd bad

  sign_fits : (a b : Bool) (negation bracket : Reader Filter) (error : FilterError) → Keeps negation → Keeps bracket → (ts : Tokens) (r : Filter × Tokens)
      → cond {A = Reader Filter} a negation (cond b bracket (λ ts. Err error)) ts ≡ Ok r → Fits r.0
  sign_fits true b negation bracket error n k ts r is = n ts r is
  sign_fits false true negation bracket error n k ts r is = k ts r is
  sign_fits false false negation bracket error n k ts r is = let bad : ⊥ = cc in absurd bad

  begun_fits : (end : ℕ) (negation bracket : ℕ → Reader Filter) → ((at : ℕ) → Keeps (negation at)) → ((at : ℕ) → Keeps (bracket at)) → (at : ℕ) (t : Token) (name : Option (List ℕ)) (ts : Tokens) (r : Filter × Tokens)
      → begun_by end columns negation bracket at t name ts ≡ Ok r → Fits r.0
  begun_fits end negation bracket n k at t (Some name) ts r is = named_fits end name at ts r is
  begun_fits end negation bracket n k at t None ts r is = sign_fits (is_sign Not t) (is_sign Open t) (negation at) (bracket at) _ (n at) (k at) ts r is

  one_by_fits : (end : ℕ) (negation bracket : ℕ → Reader Filter) → ((at : ℕ) → Keeps (negation at)) → ((at : ℕ) → Keeps (bracket at)) → Keeps (one_by end columns negation bracket)
  unfolding one_by
  one_by_fits end negation bracket n k [] r is = let bad : ⊥ = cc in absurd bad
  one_by_fits end negation bracket n k (t ∷ ts) r is = begun_fits end negation bracket n k t.at t.token (name_in t.token) ts r is

  one_fits : (end depth : ℕ) → Keeps (one end columns depth)
  unfolding one
  one_fits end zero ts r is = one_by_fits end (too_deep end) (too_deep end) (too_deep_fits end) (too_deep_fits end) ts r is
  one_fits end (suc depth) ts r is =
      one_by_fits end (negated end (one end columns depth)) (bracketed end (one end columns depth))
      (negated_fits end (one end columns depth) (one_fits end depth)) (bracketed_fits end (one end columns depth) (one_fits end depth)) ts r is

  whole_is : (filter : Filter) (ts : Tokens) (f : Filter) → whole filter ts ≡ Ok f → filter ≡ f
  whole_is filter [] f h = ok_same filter f h
  whole_is filter (t ∷ ts) f h = let bad : ⊥ = cc in absurd bad

  -- what a text spells is a filter of the columns
  pub filter_fits : (text : List ℕ) (f : Filter) → filter_of columns text ≡ Ok f → fits columns f ≡ true
  unfolding filter_of
  filter_fits text f h =
      let read = any (length text) (one (length text) columns most_open) in
      let p = then_ok (tokens_of text) (λ ts. and_then (read ts) (λ r. whole r.0 r.1)) f h in
      let q = then_ok (read p.0) (λ r. whole r.0 r.1) f p.2 in
      subst Fits (whole_is q.0.0 q.0.1 f q.2) (any_keeps (length text) (one (length text) columns most_open) (one_fits (length text) most_open) p.0 q.0 q.1)
