-- What the grammar gives for a text, it gives again for the text that it is written as.
use Rattle.std.proofs.Common.{◌≡◌, ℕ, zero, suc, ◌+◌, ◌<◌, ◌≤◌, ◌==◌, Bool, true, false, cond, inl, inr, List, [], ◌∷◌, ◌++◌, length, map, drop, slice_index, codes, Option, Some, None, Result, Ok, Err, refl, sym, ◌∙◌, ap, subst, arith, append_assoc, append-nil}
use Rattle.std.proofs.lemmas.List.{length-append}
use Rattle.row_types.specs.declared.rows.Kind.{Kind}
use Rattle.row_types.specs.declared.rows.Field.{Field}
use Rattle.row_types.specs.declared.rows.Field.TheVariants as field
use Rattle.row_types.specs.declared.filters.Operand.{Operand}
use Rattle.row_types.specs.declared.filters.CompareOp.{CompareOp}
use Rattle.row_types.specs.declared.filters.Filter.{Filter}
use Rattle.row_types.specs.declared.filters.Filter.TheVariants as e
use Rattle.row_types.specs.declared.filters.Filter.TheVariants.{rolls-Any, rolls-All, rolls-Not, rolls-Truth, rolls-Compare, rolls-OneOf}
use Rattle.row_types.specs.declared.filters.Filter.TheOpen.{Filter-F}
use Rattle.row_types.specs.declared.filters.Filter.TheFolds.{fold-roll-Filter}
use Rattle.row_types.specs.Schemas.{Columns, is_kind, takes}
use Rattle.filter_expr.specs.declared.printing.Level.{Level}
use Rattle.filter_expr.specs.declared.printing.Level.TheVariants as level
use Rattle.filter_expr.specs.declared.refusals.FilterError.{FilterError}
use Rattle.filter_expr.specs.declared.refusals.FilterError.TheVariants.{KindMismatch, Expected}
use Rattle.filter_expr.specs.declared.tokens.Sign.{Sign}
use Rattle.filter_expr.specs.declared.tokens.Sign.TheVariants.{Or, And, Not, Open, Comma, ListClose, ListOpen, In, Close}
use Rattle.filter_expr.specs.declared.tokens.Token.{Token}
use Rattle.filter_expr.specs.declared.tokens.Token.TheVariants as token
use Rattle.filter_expr.specs.declared.tokens.Placed.{Placed}
use Rattle.filter_expr.specs.Grammar.{Tokens, Outcome, Reader, and_then, is_sign, same_sign, sees, name_in, operator_ahead, operand_of, any_of, all_of, most_open, place, expect, literal_of, literal, choices_from, choices_after, choices, one_of, compared, alone, named_by, named_at, named, more, joined, all, any, negated, bracketed, too_deep, begun_by, one_by, one, whole, filter_of}
use Rattle.filter_expr.specs.Printing.{literal_text, operand_text, op_text, separated, is_below, written_at, written, text_of, text_within, members_behind, members_text}
use Rattle.filter_expr.specs.Tokens.{token_at, tokens_of}
use Rattle.filter_expr.proofs.KindLaws.{ok_same, then_ok, guard_ok, either_ok}
use Rattle.filter_expr.proofs.Rules.{one_is}
use Rattle.filter_expr.proofs.Pieces.{first_stays, Breaks, Lexes, IsSpelled, name_piece, piece_lexes, space_lexes}
use Rattle.filter_expr.proofs.GoodTokens.{IsGood, AllGood, good_tokens}
use Rattle.filter_expr.proofs.AgainLaws.{placed, sign_pieces, not_piece, name_begins, name_lexes, operand_named, compare_lexes, AllChoices, choices_again}

-- ---- what may stand behind a filter

abbrev StopsOne : Tokens → Type 0
StopsOne ts = (operator_ahead ts ≡ None) × (sees In ts ≡ false)

abbrev StopsAll : Tokens → Type 0
StopsAll ts = StopsOne ts × (sees And ts ≡ false)

abbrev StopsAny : Tokens → Type 0
StopsAny ts = StopsAll ts × (sees Or ts ≡ false)

abbrev Stops : Level → Tokens → Type 0
Stops level.One ts = StopsOne ts
Stops level.All ts = StopsAll ts
Stops level.Any ts = StopsAny ts

closes : (at : ℕ) (ts : Tokens) → StopsAny (placed (token.Sign Close) at ∷ ts)
unfolding operator_ahead sees same_sign
closes at ts = (((refl, refl), refl), refl)

ands : (at : ℕ) (ts : Tokens) → StopsOne (placed (token.Sign And) at ∷ ts) × (sees And (placed (token.Sign And) at ∷ ts) ≡ true)
unfolding operator_ahead sees same_sign
ands at ts = ((refl, refl), refl)

ors : (at : ℕ) (ts : Tokens) → StopsAll (placed (token.Sign Or) at ∷ ts) × (sees Or (placed (token.Sign Or) at ∷ ts) ≡ true)
unfolding operator_ahead sees same_sign
ors at ts = (((refl, refl), refl), refl)

ends : StopsAny []
unfolding operator_ahead sees
ends = (((refl, refl), refl), refl)

-- ---- members of a level

more_stops : (end : ℕ) (sign : Sign) (member : Reader Filter) (n : ℕ) (found : List Filter) (ts : Tokens) → sees sign ts ≡ false → more end sign member n found ts ≡ Ok (found, ts)
unfolding more
more_stops end sign member zero found ts h = refl
more_stops end sign member (suc n) found ts h =
    ap (λ b. cond {A = Outcome (List Filter)} b (and_then (member (drop 1 ts)) (λ r. more end sign member n (found ++ r.0 ∷ []) r.1)) (Ok (found, ts))) h

more_goes : (end : ℕ) (sign : Sign) (member : Reader Filter) (n : ℕ) (found : List Filter) (s : Placed) (ts us : Tokens) (m : Filter) (out : Outcome (List Filter))
    → sees sign (s ∷ ts) ≡ true → member ts ≡ Ok (m, us) → more end sign member n (found ++ m ∷ []) us ≡ out → more end sign member (suc n) found (s ∷ ts) ≡ out
unfolding more
more_goes end sign member n found s ts us m out seen reads h =
    ap (λ b. cond {A = Outcome (List Filter)} b (and_then (member ts) (λ r. more end sign member n (found ++ r.0 ∷ []) r.1)) (Ok (found, s ∷ ts))) seen
    ∙ ap (λ o. and_then {B = List Filter × Tokens} o (λ r. more end sign member n (found ++ r.0 ∷ []) r.1)) reads
    ∙ h

joined_goes : (end : ℕ) (sign : Sign) (member : Reader Filter) (ts us : Tokens) (m : Filter) (out : Outcome (List Filter)) → member ts ≡ Ok (m, us) → more end sign member (length us) (m ∷ []) us ≡ out → joined end sign member ts ≡ out
unfolding joined
joined_goes end sign member ts us m out reads h = ap (λ o. and_then {B = List Filter × Tokens} o (λ r. more end sign member (length r.1) (r.0 ∷ []) r.1)) reads ∙ h

lift_all : (end : ℕ) (member : Reader Filter) (ts rest : Tokens) (f : Filter) → member ts ≡ Ok (f, rest) → sees And rest ≡ false → all end member ts ≡ Ok (f, rest)
unfolding all all_of
lift_all end member ts rest f reads stop =
    ap (λ o. and_then {B = Filter × Tokens} o (λ r. Ok (all_of r.0, r.1)))
    (joined_goes end And member ts rest f (Ok (f ∷ [], rest)) reads (more_stops end And member (length rest) (f ∷ []) rest stop))

lift_any : (end : ℕ) (member : Reader Filter) (ts rest : Tokens) (f : Filter) → all end member ts ≡ Ok (f, rest) → sees Or rest ≡ false → any end member ts ≡ Ok (f, rest)
unfolding any any_of
lift_any end member ts rest f reads stop =
    ap (λ o. and_then {B = Filter × Tokens} o (λ r. Ok (any_of r.0, r.1)))
    (joined_goes end Or (all end member) ts rest f (Ok (f ∷ [], rest)) reads (more_stops end Or (all end member) (length rest) (f ∷ []) rest stop))

-- a fact of each count above another
turns : (m : ℕ) (f : ℕ → Outcome (List Filter)) (out : Outcome (List Filter)) → ((k : ℕ) → m ≤ k → f (suc k) ≡ out) → (n : ℕ) → suc m ≤ n → f n ≡ out
turns m f out go zero le = absurd (omega arith)
turns m f out go (suc k) le = go k (omega arith)

module _ (columns : Columns) where
  abbrev reads : ℕ → Level → ℕ → Reader Filter
  reads end level.Any d = any end (one end columns d)
  reads end level.All d = all end (one end columns d)
  reads end level.One d = one end columns d

  -- a text begins, and not with what would make a `!` before it another sign
  abbrev Begins : List ℕ → Type 0
  Begins t = (0 < length t) × ((slice_index t 0 == 61) ≡ false)

  -- a text is read as a filter at a level, with so many signs to open, whatever stands behind it
  abbrev Rereads : Level → ℕ → Filter → List ℕ → Type 0
  Rereads least d f t = (end at : ℕ) (z : List ℕ) (rest : Tokens) → Lexes (at + length t) z rest → Breaks z → Stops least rest
      → (ts : Tokens) × Lexes at (t ++ z) ts × (reads end least d ts ≡ Ok (f, rest)) × (length rest ≤ length ts)

  abbrev AgainAs : ℕ → Filter → Level × List ℕ → Type 0
  AgainAs d f w = Rereads w.0 d f w.1 × Begins w.1

  -- a filter is read again from its text
  abbrev Again : ℕ → Filter → Type 0
  Again d f = AgainAs d f (written columns f)

  abbrev Deeper : Bool → ℕ → Filter → Type 0
  Deeper true d f = (k : ℕ) × (d ≡ suc k) × Again k f
  Deeper false d f = Again d f

  -- the same where a level is the least, so that brackets may be needed
  abbrev Within : Level → ℕ → Filter → Type 0
  Within least d f = Deeper (is_below (written columns f).0 least) d f

  abbrev Part : Level → ℕ → Filter → Type 0
  Part least d f = Rereads least d f (text_within columns least f) × Begins (text_within columns least f)

  raise : (l least : Level) (d : ℕ) (f : Filter) (t : List ℕ) → is_below l least ≡ false → Rereads l d f t → Rereads least d f t
  raise level.One level.One d f t h r = r
  raise level.One level.All d f t h r = λ end at z rest l b s.
      let p = r end at z rest l b s.0 in (p.0, p.1, lift_all end (one end columns d) p.0 rest f p.2 s.1, p.3)
  raise level.One level.Any d f t h r = λ end at z rest l b s.
      let p = r end at z rest l b s.0.0 in (p.0, p.1, lift_any end (one end columns d) p.0 rest f (lift_all end (one end columns d) p.0 rest f p.2 s.0.1) s.1, p.3)
  raise level.All level.All d f t h r = r
  raise level.All level.Any d f t h r = λ end at z rest l b s.
      let p = r end at z rest l b s.0 in (p.0, p.1, lift_any end (one end columns d) p.0 rest f p.2 s.1, p.3)
  raise level.Any level.Any d f t h r = r
  raise level.All level.One d f t h r = let bad : ⊥ = cc in absurd bad
  raise level.Any level.One d f t h r = let bad : ⊥ = cc in absurd bad
  raise level.Any level.All d f t h r = let bad : ⊥ = cc in absurd bad

  none_below_any : (l : Level) → is_below l level.Any ≡ false
  none_below_any level.Any = refl
  none_below_any level.All = refl
  none_below_any level.One = refl

  one_not_below : (l : Level) → is_below level.One l ≡ false
  one_not_below level.Any = refl
  one_not_below level.All = refl
  one_not_below level.One = refl

  -- ---- brackets

  bracket_reads : (end k at at2 : ℕ) (ts rest : Tokens) (f : Filter) → any end (one end columns k) ts ≡ Ok (f, placed (token.Sign Close) at2 ∷ rest)
      → one end columns (suc k) (placed (token.Sign Open) at ∷ ts) ≡ Ok (f, rest)
  unfolding one one_by same_sign bracketed expect sees
  bracket_reads end k at at2 ts rest f h = ap (λ o. and_then {B = Filter × Tokens} o (λ p. and_then (expect end Close p.1) (λ q. Ok (p.0, q.1)))) h

  bracket : (k : ℕ) (f : Filter) → Again k f → Rereads level.One (suc k) f (codes "(" ++ text_of columns f ++ codes ")")
  bracket k f s end at z rest l b stop =
      let t = text_of columns f in
      let e : at + suc (length (t ++ 41 ∷ [])) ≡ at + 1 + length t + 1 = omega (arith, length-append t (41 ∷ [])) in
      let close : Placed = placed (token.Sign Close) (at + 1 + length t) in
      let lexes = piece_lexes (at + 1 + length t) (41 ∷ []) z (token.Sign Close) rest (omega arith) refl (sign_pieces z).1 (subst (λ n. Lexes n z rest) e l) in
      let inner = raise (written columns f).0 level.Any k f t (none_below_any (written columns f).0) s.0 end (at + 1) (41 ∷ z) (close ∷ rest) lexes refl (closes (at + 1 + length t) rest) in
      let whole = piece_lexes at (40 ∷ []) (t ++ 41 ∷ z) (token.Sign Open) inner.0 (omega arith) refl (sign_pieces (t ++ 41 ∷ z)).0 inner.1 in
      let fewer : length rest ≤ suc (length inner.0) = omega (arith, inner.3) in (
        placed (token.Sign Open) at ∷ inner.0,
        subst (λ y. Lexes at (40 ∷ y) (placed (token.Sign Open) at ∷ inner.0)) (sym (append_assoc t (41 ∷ []) z)) whole,
        bracket_reads end k at (at + 1 + length t) inner.0 rest f inner.2,
        fewer,
      )

  part_by : (b : Bool) (least : Level) (d : ℕ) (f : Filter) → is_below (written columns f).0 least ≡ b → Deeper b d f
      → Rereads least d f (cond b (codes "(" ++ text_of columns f ++ codes ")") (text_of columns f)) × Begins (cond b (codes "(" ++ text_of columns f ++ codes ")") (text_of columns f))
  part_by true least d f e h = (
    subst (λ n. Rereads least n f (codes "(" ++ text_of columns f ++ codes ")")) (sym h.1)
        (raise level.One least (suc h.0) f (codes "(" ++ text_of columns f ++ codes ")") (one_not_below least) (bracket h.0 f h.2)),
    (omega arith, refl),
  )
  part_by false least d f e h = (raise (written columns f).0 least d f (text_of columns f) e h.0, h.1)

  part_of : (least : Level) (d : ℕ) (f : Filter) → Within least d f → Part least d f
  part_of least d f h = part_by (is_below (written columns f).0 least) least d f refl h

  -- ---- members with a sign between

  abbrev AllPart : Level → ℕ → List Filter → Type 0
  AllPart least d [] = Unit {0}
  AllPart least d (m ∷ ms) = Part least d m × AllPart least d ms

  -- a sign of two like bytes, behind which members of a level stand
  record Between (sign : Sign) (x : ℕ) (least : Level) : Type 0 where
    piece : (y : List ℕ) → token_at (x ∷ x ∷ y) ≡ Some (token.Sign sign, 2)
    no_space : (x == 32) ≡ false
    seen : (at : ℕ) (ts : Tokens) → sees sign (placed (token.Sign sign) at ∷ ts) ≡ true
    stops : (at : ℕ) (ts : Tokens) → Stops least (placed (token.Sign sign) at ∷ ts)

  between_ands : Between And 38 level.One
  between_ands = record { piece = λ y. (sign_pieces y).5; no_space = refl; seen = λ at ts. (ands at ts).1; stops = λ at ts. (ands at ts).0 }

  between_ors : Between Or 124 level.All
  between_ors = record { piece = λ y. (sign_pieces y).6; no_space = refl; seen = λ at ts. (ors at ts).1; stops = λ at ts. (ors at ts).0 }

  abbrev sign_text : ℕ → List ℕ
  sign_text x = 32 ∷ x ∷ x ∷ 32 ∷ []

  more_again : (sign : Sign) (x : ℕ) (least : Level) → Between sign x least → (d : ℕ) (ms : List Filter) → AllPart least d ms
      → (end at : ℕ) (z : List ℕ) (rest : Tokens) (found : List Filter) → Lexes (at + length (members_behind columns (sign_text x) least ms)) z rest → Breaks z → Stops least rest → sees sign rest ≡ false
      → (ts : Tokens) × Lexes at (members_behind columns (sign_text x) least ms ++ z) ts
      × ((n : ℕ) → length ms ≤ n → more end sign (reads end least d) n found ts ≡ Ok (found ++ ms, rest))
      × Stops least ts × Breaks (members_behind columns (sign_text x) least ms ++ z) × (length ms ≤ length ts) × (length rest ≤ length ts)
  more_again sign x least between d [] h end at z rest found l b s none =
      let e : at + 0 ≡ at = omega arith in (
        rest,
        subst (λ n. Lexes n z rest) e l,
        λ n le. more_stops end sign (reads end least d) n found rest none ∙ ap (λ ms. Ok (ms, rest)) (sym (append-nil found)),
        s,
        b,
        omega arith,
        omega arith,
      )
  more_again sign x least between d (m ∷ ms) h end at z rest found l b s none =
      let t = text_within columns least m in
      let tail = members_behind columns (sign_text x) least ms in
      let e : at + suc (suc (suc (suc (length (t ++ tail))))) ≡ at + 1 + 2 + 1 + length t + length tail = omega (arith, length-append t tail) in
      let i = more_again sign x least between d ms h.1 end (at + 1 + 2 + 1 + length t) z rest (found ++ m ∷ []) (subst (λ n. Lexes n z rest) e l) b s none in
      let p = h.0.0 end (at + 1 + 2 + 1) (tail ++ z) i.0 i.1 i.4 i.3 in
      let s1 : Placed = placed (token.Sign sign) (at + 1) in
      let lexes = space_lexes at (x ∷ x ∷ 32 ∷ (t ++ (tail ++ z))) (s1 ∷ p.0)
      (piece_lexes (at + 1) (x ∷ x ∷ []) (32 ∷ (t ++ (tail ++ z))) (token.Sign sign) p.0 (omega arith) between.no_space (between.piece (32 ∷ (t ++ (tail ++ z))))
      (space_lexes (at + 1 + 2) (t ++ (tail ++ z)) p.0 p.1)) in
      let shorter : suc (length ms) ≤ suc (length p.0) = omega (arith, i.5, p.3) in
      let fewer : length rest ≤ suc (length p.0) = omega (arith, i.6, p.3) in (
        s1 ∷ p.0,
        subst (λ y. Lexes at (32 ∷ x ∷ x ∷ 32 ∷ y) (s1 ∷ p.0)) (sym (append_assoc t tail z)) lexes,
        turns (length ms) (λ n. more end sign (reads end least d) n found (s1 ∷ p.0)) (Ok (found ++ m ∷ ms, rest))
            (λ k le. more_goes end sign (reads end least d) k found s1 p.0 i.0 m (Ok (found ++ m ∷ ms, rest)) (between.seen (at + 1) p.0) p.2
            (i.2 k le ∙ ap (λ fs. Ok (fs, rest)) (append_assoc found (m ∷ []) ms))),
        between.stops (at + 1) p.0,
        refl,
        shorter,
        fewer,
      )

  members_again : (sign : Sign) (x : ℕ) (least : Level) → Between sign x least → (d : ℕ) (a : Filter) (ms : List Filter) → Part least d a → AllPart least d ms
      → (end at : ℕ) (z : List ℕ) (rest : Tokens) → Lexes (at + length (members_text columns (sign_text x) least (a ∷ ms))) z rest → Breaks z → Stops least rest → sees sign rest ≡ false
      → (ts : Tokens) × Lexes at (members_text columns (sign_text x) least (a ∷ ms) ++ z) ts × (joined end sign (reads end least d) ts ≡ Ok (a ∷ ms, rest)) × (length rest ≤ length ts)
  members_again sign x least between d a ms part parts end at z rest l b s none =
      let t = text_within columns least a in
      let tail = members_behind columns (sign_text x) least ms in
      let e : at + length (t ++ tail) ≡ at + length t + length tail = omega (arith, length-append t tail) in
      let i = more_again sign x least between d ms parts end (at + length t) z rest (a ∷ []) (subst (λ n. Lexes n z rest) e l) b s none in
      let p = part.0 end at (tail ++ z) i.0 i.1 i.4 i.3 in
      let fewer : length rest ≤ length p.0 = omega (arith, i.6, p.3) in (
        p.0,
        subst (λ y. Lexes at y p.0) (sym (append_assoc t tail z)) p.1,
        joined_goes end sign (reads end least d) p.0 i.0 a (Ok (a ∷ ms, rest)) p.2 (i.2 (length i.0) i.5),
        fewer,
      )

  begins_append : (t u : List ℕ) → Begins t → Begins (t ++ u)
  begins_append t u h =
      let long : 0 < length (t ++ u) = omega (arith, length-append t u, h.0) in
      (long, ap (λ b. b == 61) (first_stays t u h.0) ∙ h.1)

  written_any : (ms : List Filter) → written columns (e.Any ms) ≡ (level.Any, members_text columns (sign_text 124) level.All ms)
  written_any ms = ap (written columns) (sym (rolls-Any ms)) ∙ fold-roll-Filter (Level × List ℕ) (written_at columns) (Filter-F.Any ms)

  written_all : (ms : List Filter) → written columns (e.All ms) ≡ (level.All, members_text columns (sign_text 38) level.One ms)
  written_all ms = ap (written columns) (sym (rolls-All ms)) ∙ fold-roll-Filter (Level × List ℕ) (written_at columns) (Filter-F.All ms)

  written_not : (f : Filter) → written columns (e.Not f) ≡ (level.One, 33 ∷ text_within columns level.One f)
  written_not f = ap (written columns) (sym (rolls-Not f)) ∙ fold-roll-Filter (Level × List ℕ) (written_at columns) (Filter-F.Not f)

  written_truth : (o : Operand) → written columns (e.Truth o) ≡ (level.One, operand_text columns o)
  written_truth o = ap (written columns) (sym (rolls-Truth o)) ∙ fold-roll-Filter (Level × List ℕ) (written_at columns) (Filter-F.Truth o)

  written_compare : (o : Operand) (op : CompareOp) (f : Field) → written columns (e.Compare o op f) ≡ (level.One, operand_text columns o ++ codes " " ++ op_text op ++ codes " " ++ literal_text f)
  written_compare o op f = ap (written columns) (sym (rolls-Compare o op f)) ∙ fold-roll-Filter (Level × List ℕ) (written_at columns) (Filter-F.Compare o op f)

  written_one_of : (o : Operand) (fs : List Field) → written columns (e.OneOf o fs) ≡ (level.One, operand_text columns o ++ codes " in [" ++ separated (codes ", ") (map literal_text fs) ++ codes "]")
  written_one_of o fs = ap (written columns) (sym (rolls-OneOf o fs)) ∙ fold-roll-Filter (Level × List ℕ) (written_at columns) (Filter-F.OneOf o fs)

  again_all : (d : ℕ) (a b : Filter) (ms : List Filter) → AllPart level.One d (a ∷ b ∷ ms) → Again d (e.All (a ∷ b ∷ ms))
  unfolding all all_of
  again_all d a b ms h = subst (AgainAs d (e.All (a ∷ b ∷ ms))) (sym (written_all (a ∷ b ∷ ms))) (
    (λ end at z rest l br s.
        let m = members_again And 38 level.One between_ands d a (b ∷ ms) h.0 h.1 end at z rest l br s.0 s.1 in
        (m.0, m.1, ap (λ o. and_then {B = Filter × Tokens} o (λ r. Ok (all_of r.0, r.1))) m.2, m.3)),
    begins_append (text_within columns level.One a) (members_behind columns (sign_text 38) level.One (b ∷ ms)) h.0.1,
  )

  again_any : (d : ℕ) (a b : Filter) (ms : List Filter) → AllPart level.All d (a ∷ b ∷ ms) → Again d (e.Any (a ∷ b ∷ ms))
  unfolding any any_of
  again_any d a b ms h = subst (AgainAs d (e.Any (a ∷ b ∷ ms))) (sym (written_any (a ∷ b ∷ ms))) (
    (λ end at z rest l br s.
        let m = members_again Or 124 level.All between_ors d a (b ∷ ms) h.0 h.1 end at z rest l br s.0 s.1 in
        (m.0, m.1, ap (λ o. and_then {B = Filter × Tokens} o (λ r. Ok (any_of r.0, r.1))) m.2, m.3)),
    begins_append (text_within columns level.All a) (members_behind columns (sign_text 124) level.All (b ∷ ms)) h.0.1,
  )

  -- ---- negation

  not_reads : (end k at : ℕ) (ts rest : Tokens) (f : Filter) → one end columns k ts ≡ Ok (f, rest) → one end columns (suc k) (placed (token.Sign Not) at ∷ ts) ≡ Ok (e.Not f, rest)
  unfolding one one_by same_sign negated
  not_reads end k at ts rest f h = ap (λ o. and_then {B = Filter × Tokens} o (λ q. Ok (e.Not q.0, q.1))) h

  again_not : (k : ℕ) (f : Filter) → Part level.One k f → Again (suc k) (e.Not f)
  again_not k f part = subst (AgainAs (suc k) (e.Not f)) (sym (written_not f)) (
    (λ end at z rest l br s.
        let t = text_within columns level.One f in
        let e1 : at + suc (length t) ≡ at + 1 + length t = omega arith in
        let p = part.0 end (at + 1) z rest (subst (λ n. Lexes n z rest) e1 l) br s in
        let begins = begins_append t z part.1 in
        let fewer : length rest ≤ suc (length p.0) = omega (arith, p.3) in (
          placed (token.Sign Not) at ∷ p.0,
          piece_lexes at (33 ∷ []) (t ++ z) (token.Sign Not) p.0 (omega arith) refl (not_piece (t ++ z) begins.1) p.1,
          not_reads end k at p.0 rest f p.2,
          fewer,
        )),
    (omega arith, refl),
  )

  -- ---- what begins with a name

  name_reads : (end d : ℕ) (name : List ℕ) (at : ℕ) (ts : Tokens) (o : Operand × Kind) → operand_of columns name ≡ Some o → one end columns d (placed (token.Name name) at ∷ ts) ≡ named_by end at o (operator_ahead ts) ts
  unfolding one_by named
  name_reads end d name at ts o h = ap (λ (r : Reader Filter). r (placed (token.Name name) at ∷ ts)) (one_is end columns d) ∙ ap (λ x. named_at end at x ts) h

  alone_reads : (end at : ℕ) (o : Operand × Kind) (rest : Tokens) → is_kind o.1 (field.Bool true) ≡ true → alone end at o rest ≡ Ok (e.Truth o.0, rest)
  unfolding alone
  alone_reads end at o rest h = ap (λ b. cond {A = Outcome Filter} b (Ok (e.Truth o.0, rest)) (Err (KindMismatch at))) h

  again_truth : (d : ℕ) (name : List ℕ) (o : Operand × Kind) → IsGood (token.Name name) → operand_of columns name ≡ Some o → is_kind o.1 (field.Bool true) ≡ true → Again d (e.Truth o.0)
  again_truth d name o good h kind_ok =
      let begins = name_begins name good.0 in
      subst (AgainAs d (e.Truth o.0)) (sym (written_truth o.0 ∙ ap (λ t. (level.One, t)) (operand_named columns name o h))) (
        (λ end at z rest l br s.
            let fewer : length rest ≤ suc (length rest) = omega arith in (
              placed (token.Name name) at ∷ rest,
              name_lexes at name z rest good br l,
              name_reads end d name at rest o h ∙ ap (λ p. named_by end at o p rest) s.0
                  ∙ ap (λ b. cond {A = Outcome Filter} b (one_of end o (drop 1 rest)) (alone end at o rest)) s.1 ∙ alone_reads end at o rest kind_ok,
              fewer,
            )),
        (begins.0, begins.2),
      )

  compare_reads : (end at a1 a2 : ℕ) (o : Operand × Kind) (op : CompareOp) (f : Field) (rest : Tokens) → takes op o.1 ≡ true → is_kind o.1 f ≡ true
      → named_by end at o (operator_ahead (placed (token.Compare op) a1 ∷ placed (token.Literal f) a2 ∷ rest)) (placed (token.Compare op) a1 ∷ placed (token.Literal f) a2 ∷ rest) ≡ Ok (e.Compare o.0 op f, rest)
  unfolding operator_ahead compared literal
  compare_reads end at a1 a2 o op f rest ok kind_ok =
      ap (λ b. cond {A = Outcome Filter} b (and_then (and_then {B = Field × Tokens} (literal_of end o.1 a2 (token.Literal f)) (λ g. Ok (g, rest))) (λ q. Ok (e.Compare o.0 op q.0, q.1))) (Err (KindMismatch a1))) ok
      ∙ ap (λ b. and_then {B = Filter × Tokens} (and_then {B = Field × Tokens} (cond {A = Result Field FilterError} b (Ok f) (Err (KindMismatch a2))) (λ g. Ok (g, rest))) (λ q. Ok (e.Compare o.0 op q.0, q.1))) kind_ok

  regroup : (a s b t c : List ℕ) → (((a ++ s) ++ b) ++ t) ++ c ≡ a ++ (s ++ (b ++ (t ++ c)))
  regroup a s b t c = simp append_assoc

  again_compare : (d : ℕ) (name : List ℕ) (o : Operand × Kind) (op : CompareOp) (f : Field) → IsGood (token.Name name) → operand_of columns name ≡ Some o → takes op o.1 ≡ true → is_kind o.1 f ≡ true → IsSpelled f → Again d (e.Compare o.0 op f)
  again_compare d name o op f good h ok kind_ok spelled =
      let begins = name_begins name good.0 in
      let lit = literal_text f in
      let tail = 32 ∷ (op_text op ++ 32 ∷ lit) in
      let same = written_compare o.0 op f ∙ ap (λ n. (level.One, n ++ codes " " ++ op_text op ++ codes " " ++ lit)) (operand_named columns name o h) ∙ ap (λ t. (level.One, t)) (regroup name (32 ∷ []) (op_text op) (32 ∷ []) lit) in
      subst (AgainAs d (e.Compare o.0 op f)) (sym same) (
        (λ end at z rest l br s.
            let e1 : at + length (name ++ tail) ≡ at + length name + 1 + length (op_text op) + 1 + length lit = omega (arith, length-append name tail, length-append (op_text op) (32 ∷ lit)) in
            let a1 = at + length name + 1 in
            let a2 = at + length name + 1 + length (op_text op) + 1 in
            let ts = placed (token.Name name) at ∷ placed (token.Compare op) a1 ∷ placed (token.Literal f) a2 ∷ rest in
            let lexes = compare_lexes at name op f z rest good spelled br (subst (λ n. Lexes n z rest) e1 l) in
            let grouped = append_assoc name tail z ∙ ap (λ y. name ++ 32 ∷ y) (append_assoc (op_text op) (32 ∷ lit) z) in
            let fewer : length rest ≤ suc (suc (suc (length rest))) = omega arith in (
              ts,
              subst (λ y. Lexes at y ts) (sym grouped) lexes,
              name_reads end d name at (placed (token.Compare op) a1 ∷ placed (token.Literal f) a2 ∷ rest) o h ∙ compare_reads end at a1 a2 o op f rest ok kind_ok,
              fewer,
            )),
        begins_append name tail (begins.0, begins.2),
      )

  one_of_reads : (end at a1 a2 : ℕ) (o : Operand × Kind) (fs : List Field) (ts rest : Tokens) → choices end o.1 ts ≡ Ok (fs, rest)
      → named_by end at o (operator_ahead (placed (token.Sign In) a1 ∷ placed (token.Sign ListOpen) a2 ∷ ts)) (placed (token.Sign In) a1 ∷ placed (token.Sign ListOpen) a2 ∷ ts) ≡ Ok (e.OneOf o.0 fs, rest)
  unfolding operator_ahead sees same_sign one_of expect
  one_of_reads end at a1 a2 o fs ts rest h = ap (λ r. and_then {B = Filter × Tokens} r (λ q. Ok (e.OneOf o.0 q.0, q.1))) h

  in_piece : (y : List ℕ) → Breaks y → token_at (105 ∷ 110 ∷ y) ≡ Some (token.Sign In, 2)
  in_piece y b = name_piece (codes "in") y ((refl, (refl, tt)), refl) b

  regroup3 : (a s b c : List ℕ) → ((a ++ s) ++ b) ++ c ≡ a ++ (s ++ (b ++ c))
  regroup3 a s b c = simp append_assoc

  again_one_of : (d : ℕ) (name : List ℕ) (o : Operand × Kind) (fs : List Field) → IsGood (token.Name name) → operand_of columns name ≡ Some o → AllChoices o.1 fs → Again d (e.OneOf o.0 fs)
  again_one_of d name o fs good h choices_ok =
      let begins = name_begins name good.0 in
      let list = separated (44 ∷ 32 ∷ []) (map literal_text fs) in
      let tail = 32 ∷ 105 ∷ 110 ∷ 32 ∷ 91 ∷ (list ++ 93 ∷ []) in
      let same = written_one_of o.0 fs ∙ ap (λ n. (level.One, n ++ codes " in [" ++ list ++ codes "]")) (operand_named columns name o h) ∙ ap (λ t. (level.One, t)) (regroup3 name (codes " in [") list (93 ∷ [])) in
      subst (AgainAs d (e.OneOf o.0 fs)) (sym same) (
        (λ end at z rest l br s.
            let a1 = at + length name + 1 in
            let a2 = at + length name + 1 + 2 + 1 in
            let e1 : at + length (name ++ tail) ≡ a2 + 1 + length list + 1 = omega (arith, length-append name tail, length-append list (93 ∷ [])) in
            let i = choices_again end o.1 fs (a2 + 1) z rest choices_ok (subst (λ n. Lexes n z rest) e1 l) in
            let y = list ++ 93 ∷ z in
            let opened = placed (token.Sign ListOpen) a2 ∷ i.0 in
            let listed = piece_lexes a2 (91 ∷ []) y (token.Sign ListOpen) i.0 (omega arith) refl (sign_pieces y).2 i.1 in
            let among = placed (token.Sign In) a1 ∷ opened in
            let inside = piece_lexes a1 (105 ∷ 110 ∷ []) (32 ∷ 91 ∷ y) (token.Sign In) opened (omega arith) refl (in_piece (32 ∷ 91 ∷ y) refl) (space_lexes (a1 + 2) (91 ∷ y) opened listed) in
            let lexes = name_lexes at name (32 ∷ 105 ∷ 110 ∷ 32 ∷ 91 ∷ y) among good refl (space_lexes (at + length name) (105 ∷ 110 ∷ 32 ∷ 91 ∷ y) among inside) in
            let grouped = append_assoc name tail z ∙ ap (λ w. name ++ 32 ∷ 105 ∷ 110 ∷ 32 ∷ 91 ∷ w) (append_assoc list (93 ∷ []) z) in
            let fewer : length rest ≤ suc (suc (suc (length i.0))) = omega (arith, i.3) in (
              placed (token.Name name) at ∷ among,
              subst (λ w. Lexes at w (placed (token.Name name) at ∷ among)) (sym grouped) lexes,
              name_reads end d name at among o h ∙ one_of_reads end at a1 a2 o fs i.0 rest i.2,
              fewer,
            )),
        begins_append name tail (begins.0, begins.2),
      )

  -- ---- more signs to open

  abbrev Extends : Reader Filter → Reader Filter → Type 0
  Extends read other = (ts : Tokens) (r : Filter × Tokens) → read ts ≡ Ok r → other ts ≡ Ok r

  then_extends : {A B : Type 0} (o p : Result A FilterError) (go next : A → Result B FilterError) (r : B) → ((a : A) → o ≡ Ok a → p ≡ Ok a) → ((a : A) → go a ≡ Ok r → next a ≡ Ok r) → and_then o go ≡ Ok r → and_then p next ≡ Ok r
  then_extends o p go next r f g h = let x = then_ok o go r h in ap (λ q. and_then q next) (f x.0 x.1) ∙ g x.0 x.2

  if_extends : (b : Bool) (o p other : Outcome (List Filter)) (r : List Filter × Tokens) → (o ≡ Ok r → p ≡ Ok r) → cond b o other ≡ Ok r → cond b p other ≡ Ok r
  if_extends true o p other r f h = f h
  if_extends false o p other r f h = h

  more_extends : (end : ℕ) (sign : Sign) (read other : Reader Filter) → Extends read other → (n : ℕ) (found : List Filter) (ts : Tokens) (r : List Filter × Tokens) → more end sign read n found ts ≡ Ok r → more end sign other n found ts ≡ Ok r
  unfolding more
  more_extends end sign read other x zero found ts r h = h
  more_extends end sign read other x (suc n) found ts r h =
      if_extends (sees sign ts) (and_then (read (drop 1 ts)) (λ p. more end sign read n (found ++ p.0 ∷ []) p.1)) (and_then (other (drop 1 ts)) (λ p. more end sign other n (found ++ p.0 ∷ []) p.1)) (Ok (found, ts)) r
      (then_extends (read (drop 1 ts)) (other (drop 1 ts)) (λ p. more end sign read n (found ++ p.0 ∷ []) p.1) (λ p. more end sign other n (found ++ p.0 ∷ []) p.1) r (x (drop 1 ts)) (λ p. more_extends end sign read other x n (found ++ p.0 ∷ []) p.1 r)) h

  joined_extends : (end : ℕ) (sign : Sign) (read other : Reader Filter) → Extends read other → (ts : Tokens) (r : List Filter × Tokens) → joined end sign read ts ≡ Ok r → joined end sign other ts ≡ Ok r
  unfolding joined
  joined_extends end sign read other x ts r h =
      then_extends (read ts) (other ts) (λ p. more end sign read (length p.1) (p.0 ∷ []) p.1) (λ p. more end sign other (length p.1) (p.0 ∷ []) p.1) r (x ts) (λ p. more_extends end sign read other x (length p.1) (p.0 ∷ []) p.1 r) h

  all_extends : (end : ℕ) (read other : Reader Filter) → Extends read other → Extends (all end read) (all end other)
  unfolding all
  all_extends end read other x ts r h = then_extends (joined end And read ts) (joined end And other ts) (λ p. Ok (all_of p.0, p.1)) (λ p. Ok (all_of p.0, p.1)) r (joined_extends end And read other x ts) (λ p same. same) h

  any_extends : (end : ℕ) (read other : Reader Filter) → Extends read other → Extends (any end read) (any end other)
  unfolding any
  any_extends end read other x ts r h =
      then_extends (joined end Or (all end read) ts) (joined end Or (all end other) ts) (λ p. Ok (any_of p.0, p.1)) (λ p. Ok (any_of p.0, p.1)) r (joined_extends end Or (all end read) (all end other) (all_extends end read other x) ts) (λ p same. same) h

  negated_extends : (end : ℕ) (read other : Reader Filter) → Extends read other → (at : ℕ) → Extends (negated end read at) (negated end other at)
  unfolding negated
  negated_extends end read other x at ts r h = then_extends (read ts) (other ts) (λ p. Ok (e.Not p.0, p.1)) (λ p. Ok (e.Not p.0, p.1)) r (x ts) (λ p same. same) h

  bracketed_extends : (end : ℕ) (read other : Reader Filter) → Extends read other → (at : ℕ) → Extends (bracketed end read at) (bracketed end other at)
  unfolding bracketed
  bracketed_extends end read other x at ts r h =
      then_extends (any end read ts) (any end other ts) (λ p. and_then (expect end Close p.1) (λ q. Ok (p.0, q.1))) (λ p. and_then (expect end Close p.1) (λ q. Ok (p.0, q.1))) r (any_extends end read other x ts) (λ p same. same) h

  too_deep_extends : (end at : ℕ) (other : Reader Filter) → Extends (too_deep end at) other
  too_deep_extends end at other ts r h = let bad : ⊥ = cc in absurd bad

  sign_extends : (a b : Bool) (n n2 k k2 error : Reader Filter) → Extends n n2 → Extends k k2 → Extends (cond {A = Reader Filter} a n (cond b k error)) (cond {A = Reader Filter} a n2 (cond b k2 error))
  sign_extends true b n n2 k k2 error x y = x
  sign_extends false true n n2 k k2 error x y = y
  sign_extends false false n n2 k k2 error x y = λ ts r h. h

  begun_extends : (end : ℕ) (n n2 k k2 : ℕ → Reader Filter) → ((at : ℕ) → Extends (n at) (n2 at)) → ((at : ℕ) → Extends (k at) (k2 at)) → (at : ℕ) (t : Token) (name : Option (List ℕ)) → Extends (begun_by end columns n k at t name) (begun_by end columns n2 k2 at t name)
  begun_extends end n n2 k k2 x y at t (Some name) = λ ts r h. h
  begun_extends end n n2 k k2 x y at t None = sign_extends (is_sign Not t) (is_sign Open t) (n at) (n2 at) (k at) (k2 at) (λ ts. Err (Expected at)) (x at) (y at)

  one_by_extends : (end : ℕ) (n n2 k k2 : ℕ → Reader Filter) → ((at : ℕ) → Extends (n at) (n2 at)) → ((at : ℕ) → Extends (k at) (k2 at)) → Extends (one_by end columns n k) (one_by end columns n2 k2)
  unfolding one_by
  one_by_extends end n n2 k k2 x y [] r h = h
  one_by_extends end n n2 k k2 x y (t ∷ ts) r h = begun_extends end n n2 k k2 x y t.at t.token (name_in t.token) ts r h

  one_extends : (end d : ℕ) → Extends (one end columns d) (one end columns (suc d))
  unfolding one
  one_extends end zero = one_by_extends end (too_deep end) (negated end (one end columns zero)) (too_deep end) (bracketed end (one end columns zero))
      (λ at. too_deep_extends end at (negated end (one end columns zero) at)) (λ at. too_deep_extends end at (bracketed end (one end columns zero) at))
  one_extends end (suc d) = one_by_extends end (negated end (one end columns d)) (negated end (one end columns (suc d))) (bracketed end (one end columns d)) (bracketed end (one end columns (suc d)))
      (negated_extends end (one end columns d) (one end columns (suc d)) (one_extends end d)) (bracketed_extends end (one end columns d) (one end columns (suc d)) (one_extends end d))

  reads_extends : (end : ℕ) (l : Level) (d : ℕ) → Extends (reads end l d) (reads end l (suc d))
  reads_extends end level.One d = one_extends end d
  reads_extends end level.All d = all_extends end (one end columns d) (one end columns (suc d)) (one_extends end d)
  reads_extends end level.Any d = any_extends end (one end columns d) (one end columns (suc d)) (one_extends end d)

  again_more : (k : ℕ) (f : Filter) → Again k f → Again (suc k) f
  again_more k f h =
      ((λ end at z rest l b s. let p = h.0 end at z rest l b s in (p.0, p.1, reads_extends end (written columns f).0 k p.0 (f, rest) p.2, p.3)), h.1)

  -- ---- from one level to another

  widen_all : (l : Level) (d : ℕ) (f : Filter) → Deeper (is_below l level.One) d f → Deeper (is_below l level.All) d f
  widen_all level.Any d f h = h
  widen_all level.All d f h = subst (λ n. Again n f) (sym h.1) (again_more h.0 f h.2)
  widen_all level.One d f h = h

  widen_any : (l : Level) (d : ℕ) (f : Filter) → Deeper (is_below l level.All) d f → Deeper (is_below l level.Any) d f
  widen_any level.Any d f h = subst (λ n. Again n f) (sym h.1) (again_more h.0 f h.2)
  widen_any level.All d f h = h
  widen_any level.One d f h = h

  enclose : (l : Level) (k : ℕ) (f : Filter) → Deeper (is_below l level.Any) k f → Deeper (is_below l level.One) (suc k) f
  enclose level.Any k f h = (k, refl, h)
  enclose level.All k f h = (k, refl, h)
  enclose level.One k f h = again_more k f h

  at_level : (least l : Level) (d : ℕ) (f : Filter) → (written columns f).0 ≡ l → is_below l least ≡ false → Again d f → Within least d f
  at_level least l d f same high h = subst (λ b. Deeper b d f) (sym (ap (λ l. is_below l least) same ∙ high)) h

  -- ---- what reading gives

  abbrev AllWithin : Level → ℕ → List Filter → Type 0
  AllWithin least d [] = Unit {0}
  AllWithin least d (m ∷ ms) = Within least d m × AllWithin least d ms

  parts_of : (least : Level) (d : ℕ) (ms : List Filter) → AllWithin least d ms → AllPart least d ms
  parts_of least d [] h = tt
  parts_of least d (m ∷ ms) h = (part_of least d m h.0, parts_of least d ms h.1)

  within_append : (least : Level) (d : ℕ) (ms : List Filter) (m : Filter) → AllWithin least d ms → Within least d m → AllWithin least d (ms ++ m ∷ [])
  within_append least d [] m h i = (i, tt)
  within_append least d (x ∷ ms) m h i = (h.0, within_append least d ms m h.1 i)

  some_append : (ms : List Filter) (m : Filter) → 1 ≤ length (ms ++ m ∷ [])
  some_append [] m = omega arith
  some_append (x ∷ ms) m = omega arith

  all_within : (d : ℕ) (ms : List Filter) → AllWithin level.One d ms → 1 ≤ length ms → Within level.All d (all_of ms)
  unfolding all_of
  all_within d [] h n = absurd (omega arith)
  all_within d (only ∷ []) h n = widen_all (written columns only).0 d only h.0
  all_within d (a ∷ b ∷ ms) h n = at_level level.All level.All d (e.All (a ∷ b ∷ ms)) (ap (λ w. w.0) (written_all (a ∷ b ∷ ms))) refl (again_all d a b ms (parts_of level.One d (a ∷ b ∷ ms) h))

  any_within : (d : ℕ) (ms : List Filter) → AllWithin level.All d ms → 1 ≤ length ms → Within level.Any d (any_of ms)
  unfolding any_of
  any_within d [] h n = absurd (omega arith)
  any_within d (only ∷ []) h n = widen_any (written columns only).0 d only h.0
  any_within d (a ∷ b ∷ ms) h n = at_level level.Any level.Any d (e.Any (a ∷ b ∷ ms)) (ap (λ w. w.0) (written_any (a ∷ b ∷ ms))) refl (again_any d a b ms (parts_of level.All d (a ∷ b ∷ ms) h))

  -- a reader gives filters that are read again, and leaves good tokens
  abbrev Gives : Level → ℕ → Reader Filter → Type 0
  Gives least d read = (ts : Tokens) (r : Filter × Tokens) → AllGood ts → read ts ≡ Ok r → Within least d r.0 × AllGood r.1

  abbrev Listed : Level → ℕ → List Filter × Tokens → Type 0
  Listed least d r = AllWithin least d r.0 × (1 ≤ length r.0) × AllGood r.1

  good_rest : (ts : Tokens) → AllGood ts → AllGood (drop 1 ts)
  good_rest [] h = tt
  good_rest (t ∷ ts) h = h.1

  more_by : (b : Bool) (least : Level) (d : ℕ) (found : List Filter) (ts : Tokens) (r : List Filter × Tokens) (o : Outcome Filter) (go : Filter × Tokens → Outcome (List Filter))
      → ((p : Filter × Tokens) → o ≡ Ok p → go p ≡ Ok r → Listed least d r) → Listed least d (found, ts) → cond {A = Outcome (List Filter)} b (and_then o go) (Ok (found, ts)) ≡ Ok r → Listed least d r
  more_by true least d found ts r o go next h is = let p = then_ok o go r is in next p.0 p.1 p.2
  more_by false least d found ts r o go next h is = subst (Listed least d) (ok_same (found, ts) r is) h

  more_gives : (end : ℕ) (sign : Sign) (member : Reader Filter) (least : Level) (d : ℕ) → Gives least d member → (n : ℕ) (found : List Filter) (ts : Tokens) (r : List Filter × Tokens) → Listed least d (found, ts) → more end sign member n found ts ≡ Ok r → Listed least d r
  unfolding more
  more_gives end sign member least d gives zero found ts r h is = subst (Listed least d) (ok_same (found, ts) r is) h
  more_gives end sign member least d gives (suc n) found ts r h is =
      more_by (sees sign ts) least d found ts r (member (drop 1 ts)) (λ p. more end sign member n (found ++ p.0 ∷ []) p.1)
      (λ p read goes. let g = gives (drop 1 ts) p (good_rest ts h.2) read in
      more_gives end sign member least d gives n (found ++ p.0 ∷ []) p.1 r (within_append least d found p.0 h.0 g.0, some_append found p.0, g.1) goes) h is

  joined_gives : (end : ℕ) (sign : Sign) (member : Reader Filter) (least : Level) (d : ℕ) → Gives least d member → (ts : Tokens) (r : List Filter × Tokens) → AllGood ts → joined end sign member ts ≡ Ok r → Listed least d r
  unfolding joined
  joined_gives end sign member least d gives ts r good is =
      let p = then_ok (member ts) (λ p. more end sign member (length p.1) (p.0 ∷ []) p.1) r is in
      let g = gives ts p.0 good p.1 in
      more_gives end sign member least d gives (length p.0.1) (p.0.0 ∷ []) p.0.1 r ((g.0, tt), omega arith, g.1) p.2

  all_gives : (end d : ℕ) (member : Reader Filter) → Gives level.One d member → Gives level.All d (all end member)
  unfolding all
  all_gives end d member gives ts r good is =
      let p = then_ok (joined end And member ts) (λ p. Ok (all_of p.0, p.1)) r is in
      let ms = joined_gives end And member level.One d gives ts p.0 good p.1 in
      subst (λ (x : Filter × Tokens). Within level.All d x.0 × AllGood x.1) (ok_same (all_of p.0.0, p.0.1) r p.2) (all_within d p.0.0 ms.0 ms.1, ms.2)

  any_gives : (end d : ℕ) (member : Reader Filter) → Gives level.One d member → Gives level.Any d (any end member)
  unfolding any
  any_gives end d member gives ts r good is =
      let p = then_ok (joined end Or (all end member) ts) (λ p. Ok (any_of p.0, p.1)) r is in
      let ms = joined_gives end Or (all end member) level.All d (all_gives end d member gives) ts p.0 good p.1 in
      subst (λ (x : Filter × Tokens). Within level.Any d x.0 × AllGood x.1) (ok_same (any_of p.0.0, p.0.1) r p.2) (any_within d p.0.0 ms.0 ms.1, ms.2)

  expect_good : (end : ℕ) (sign : Sign) (ts : Tokens) (r : Unit {0} × Tokens) → AllGood ts → expect end sign ts ≡ Ok r → AllGood r.1
  unfolding expect
  expect_good end sign ts r good is =
      let p = guard_ok (sees sign ts) (Ok (tt, drop 1 ts)) r (Expected (place end ts)) is in
      subst (λ (x : Unit {0} × Tokens). AllGood x.1) (ok_same (tt, drop 1 ts) r p.1) (good_rest ts good)

  literal_token : (end : ℕ) (k : Kind) (at : ℕ) (t : Token) (f : Field) → IsGood t → literal_of end k at t ≡ Ok f → IsSpelled f × (is_kind k f ≡ true)
  literal_token end k at (token.Literal g) f good h = let p = guard_ok (is_kind k g) (Ok g) f (KindMismatch at) h in subst (λ x. IsSpelled x × (is_kind k x ≡ true)) (ok_same g f p.1) (good, p.0)
  literal_token end k at (token.Name name) f good h = let bad : ⊥ = cc in absurd bad
  literal_token end k at (token.Compare op) f good h = let bad : ⊥ = cc in absurd bad
  literal_token end k at (token.Sign s) f good h = let bad : ⊥ = cc in absurd bad

  literal_good : (end : ℕ) (k : Kind) (ts : Tokens) (r : Field × Tokens) → AllGood ts → literal end k ts ≡ Ok r → (IsSpelled r.0 × (is_kind k r.0 ≡ true)) × AllGood r.1
  unfolding literal
  literal_good end k [] r good h = let bad : ⊥ = cc in absurd bad
  literal_good end k (t ∷ ts) r good h =
      let p = then_ok (literal_of end k t.at t.token) (λ f. Ok (f, ts)) r h in
      subst (λ (x : Field × Tokens). (IsSpelled x.0 × (is_kind k x.0 ≡ true)) × AllGood x.1) (ok_same (p.0, ts) r p.2) (literal_token end k t.at t.token p.0 good.0 p.1, good.1)

  choice_append : (k : Kind) (fs : List Field) (f : Field) → AllChoices k fs → IsSpelled f × (is_kind k f ≡ true) → AllChoices k (fs ++ f ∷ [])
  choice_append k [] f h i = (i, tt)
  choice_append k (g ∷ fs) f h i = (h.0, choice_append k fs f h.1 i)

  abbrev Chosen : Kind → List Field × Tokens → Type 0
  Chosen k r = AllChoices k r.0 × AllGood r.1

  mutual
    chosen_from : (end : ℕ) (k : Kind) (found : List Field) (ts : Tokens) (r : List Field × Tokens) → AllChoices k found → AllGood ts → choices_from end k found ts ≡ Ok r → Chosen k r
    chosen_from end k found [] r h good is = let bad : ⊥ = cc in absurd bad
    chosen_from end k found (t ∷ ts) r h good is =
        let p = then_ok (literal_of end k t.at t.token) (λ f. choices_after end k (found ++ f ∷ []) ts) r is in
        chosen_after end k (found ++ p.0 ∷ []) ts r (choice_append k found p.0 h (literal_token end k t.at t.token p.0 good.0 p.1)) good.1 p.2

    chosen_after : (end : ℕ) (k : Kind) (found : List Field) (ts : Tokens) (r : List Field × Tokens) → AllChoices k found → AllGood ts → choices_after end k found ts ≡ Ok r → Chosen k r
    chosen_after end k found [] r h good is = let bad : ⊥ = cc in absurd bad
    chosen_after end k found (t ∷ ts) r h good is =
        elim (either_ok (is_sign Comma t.token) (choices_from end k found ts) (cond {A = Outcome (List Field)} (is_sign ListClose t.token) (Ok (found, ts)) (Err (Expected t.at))) r is) [
          | inl next ↦ chosen_from end k found ts r h good.1 next
          | inr last ↦ subst (Chosen k) (ok_same (found, ts) r (guard_ok (is_sign ListClose t.token) (Ok (found, ts)) r (Expected t.at) last).1) (h, good.1)
        ]

  choices_good : (end : ℕ) (k : Kind) (ts : Tokens) (r : List Field × Tokens) → AllGood ts → choices end k ts ≡ Ok r → Chosen k r
  unfolding choices
  choices_good end k ts r good is = elim (either_ok (sees ListClose ts) (Ok ([], drop 1 ts)) (choices_from end k [] ts) r is) [
    | inl none ↦ subst (Chosen k) (ok_same ([], drop 1 ts) r none) (tt, good_rest ts good)
    | inr some ↦ chosen_from end k [] ts r tt good some
  ]

  abbrev Read : ℕ → Filter × Tokens → Type 0
  Read d r = Within level.One d r.0 × AllGood r.1

  alone_gives : (end at d : ℕ) (name : List ℕ) (o : Operand × Kind) → IsGood (token.Name name) → operand_of columns name ≡ Some o → (ts : Tokens) (r : Filter × Tokens) → AllGood ts → alone end at o ts ≡ Ok r → Read d r
  unfolding alone
  alone_gives end at d name o named h ts r good is =
      let p = guard_ok (is_kind o.1 (field.Bool true)) (Ok (e.Truth o.0, ts)) r (KindMismatch at) is in
      subst (Read d) (ok_same (e.Truth o.0, ts) r p.1)
      (at_level level.One level.One d (e.Truth o.0) (ap (λ w. w.0) (written_truth o.0)) refl (again_truth d name o named h p.0), good)

  compared_gives : (end d : ℕ) (name : List ℕ) (o : Operand × Kind) (p : CompareOp × ℕ) → IsGood (token.Name name) → operand_of columns name ≡ Some o → (ts : Tokens) (r : Filter × Tokens) → AllGood ts → compared end o p ts ≡ Ok r → Read d r
  unfolding compared
  compared_gives end d name o p named h ts r good is =
      let g = guard_ok (takes p.0 o.1) (and_then (literal end o.1 ts) (λ q. Ok (e.Compare o.0 p.0 q.0, q.1))) r (KindMismatch p.1) is in
      let q = then_ok (literal end o.1 ts) (λ q. Ok (e.Compare o.0 p.0 q.0, q.1)) r g.1 in
      let right = literal_good end o.1 ts q.0 good q.1 in
      subst (Read d) (ok_same (e.Compare o.0 p.0 q.0.0, q.0.1) r q.2)
      (at_level level.One level.One d (e.Compare o.0 p.0 q.0.0) (ap (λ w. w.0) (written_compare o.0 p.0 q.0.0)) refl (again_compare d name o p.0 q.0.0 named h g.0 right.0.1 right.0.0), right.1)

  one_of_gives : (end d : ℕ) (name : List ℕ) (o : Operand × Kind) → IsGood (token.Name name) → operand_of columns name ≡ Some o → (ts : Tokens) (r : Filter × Tokens) → AllGood ts → one_of end o ts ≡ Ok r → Read d r
  unfolding one_of
  one_of_gives end d name o named h ts r good is =
      let p = then_ok (expect end ListOpen ts) (λ p. and_then (choices end o.1 p.1) (λ q. Ok (e.OneOf o.0 q.0, q.1))) r is in
      let q = then_ok (choices end o.1 p.0.1) (λ q. Ok (e.OneOf o.0 q.0, q.1)) r p.2 in
      let c = choices_good end o.1 p.0.1 q.0 (expect_good end ListOpen ts p.0 good p.1) q.1 in
      subst (Read d) (ok_same (e.OneOf o.0 q.0.0, q.0.1) r q.2)
      (at_level level.One level.One d (e.OneOf o.0 q.0.0) (ap (λ w. w.0) (written_one_of o.0 q.0.0)) refl (again_one_of d name o q.0.0 named h c.0), c.1)

  named_by_gives : (end at d : ℕ) (name : List ℕ) (o : Operand × Kind) → IsGood (token.Name name) → operand_of columns name ≡ Some o → (p : Option (CompareOp × ℕ)) (ts : Tokens) (r : Filter × Tokens) → AllGood ts → named_by end at o p ts ≡ Ok r → Read d r
  named_by_gives end at d name o named h (Some p) ts r good is = compared_gives end d name o p named h (drop 1 ts) r (good_rest ts good) is
  named_by_gives end at d name o named h None ts r good is = elim (either_ok (sees In ts) (one_of end o (drop 1 ts)) (alone end at o ts) r is) [
    | inl among ↦ one_of_gives end d name o named h (drop 1 ts) r (good_rest ts good) among
    | inr other ↦ alone_gives end at d name o named h ts r good other
  ]

  named_at_gives : (end at d : ℕ) (name : List ℕ) → IsGood (token.Name name) → (x : Option (Operand × Kind)) → operand_of columns name ≡ x → (ts : Tokens) (r : Filter × Tokens) → AllGood ts → named_at end at x ts ≡ Ok r → Read d r
  named_at_gives end at d name named None same ts r good is = let bad : ⊥ = cc in absurd bad
  named_at_gives end at d name named (Some o) same ts r good is = named_by_gives end at d name o named same (operator_ahead ts) ts r good is

  named_gives : (end at d : ℕ) (name : List ℕ) → IsGood (token.Name name) → (ts : Tokens) (r : Filter × Tokens) → AllGood ts → named end columns name at ts ≡ Ok r → Read d r
  unfolding named
  named_gives end at d name good_name ts r good is = named_at_gives end at d name good_name (operand_of columns name) refl ts r good is

  negated_gives : (end k : ℕ) → Gives level.One k (one end columns k) → (at : ℕ) → Gives level.One (suc k) (negated end (one end columns k) at)
  unfolding negated
  negated_gives end k gives at ts r good is =
      let p = then_ok (one end columns k ts) (λ p. Ok (e.Not p.0, p.1)) r is in
      let g = gives ts p.0 good p.1 in
      subst (Read (suc k)) (ok_same (e.Not p.0.0, p.0.1) r p.2)
      (at_level level.One level.One (suc k) (e.Not p.0.0) (ap (λ w. w.0) (written_not p.0.0)) refl (again_not k p.0.0 (part_of level.One k p.0.0 g.0)), g.1)

  bracketed_gives : (end k : ℕ) → Gives level.One k (one end columns k) → (at : ℕ) → Gives level.One (suc k) (bracketed end (one end columns k) at)
  unfolding bracketed
  bracketed_gives end k gives at ts r good is =
      let p = then_ok (any end (one end columns k) ts) (λ p. and_then (expect end Close p.1) (λ q. Ok (p.0, q.1))) r is in
      let q = then_ok (expect end Close p.0.1) (λ q. Ok (p.0.0, q.1)) r p.2 in
      let g = any_gives end k (one end columns k) gives ts p.0 good p.1 in
      subst (Read (suc k)) (ok_same (p.0.0, q.0.1) r q.2)
      (enclose (written columns p.0.0).0 k p.0.0 g.0, expect_good end Close p.0.1 q.0 g.1 q.1)

  too_deep_gives : (end d at : ℕ) → Gives level.One d (too_deep end at)
  too_deep_gives end d at ts r good is = let bad : ⊥ = cc in absurd bad

  sign_gives : (d : ℕ) (a b : Bool) (n k : Reader Filter) (error : FilterError) → Gives level.One d n → Gives level.One d k → (ts : Tokens) (r : Filter × Tokens) → AllGood ts
      → cond {A = Reader Filter} a n (cond b k (λ ts. Err error)) ts ≡ Ok r → Read d r
  sign_gives d true b n k error x y ts r good is = x ts r good is
  sign_gives d false true n k error x y ts r good is = y ts r good is
  sign_gives d false false n k error x y ts r good is = let bad : ⊥ = cc in absurd bad

  begun_gives : (end d : ℕ) (n k : ℕ → Reader Filter) → ((at : ℕ) → Gives level.One d (n at)) → ((at : ℕ) → Gives level.One d (k at)) → (at : ℕ) (t : Token) → IsGood t → (ts : Tokens) (r : Filter × Tokens) → AllGood ts
      → begun_by end columns n k at t (name_in t) ts ≡ Ok r → Read d r
  begun_gives end d n k x y at (token.Name name) good_name ts r good is = named_gives end at d name good_name ts r good is
  begun_gives end d n k x y at (token.Literal f) good_name ts r good is = sign_gives d (is_sign Not (token.Literal f)) (is_sign Open (token.Literal f)) (n at) (k at) (Expected at) (x at) (y at) ts r good is
  begun_gives end d n k x y at (token.Compare op) good_name ts r good is = sign_gives d (is_sign Not (token.Compare op)) (is_sign Open (token.Compare op)) (n at) (k at) (Expected at) (x at) (y at) ts r good is
  begun_gives end d n k x y at (token.Sign s) good_name ts r good is = sign_gives d (is_sign Not (token.Sign s)) (is_sign Open (token.Sign s)) (n at) (k at) (Expected at) (x at) (y at) ts r good is

  one_by_gives : (end d : ℕ) (n k : ℕ → Reader Filter) → ((at : ℕ) → Gives level.One d (n at)) → ((at : ℕ) → Gives level.One d (k at)) → Gives level.One d (one_by end columns n k)
  unfolding one_by
  one_by_gives end d n k x y [] r good is = let bad : ⊥ = cc in absurd bad
  one_by_gives end d n k x y (t ∷ ts) r good is = begun_gives end d n k x y t.at t.token good.0 ts r good.1 is

  one_gives : (end d : ℕ) → Gives level.One d (one end columns d)
  unfolding one
  one_gives end zero = one_by_gives end zero (too_deep end) (too_deep end) (too_deep_gives end zero) (too_deep_gives end zero)
  one_gives end (suc d) = one_by_gives end (suc d) (negated end (one end columns d)) (bracketed end (one end columns d)) (negated_gives end d (one_gives end d)) (bracketed_gives end d (one_gives end d))

  whole_is : (filter : Filter) (ts : Tokens) (f : Filter) → whole filter ts ≡ Ok f → filter ≡ f
  whole_is filter [] f h = ok_same filter f h
  whole_is filter (t ∷ ts) f h = let bad : ⊥ = cc in absurd bad

  open_any : (l : Level) (d : ℕ) (f : Filter) → Deeper (is_below l level.Any) d f → Again d f
  open_any level.Any d f h = h
  open_any level.All d f h = h
  open_any level.One d f h = h

  text_again : (d : ℕ) (f : Filter) → Again d f → (end : ℕ) → (ts : Tokens) × Lexes 0 (text_of columns f) ts × (any end (one end columns d) ts ≡ Ok (f, []))
  text_again d f h end =
      let t = text_of columns f in
      let p = raise (written columns f).0 level.Any d f t (none_below_any (written columns f).0) h.0 end 0 [] [] refl refl ends in
      (p.0, subst (λ y. Lexes 0 y p.0) (append-nil t) p.1, p.2)

  -- a filter that some text spells is what its own text spells
  pub read_again : (text : List ℕ) (f : Filter) → filter_of columns text ≡ Ok f → filter_of columns (text_of columns f) ≡ Ok f
  unfolding filter_of tokens_of
  read_again text f h =
      let read = λ (end : ℕ). any end (one end columns most_open) in
      let p = then_ok (tokens_of text) (λ ts. and_then (read (length text) ts) (λ r. whole r.0 r.1)) f h in
      let q = then_ok (read (length text) p.0) (λ r. whole r.0 r.1) f p.2 in
      let g = any_gives (length text) most_open (one (length text) columns most_open) (one_gives (length text) most_open) p.0 q.0 (good_tokens text p.0 p.1) q.1 in
      let again = subst (Again most_open) (whole_is q.0.0 q.0.1 f q.2) (open_any (written columns q.0.0).0 most_open q.0.0 g.0) in
      let end = length (text_of columns f) in
      let t = text_again most_open f again end in
      ap (λ o. and_then {B = Filter} o (λ ts. and_then (read end ts) (λ r. whole r.0 r.1))) t.1 ∙ ap (λ o. and_then {B = Filter} o (λ r. whole r.0 r.1)) t.2
