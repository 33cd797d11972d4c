-- A field that is read is the field that was written, and what was written is read again.
use Rattle.std.proofs.Common.{◌≡◌, leb, ◌&&◌, ℕ, zero, suc, ◌+◌, ◌*◌, ◌^◌, ◌<◌, ◌≤◌, Bool, true, false, cond, ltb, eqb, List, [], ◌∷◌, ◌++◌, length, get_or, take, drop, Option, Some, None, Result, Ok, Err, refl, sym, ap, subst, ◌∙◌, append_assoc, arith, inl, inr}
use Rattle.std.specs.List.{flat_map, AllByRecursion}
use Rattle.std.specs.Int.{Width, w32, w64, byte_len, from_le_bytes, to_le_bytes}
use Rattle.std.proofs.lemmas.Bool.{cases_lt, ltb-false, ltb-true, lt-ltb, le-ltb, eqb-true}
use Rattle.std.proofs.lemmas.List.{take_at, drop_at, take-append-drop, length-append, length-take, get_or-drop, get_or-take, get_or_past, append-nil, nil_from_length}
use Rattle.std.proofs.lemmas.Nat.{le_bytes_4, le_bytes_8, from_le_bytes-to_le_bytes_4, from_le_bytes-to_le_bytes_8}
use Rattle.std.proofs.Math.Nat.{mul-zero}
use Rattle.std.specs.Str.{bytes_eq}
use Rattle.std.proofs.lemmas.Slice.Eq.{bytes_eq-Decides}
use Rattle.std.proofs.lemmas.Bool.Decides.{nat_tests}
use Rattle.byte_fields.specs.Unread.{Unread, all_of, end_of, past}
use Rattle.binlog_format.specs.declared.refusals.FormatKind.{FormatKind}
use Rattle.binlog_format.specs.declared.refusals.FormatKind.TheVariants.{Short, Extra, Magic, Range}
use Rattle.binlog_format.specs.declared.refusals.FormatError.{FormatError}
use Rattle.binlog_format.specs.declared.refusals.FormatError.TheVariants as errors
use Rattle.binlog_format.specs.Reading.{Fault, Item, go_on, ◌>>=◌, gives, whole, bytes, number, refuse_at, checked, unless, between, items, last, everything, Answers, IsReadAs}
use Rattle.binlog_format.specs.Fields.{InTurn, magic, segment_number, byte, run}

abbrev pub IsBytes : List ℕ → Type 0
IsBytes bs = (i : ℕ) → get_or bs i 0 < 256

IsBytes-drop : (n : ℕ) (bs : List ℕ) → IsBytes bs → IsBytes (drop n bs)
IsBytes-drop n bs h i = rw get_or-drop (h (n + i))

IsBytes-take : (n : ℕ) (bs : List ℕ) → IsBytes bs → IsBytes (take n bs)
IsBytes-take n bs h i =
    elim (cases_lt i n) [
      | inl lt ↦ rw (get_or-take n bs i 0 lt) (h i)
      | inr le ↦ rw (get_or_past (take n bs) i 0 (omega (arith, length-take n bs))) (omega arith)
    ]

and_left : (a b : Bool) → (a && b) ≡ true → a ≡ true
and_left true b h = refl
and_left false b h = h

and_right : (a b : Bool) → (a && b) ≡ true → b ≡ true
and_right true b h = h
and_right false b h = absurd cc

abbrev pub all_small : List ℕ → Bool
all_small [] = true
all_small (b ∷ bs) = ltb b 256 && all_small bs

-- bytes that are known
pub small_bytes : (bs : List ℕ) → all_small bs ≡ true → IsBytes bs
small_bytes [] h i = omega arith
small_bytes (b ∷ bs) h zero = ltb-true b 256 (and_left _ _ h)
small_bytes (b ∷ bs) h (suc i) = small_bytes bs (and_right _ _ h) i

-- what an item took from the front
pub record Takes (bs text rest : List ℕ) : Type 0 where
  pub parts : bs ≡ text ++ rest
  pub rest_fits : IsBytes rest

Takes-then : (a x b y c : List ℕ) → Takes a x b → Takes b y c → Takes a (x ++ y) c
Takes-then a x b y c p q = record { parts = p.parts ∙ ap (λ (t : List ℕ). x ++ t) q.parts ∙ sym (append_assoc x y c); rest_fits = q.rest_fits }

-- what is unread from a place on
abbrev pub from : ℕ → List ℕ → Unread
from place rest = record { place = place; rest = rest }

-- An item reads exactly the texts of the values that have P, each as its value.
pub record IsField {A : Type 0} (item : Item A) (text : A → List ℕ) (P : A → Type 0) : Type 0 where
  pub takes : (u : Unread) (x : A) (v : Unread) → IsBytes u.rest → item u ≡ Ok (x, v) → Takes u.rest (text x) v.rest × P x
  pub again : (x : A) → P x → (place : ℕ) (rest : List ℕ) → (q : ℕ) × (item (from place (text x ++ rest)) ≡ Ok (x, from q rest))

abbrev read_as : {A : Type 0} → A → Unread → Result (A × Unread) Fault
read_as x v = Ok (x, v)

abbrev done : {B : Type 0} → B → Result B Fault
done x = Ok x

done_is : {B : Type 0} (x y : B) → done x ≡ done y → x ≡ y
done_is x y e = cc

same_value : {A : Type 0} (x y : A) (u v : Unread) → read_as x u ≡ read_as y v → x ≡ y
same_value {A} x y u v e = ap (λ (p : A × Unread). p.0) (done_is (x, u) (y, v) e)

same_rest : {A : Type 0} (x y : A) (u v : Unread) → read_as x u ≡ read_as y v → u ≡ v
same_rest {A} x y u v e = ap (λ (p : A × Unread). p.1) (done_is (x, u) (y, v) e)

never : {A : Type 0} (x : A) (d : Fault) → done x ≡ Err d → ⊥
never x d e = cc

-- the value of a step that did not fail
bind_ok : {A B : Type 0} (r : Result (A × Unread) Fault) (f : A → Item B) (y : B) (w : Unread) → go_on r f ≡ Ok (y, w) → (x : A) × (v : Unread) × (r ≡ Ok (x, v)) × (f x v ≡ Ok (y, w))
bind_ok (Ok x) f y w e = (x.0, x.1, refl, e)
bind_ok (Err d) f y w e = absurd cc

-- a value that takes no bytes
pub gives_field : {A : Type 0} {P : A → Type 0} (x : A) → P x → ((y : A) → P y → x ≡ y) → IsField (gives x) (λ _. []) P
gives_field {A} {P} x has one = record {
  takes = λ u y v fits e. (record { parts = ap (λ (w : Unread). w.rest) (same_rest x y u v e); rest_fits = subst (λ (w : Unread). IsBytes w.rest) (same_rest x y u v e) fits }, subst P (same_value x y u v e) has);
  again = λ y h place rest. (place, ap (λ (z : A). read_as z (from place rest)) (one y h));
}

-- a field, and then the fields behind it, of one value
pub field_then : {A B : Type 0} {item : Item A} {text : A → List ℕ} {P : A → Type 0} {f : A → Item B} {others : B → List ℕ} {Q : B → Type 0} (part : B → A)
    → IsField item text P → ((x : A) → P x → IsField (f x) others (λ y. (part y ≡ x) × Q y)) → ((y : B) → Q y → P (part y))
    → IsField (item >>= f) (λ y. text (part y) ++ others y) Q
field_then {A} {B} {item} {text} {P} {f} {others} {Q} part one rest_of has = record {
  takes = λ u y w fits e.
      let b = bind_ok (item u) f y w e in
      let t = one.takes u b.0 b.1 fits b.2 in
      let s = (rest_of b.0 t.1).takes b.1 y w t.0.rest_fits b.3 in
      let both = Takes-then u.rest (text b.0) b.1.rest (others y) w.rest t.0 s.0 in
      (subst (λ (z : A). Takes u.rest (text z ++ others y) w.rest) (sym s.1.0) both, s.1.1);
  again = λ y h place rest.
      let p = has y h in
      let a = one.again (part y) p place (others y ++ rest) in
      let b = (rest_of (part y) p).again y (refl, h) a.0 rest in
      let regrouped : item (from place ((text (part y) ++ others y) ++ rest)) ≡ Ok (part y, from a.0 (others y ++ rest)) = ap (λ (bs : List ℕ). item (from place bs)) (append_assoc (text (part y)) (others y) rest) ∙ a.1 in
      (b.0, ap (λ (r : Result (A × Unread) Fault). go_on r f) regrouped ∙ b.1);
}

-- a field whose value is written in another form
pub field_as : {A B : Type 0} {item : Item A} {text : A → List ℕ} {P : A → Type 0} {Q : B → Type 0} (to : A → B) (back : B → A)
    → IsField item text P → ((x : A) → P x → (back (to x) ≡ x) × Q (to x)) → ((y : B) → Q y → P (back y) × (to (back y) ≡ y))
    → IsField (item >>= λ x. gives (to x)) (λ y. text (back y)) Q
field_as {A} {B} {item} {text} {P} {Q} to back one there here = record {
  takes = λ u y w fits e.
      let b = bind_ok (item u) (λ x. gives (to x)) y w e in
      let t = one.takes u b.0 b.1 fits b.2 in
      let h = there b.0 t.1 in
      let value = same_value (to b.0) y b.1 w b.3 in
      let rest = same_rest (to b.0) y b.1 w b.3 in
      let text_is : text b.0 ≡ text (back y) = ap text (sym h.0 ∙ ap back value) in
      (record { parts = t.0.parts ∙ ap (λ (s : List ℕ). s ++ b.1.rest) text_is ∙ ap (λ (v : Unread). text (back y) ++ v.rest) rest; rest_fits = subst (λ (v : Unread). IsBytes v.rest) rest t.0.rest_fits }, subst Q value h.1);
  again = λ y h place rest.
      let k = here y h in
      let a = one.again (back y) k.0 place rest in
      (a.0, ap (λ (r : Result (A × Unread) Fault). go_on r (λ x. gives (to x))) a.1 ∙ ap (λ (z : B). read_as z (from a.0 rest)) k.1);
}

-- the same field, said in other words
pub field_same : {A : Type 0} {item : Item A} {text : A → List ℕ} {P Q : A → Type 0} → IsField item text P → ((x : A) → P x → Q x) → ((x : A) → Q x → P x) → IsField item text Q
field_same one there here = record {
  takes = λ u x v fits e. let t = one.takes u x v fits e in (t.0, there x t.1);
  again = λ x h. one.again x (here x h);
}

-- the same field, with its text in other words
pub field_text : {A : Type 0} {item : Item A} {text other : A → List ℕ} {P : A → Type 0} → IsField item text P → ((x : A) → P x → text x ≡ other x) → IsField item other P
field_text {A} {item} {text} {other} one same = record {
  takes = λ u x v fits e. let t = one.takes u x v fits e in (subst (λ (bs : List ℕ). Takes u.rest bs v.rest) (same x t.1) t.0, t.1);
  again = λ x h place rest. subst (λ (bs : List ℕ). (q : ℕ) × (item (from place (bs ++ rest)) ≡ Ok (x, from q rest))) (same x h) (one.again x h place rest);
}

guard_ok : {A : Type 0} (b : Bool) (d : Fault) (r : Result A Fault) (y : A) → cond b (Err d) r ≡ Ok y → (b ≡ false) × (r ≡ Ok y)
guard_ok true d r y e = absurd cc
guard_ok false d r y e = (refl, e)

-- a field of which n bytes have to be there
pub whole_field : {A : Type 0} {item : Item A} {text : A → List ℕ} {P : A → Type 0} (n : ℕ) → IsField item text P → ((x : A) → P x → n ≤ length (text x)) → IsField (whole n item) text P
whole_field {A} {item} {text} {P} n one long = record {
  takes = λ u x v fits e. one.takes u x v fits (guard_ok (ltb (length u.rest) n) (record { at = end_of u; kind = Short }) (item u) (x, v) e).1;
  again = λ x h place rest.
      let a = one.again x h place rest in
      let enough : ltb (length (text x ++ rest)) n ≡ false = le-ltb _ _ (omega (arith, length-append (text x) rest, long x h)) in
      (a.0, rw enough a.1);
}

allowed : (kind : FormatKind) (b : Bool) → cond b None (Some kind) ≡ None → b ≡ true
allowed kind true e = refl
allowed kind false e = absurd cc

passes : (kind : FormatKind) (b : Bool) → b ≡ true → cond b None (Some kind) ≡ None
passes kind b h = rw h refl

-- a field that a rule may refuse
passed : {A : Type 0} (place : ℕ) (o : Option FormatKind) (x y : A) (u v : Unread) → refuse_at place o x u ≡ Ok (y, v) → (o ≡ None) × (x ≡ y) × (u ≡ v)
passed place None x y u v e = (refl, same_value x y u v e, same_rest x y u v e)
passed place (Some kind) x y u v e = absurd cc

pub checked_field : {A : Type 0} {item : Item A} {text : A → List ℕ} {P : A → Type 0} (rule : A → Option FormatKind) → IsField item text P → IsField (checked item rule) text (λ x. P x × (rule x ≡ None))
checked_field {A} {item} {text} {P} rule one = record {
  takes = λ u x v fits e.
      let b = bind_ok (item u) (λ z. refuse_at u.place (rule z) z) x v e in
      let p = passed u.place (rule b.0) b.0 x b.1 v b.3 in
      let t = one.takes u b.0 b.1 fits b.2 in
      subst (λ (w : Unread). Takes u.rest (text x) w.rest × (P x × (rule x ≡ None))) p.2 (subst (λ (z : A). Takes u.rest (text z) b.1.rest × (P z × (rule z ≡ None))) p.1 (t.0, (t.1, p.0)));
  again = λ x h place rest.
      let a = one.again x h.0 place rest in
      (a.0, rw (a.1, h.1) refl);
}

-- a field whose value a rule may refuse at the place behind it
pub accepted_field : {A : Type 0} {item : Item A} {text : A → List ℕ} {P : A → Type 0} (kind : FormatKind) (test : A → Bool) → IsField item text P → IsField (item >>= λ x. checked (gives x) (unless kind test)) text (λ x. P x × (test x ≡ true))
accepted_field {A} {item} {text} {P} kind test one = record {
  takes = λ u x v fits e.
      let b = bind_ok (item u) (λ z. checked (gives z) (unless kind test)) x v e in
      let p = passed b.1.place (unless kind test b.0) b.0 x b.1 v b.3 in
      let t = one.takes u b.0 b.1 fits b.2 in
      subst (λ (w : Unread). Takes u.rest (text x) w.rest × (P x × (test x ≡ true))) p.2 (subst (λ (z : A). Takes u.rest (text z) b.1.rest × (P z × (test z ≡ true))) p.1 (t.0, (t.1, allowed kind (test b.0) p.0)));
  again = λ x h place rest.
      let a = one.again x h.0 place rest in
      (a.0, rw (a.1, h.1) refl);
}

-- ---- bytes and numbers

pub bytes_field : (n : ℕ) → IsField (bytes n) (λ bs. bs) (λ bs. (length bs ≡ n) × IsBytes bs)
bytes_field n = record {
  takes = λ u x v fits e.
      let g = guard_ok (ltb (length u.rest) n) (record { at = end_of u; kind = Short }) (Ok (take n u.rest, past n u)) (x, v) e in
      let enough : n ≤ length u.rest = ltb-false _ _ g.0 in
      let value = same_value (take n u.rest) x (past n u) v g.1 in
      let rest = same_rest (take n u.rest) x (past n u) v g.1 in
      let whole_is : Takes u.rest (take n u.rest) (drop n u.rest) = record { parts = sym (take-append-drop n u.rest); rest_fits = IsBytes-drop n u.rest fits } in
      let len : length (take n u.rest) ≡ n = omega (arith, length-take n u.rest) in
      subst (λ (w : Unread). Takes u.rest x w.rest × ((length x ≡ n) × IsBytes x)) rest (subst (λ (z : List ℕ). Takes u.rest z (drop n u.rest) × ((length z ≡ n) × IsBytes z)) value (whole_is, (len, IsBytes-take n u.rest fits)));
  again = λ x h place rest.
      let enough : ltb (length (x ++ rest)) n ≡ false = le-ltb _ _ (omega (arith, length-append x rest, h.0)) in
      (place + n, rw (enough, take_at x rest n h.0, drop_at x rest n h.0) refl);
}

pub record IsWide (w : Width) (limit : ℕ) : Type 0 where
  pub len : (n : ℕ) → length (to_le_bytes w n) ≡ byte_len w
  pub back : (bs : List ℕ) → length bs ≡ byte_len w → IsBytes bs → to_le_bytes w (from_le_bytes w bs) ≡ bs
  pub again : (n : ℕ) → n < limit → from_le_bytes w (to_le_bytes w n) ≡ n
  pub below : (bs : List ℕ) → IsBytes bs → from_le_bytes w bs < limit

pub wide32 : IsWide w32 (2 ^ 32)
wide32 = record {
  len = λ n. refl;
  back = λ bs len fits. le_bytes_4 bs _ len fits refl;
  again = λ n lt. from_le_bytes-to_le_bytes_4 n lt;
  below = λ bs fits. omega (arith, fits 0, fits 1, fits 2, fits 3);
}

pub wide64 : IsWide w64 (2 ^ 64)
wide64 = record {
  len = λ n. refl;
  back = λ bs len fits. le_bytes_8 bs _ len fits refl;
  again = λ n lt. from_le_bytes-to_le_bytes_8 n lt;
  below = λ bs fits. omega (arith, fits 0, fits 1, fits 2, fits 3, fits 4, fits 5, fits 6, fits 7);
}

pub number_field : (w : Width) (limit : ℕ) → IsWide w limit → IsField (number w) (to_le_bytes w) (λ n. n < limit)
number_field w limit wide = record {
  takes = λ u x v fits e.
      let n = byte_len w in
      let g = guard_ok (ltb (length u.rest) n) (record { at = end_of u; kind = Short }) (Ok (from_le_bytes w (take n u.rest), past n u)) (x, v) e in
      let enough : n ≤ length u.rest = ltb-false _ _ g.0 in
      let value = same_value (from_le_bytes w (take n u.rest)) x (past n u) v g.1 in
      let rest = same_rest (from_le_bytes w (take n u.rest)) x (past n u) v g.1 in
      let front_fits = IsBytes-take n u.rest fits in
      let len : length (take n u.rest) ≡ n = omega (arith, length-take n u.rest) in
      let front : to_le_bytes w (from_le_bytes w (take n u.rest)) ≡ take n u.rest = wide.back (take n u.rest) len front_fits in
      let whole_is : Takes u.rest (to_le_bytes w (from_le_bytes w (take n u.rest))) (drop n u.rest) = record { parts = rw front (sym (take-append-drop n u.rest)); rest_fits = IsBytes-drop n u.rest fits } in
      subst (λ (q : Unread). Takes u.rest (to_le_bytes w x) q.rest × (x < limit)) rest (subst (λ (z : ℕ). Takes u.rest (to_le_bytes w z) (drop n u.rest) × (z < limit)) value (whole_is, wide.below (take n u.rest) front_fits));
  again = λ x h place rest.
      let len = wide.len x in
      let enough : ltb (length (to_le_bytes w x ++ rest)) (byte_len w) ≡ false = le-ltb _ _ (omega (arith, length-append (to_le_bytes w x) rest)) in
      (place + byte_len w, rw (enough, take_at (to_le_bytes w x) rest (byte_len w) len, drop_at (to_le_bytes w x) rest (byte_len w) len, wide.again x h) refl);
}

-- ---- items in a row

again_nil : {S A : Type 0} (item : S → Item A) (after : S → A → S) (text : A → List ℕ) (s : S) (ys : List A) → length ys ≡ 0 → (place : ℕ) (rest : List ℕ) → (q : ℕ) × (items item after 0 s (from place (flat_map text ys ++ rest)) ≡ Ok (ys, from q rest))
unfolding items
again_nil item after text s [] h place rest = (place, refl)
again_nil item after text s (y ∷ ys) h place rest = absurd (omega arith)

again_cons : {S A : Type 0} {item : S → Item A} {after : S → A → S} {text : A → List ℕ} {P : S → A → Type 0} → ((s : S) → IsField (item s) text (P s)) → (n : ℕ) → ((s : S) → IsField (items item after n s) (flat_map text) (λ xs. (length xs ≡ n) × InTurn P after s xs)) → (s : S) (ys : List A) → ((length ys ≡ suc n) × InTurn P after s ys) → (place : ℕ) (rest : List ℕ) → (q : ℕ) × (items item after (suc n) s (from place (flat_map text ys ++ rest)) ≡ Ok (ys, from q rest))
unfolding items
again_cons each n others s [] h place rest = absurd (omega arith)
again_cons {S} {A} {item} {after} {text} each n others s (y ∷ ys) h place rest =
    let len : length ys ≡ n = omega arith in
    let a = (each s).again y h.1.0 place (flat_map text ys ++ rest) in
    let b = (others (after s y)).again ys (len, h.1.1) a.0 rest in
    (b.0, rw (append_assoc (text y) (flat_map text ys) rest, a.1, b.1) refl)

pub items_field : {S A : Type 0} {item : S → Item A} {after : S → A → S} {text : A → List ℕ} {P : S → A → Type 0} → ((s : S) → IsField (item s) text (P s)) → (n : ℕ) (s : S) → IsField (items item after n s) (flat_map text) (λ xs. (length xs ≡ n) × InTurn P after s xs)
unfolding items
items_field {S} {A} {item} {after} {text} {P} each zero s = record {
  takes = λ u y v fits e.
      subst (λ (w : Unread). Takes u.rest (flat_map text y) w.rest × ((length y ≡ 0) × InTurn P after s y)) (same_rest [] y u v e) (subst (λ (ys : List A). Takes u.rest (flat_map text ys) u.rest × ((length ys ≡ 0) × InTurn P after s ys)) (same_value [] y u v e) (record { parts = refl; rest_fits = fits }, (refl, tt)));
  again = λ y h place rest. again_nil item after text s y h.0 place rest;
}
items_field {S} {A} {item} {after} {text} {P} each (suc n) s = record {
  takes = λ u ys w fits e.
      let b = bind_ok (item s u) (λ x. items item after n (after s x) >>= λ xs. gives (x ∷ xs)) ys w e in
      let c = bind_ok (items item after n (after s b.0) b.1) (λ xs. gives (b.0 ∷ xs)) ys w b.3 in
      let t = (each s).takes u b.0 b.1 fits b.2 in
      let r = (items_field {item = item} {after = after} {P = P} each n (after s b.0)).takes b.1 c.0 c.1 t.0.rest_fits c.2 in
      let both = Takes-then u.rest (text b.0) b.1.rest (flat_map text c.0) c.1.rest t.0 r.0 in
      let value = same_value (b.0 ∷ c.0) ys c.1 w c.3 in
      let rest = same_rest (b.0 ∷ c.0) ys c.1 w c.3 in
      subst (λ (v : Unread). Takes u.rest (flat_map text ys) v.rest × ((length ys ≡ suc n) × InTurn P after s ys)) rest (subst (λ (zs : List A). Takes u.rest (flat_map text zs) c.1.rest × ((length zs ≡ suc n) × InTurn P after s zs)) value (both, (ap suc r.1.0, (t.1, r.1.1))));
  again = λ ys h place rest. again_cons {item = item} {after = after} {P = P} each n (items_field {item = item} {after = after} {P = P} each n) s ys h place rest;
}

-- ---- all of the bytes

ends : {A : Type 0} (x : A × Unread) (y : A) (b : Bool) → eqb (length x.1.rest) 0 ≡ b → cond b (done x.0) (Err (record { at = x.1.place; kind = Extra })) ≡ done y → (v : Unread) × (read_as x.0 x.1 ≡ Ok (y, v)) × (v.rest ≡ [])
ends {A} x y true h g = (x.1, ap (λ (z : A). read_as z x.1) (done_is x.0 y g), nil_from_length x.1.rest (eqb-true _ _ h))
ends x y false h g = absurd cc

ended : {A : Type 0} (r : Result (A × Unread) Fault) (y : A) → last r ≡ Ok y → (v : Unread) × (r ≡ Ok (y, v)) × (v.rest ≡ [])
ended (Ok x) y e = ends x y (eqb (length x.1.rest) 0) refl e
ended (Err d) y e = absurd cc

pub everything_takes : {A : Type 0} {item : Item A} {text : A → List ℕ} {P : A → Type 0} → IsField item text P → (bs : List ℕ) (x : A) → IsBytes bs → everything item bs ≡ Ok x → (bs ≡ text x) × P x
everything_takes {A} {item} {text} one bs x fits e =
    let b = ended (item (all_of bs)) x e in
    let t = one.takes (all_of bs) x b.0 fits b.1 in
    (t.0.parts ∙ ap (λ (r : List ℕ). text x ++ r) b.2 ∙ append-nil (text x), t.1)

pub everything_again : {A : Type 0} {item : Item A} {text : A → List ℕ} {P : A → Type 0} → IsField item text P → (x : A) → P x → everything item (text x) ≡ Ok x
everything_again {A} {item} {text} one x h =
    let a = one.again x h 0 [] in
    let read : item (all_of (text x)) ≡ Ok (x, from a.0 []) = ap (λ (bs : List ℕ). item (all_of bs)) (sym (append-nil (text x))) ∙ a.1 in
    rw read refl

-- no text is a front of another
pub apart : {A : Type 0} {item : Item A} {text : A → List ℕ} {P : A → Type 0} → IsField item text P → (a b : A) (rest : List ℕ) → P a → P b → text a ++ rest ≡ text b → (a ≡ b) × (rest ≡ [])
apart {A} {item} {text} one a b rest ha hb e =
    let x = one.again a ha 0 rest in
    let y = one.again b hb 0 [] in
    let same : read_as a (from x.0 rest) ≡ read_as b (from y.0 []) = sym x.1 ∙ ap (λ (bs : List ℕ). item (from 0 bs)) (e ∙ sym (append-nil (text b))) ∙ y.1 in
    (same_value a b (from x.0 rest) (from y.0 []) same, ap (λ (u : Unread). u.rest) (same_rest a b (from x.0 rest) (from y.0 []) same))

-- where reading gives a value, a function gives it too, unless memory runs out
pub read_back : {A : Type 0} (r : Result A FormatError) (x : A) (read : Result A Fault) → Answers r read → read ≡ Ok x → IsReadAs r x
read_back (Ok y) x read given e = done_is y x (sym given ∙ e)
read_back (Err errors.Memory) x read given e = refl
read_back {A} (Err (errors.Bad at kind)) x read given e = absurd (never x (record { at = at; kind = kind }) (sym e ∙ given))

-- ---- values in a row

pub turn_weaker : {S A : Type 0} (P Q : S → A → Type 0) (after : S → A → S) → ((s : S) (x : A) → P s x → Q s x) → (s : S) (xs : List A) → InTurn P after s xs → InTurn Q after s xs
turn_weaker P Q after f s [] h = tt
turn_weaker P Q after f s (x ∷ xs) h = (f s x h.0, turn_weaker P Q after f (after s x) xs h.1)

pub all_from_turn : {S A : Type 0} (P : S → A → Type 0) (Q : A → Type 0) (after : S → A → S) → ((s : S) (x : A) → P s x → Q x) → (s : S) (xs : List A) → InTurn P after s xs → AllByRecursion Q xs
all_from_turn P Q after f s [] h = tt
all_from_turn P Q after f s (x ∷ xs) h = (f s x h.0, all_from_turn P Q after f (after s x) xs h.1)

pub turn_with : {S A : Type 0} (P : S → A → Type 0) (Q : A → Type 0) (R : S → A → Type 0) (after : S → A → S) → ((s : S) (x : A) → P s x → Q x → R s x) → (s : S) (xs : List A) → InTurn P after s xs → AllByRecursion Q xs → InTurn R after s xs
turn_with P Q R after f s [] h k = tt
turn_with P Q R after f s (x ∷ xs) h k = (f s x h.0 k.0, turn_with P Q R after f (after s x) xs h.1 k.1)

pub turn_from_all : {S A : Type 0} (P : A → Type 0) (after : S → A → S) (s : S) (xs : List A) → AllByRecursion P xs → InTurn (λ state. P) after s xs
turn_from_all P after s [] h = tt
turn_from_all P after s (x ∷ xs) h = (h.0, turn_from_all P after (after s x) xs h.1)

pub not_true : (b : Bool) → (b ≡ true → ⊥) → b ≡ false
not_true true h = absurd (h refl)
not_true false h = refl

-- the length of texts of one length
pub flat_map_each : {A : Type 0} (text : A → List ℕ) (P : A → Type 0) (k : ℕ) → ((x : A) → P x → length (text x) ≡ k) → (xs : List A) → AllByRecursion P xs → length (flat_map text xs) ≡ k * length xs
flat_map_each text P k each [] h = sym (mul-zero k)
flat_map_each text P k each (x ∷ xs) h =
    let n = flat_map_each text P k each xs h.1 in
    length-append (text x) (flat_map text xs) ∙ (rw (each x h.0, n) (omega arith))

pub flat_map_long : {A : Type 0} (text : A → List ℕ) (k : ℕ) → ((x : A) → length (text x) ≡ k) → (xs : List A) → length (flat_map text xs) ≡ k * length xs
flat_map_long text k each [] = sym (mul-zero k)
flat_map_long text k each (x ∷ xs) =
    let n = flat_map_long text k each xs in
    length-append (text x) (flat_map text xs) ∙ (rw (each x, n) (omega arith))

-- ---- fields that the formats share

pub unless_field : {A : Type 0} {item : Item A} {text : A → List ℕ} {P Q : A → Type 0} (kind : FormatKind) (test : A → Bool) → IsField item text P → ((x : A) → P x → test x ≡ true → Q x) → ((x : A) → Q x → P x × (test x ≡ true)) → IsField (checked item (unless kind test)) text Q
unless_field kind test one there here = field_same (checked_field (unless kind test) one) (λ x h. there x h.0 (allowed kind (test x) h.1)) (λ x h. let k = here x h in (k.0, passes kind (test x) k.1))

pub magic_field : (name : List ℕ) → length name ≡ 8 → IsBytes name → IsField (magic name) (λ bs. bs) (λ bs. bs ≡ name)
magic_field name len fits = unless_field Magic (bytes_eq name) (bytes_field 8)
    (λ bs h e. sym ((bytes_eq-Decides name bs).0 e))
    (λ bs e. ((ap length e ∙ len, subst IsBytes (sym e) fits), (bytes_eq-Decides name bs).1 (sym e)))

pub segment_field : IsField segment_number (to_le_bytes w64) (λ n. n < 2 ^ 60)
segment_field = unless_field Range (λ n. ltb n (2 ^ 60)) (number_field w64 (2 ^ 64) wide64) (λ n h e. ltb-true n (2 ^ 60) e) (λ n h. (omega arith, lt-ltb n (2 ^ 60) h))

pub between_field : (least most : ℕ) → most < 2 ^ 32 → IsField (between least most) (to_le_bytes w32) (λ n. (least ≤ n) × (n ≤ most))
between_field least most small = unless_field Range (λ n. leb least n && leb n most) (number_field w32 (2 ^ 32) wide32)
    (λ n h e. (grind (arith, nat_tests), grind (arith, nat_tests)))
    (λ n h. (omega arith, grind (arith, nat_tests)))

-- items in a row whose rule is on the state, and whose size is not
pub sized_field : {S A : Type 0} {item : S → Item A} {after : S → A → S} {text : A → List ℕ} (R : S → A → Type 0) (Q : A → Type 0) → ((s : S) → IsField (item s) text (λ x. R s x × Q x)) → (n : ℕ) (s : S)
    → IsField (items item after n s) (flat_map text) (λ xs. (length xs ≡ n) × InTurn R after s xs × AllByRecursion Q xs)
sized_field {S} {A} {item} {after} R Q each n s = field_same (items_field {item = item} {after = after} {P = λ t x. R t x × Q x} each n s)
    (λ xs h. (h.0, turn_weaker (λ t x. R t x × Q x) R after (λ t x k. k.0) s xs h.1, all_from_turn (λ t x. R t x × Q x) Q after (λ t x k. k.1) s xs h.1))
    (λ xs h. (h.0, turn_with R Q (λ t x. R t x × Q x) after (λ t x k l. (k, l)) s xs h.1 h.2))

pub run_field : {A : Type 0} {item : Item A} {text : A → List ℕ} {P : A → Type 0} → IsField item text P → (n : ℕ) → IsField (run n item) (flat_map text) (λ xs. (length xs ≡ n) × AllByRecursion P xs)
run_field {A} {item} {text} {P} one n = field_same (items_field {S = Unit {0}} {item = λ state. item} {after = λ state x. state} {P = λ state x. P x} (λ state. one) n tt)
    (λ xs h. (h.0, all_from_turn (λ (state : Unit {0}) x. P x) P (λ state x. state) (λ state x k. k) tt xs h.1))
    (λ xs h. (h.0, turn_from_all P (λ (state : Unit {0}) x. state) tt xs h.1))

one_byte : (found : List ℕ) → length found ≡ 1 → get_or found 0 0 ∷ [] ≡ found
one_byte [] h = absurd (omega arith)
one_byte (b ∷ []) h = refl
one_byte (b ∷ c ∷ bs) h = absurd (omega arith)

single_fits : (b : ℕ) → b < 256 → IsBytes (b ∷ [])
single_fits b h zero = h
single_fits b h (suc i) = omega arith

pub byte_field : IsField byte (λ b. b ∷ []) (λ b. b < 256)
byte_field = field_as (λ found. get_or found 0 0) (λ b. b ∷ []) (bytes_field 1) (λ found h. (one_byte found h.0, h.1 0)) (λ b h. ((refl, single_fits b h), refl))
